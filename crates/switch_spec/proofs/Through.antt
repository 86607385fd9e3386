-- The steps through a call of a lane are at most those of the journal.
use Rattle.std.proofs.Common.{ℕ, zero, suc, ◌<◌, ◌≤◌, List, [], ◌∷◌, ◌++◌, length, map, get_or, arith}
use Rattle.std.specs.List.{AllByRecursion}
use Rattle.switch_spec.specs.History.{Made}

-- each call of a journal is after at most so many steps
abbrev pub AreBy : ℕ → List Made → Type 0
AreBy n journal = AllByRecursion (λ (made : Made). made.entry.reply.steps ≤ n) journal

get_by : (front rest : List Made) (k n : ℕ) → AreBy n front → k < length front → get_or (map (λ (made : Made). made.entry.reply.steps) (front ++ rest)) k 0 ≤ n
get_by [] rest k n h lt = absurd (omega arith)
get_by (made ∷ front) rest zero n h lt = h.0
get_by (made ∷ front) rest (suc k) n h lt = get_by front rest k n h.1 (omega arith)

pub numbered_by : (front rest : List Made) (call n : ℕ) → AreBy n front → call ≤ length front → get_or (0 ∷ map (λ (made : Made). made.entry.reply.steps) (front ++ rest)) call 0 ≤ n
numbered_by front rest zero n h le = omega arith
numbered_by front rest (suc k) n h le = get_by front rest k n h (omega arith)
