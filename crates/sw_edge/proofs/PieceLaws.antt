-- Calls that are counted until one is picked, and the pieces of a write.
use Rattle.std.proofs.Common.{◌≡◌, ℕ, zero, suc, ◌+◌, ◌-◌, ◌*◌, ◌<◌, ◌≤◌, min, true, false, if◌then◌else◌, List, ◌++◌, length, take, Some, sym, ◌∙◌, ap, arith}
use Rattle.std.proofs.lemmas.Grind.{div_ceil_times}
use Rattle.std.proofs.lemmas.List.{length-take, take_min, take-take}
use Rattle.sw_edge.specs.Memory.{Picked, is_next, after_call, after_calls, unpicked, fitting}
use Rattle.sw_edge.specs.Told.{AppendsPrefix}

-- a call behind so many
pub after_calls-next : (i : ℕ) (p : Picked) → after_calls (i + 1) p ≡ after_call (after_calls i p)
after_calls-next i p = let next : i + 1 ≡ suc i = omega arith in ap (λ n. after_calls n p) next

-- the next call is picked, so none comes before the first that is
pub unpicked-ends : (n : ℕ) (p : Picked) → 0 < n → is_next p ≡ true → unpicked n p ≡ 0
unpicked-ends zero p pos is = absurd omega (arith, pos)
unpicked-ends (suc n) p pos is = ap (λ b. if b then 0 else suc (unpicked n (after_call p))) is

-- the next call is not picked
unpicked-miss : (n : ℕ) (p : Picked) → is_next p ≡ false → unpicked (suc n) p ≡ suc (unpicked n (after_call p))
unpicked-miss n p is = ap (λ b. if b then 0 else suc (unpicked n (after_call p))) is

pub unpicked-goes : (n : ℕ) (p : Picked) → 0 < n → is_next p ≡ false → unpicked n p ≡ 1 + unpicked (n - 1) (after_call p)
unpicked-goes zero p pos is = absurd omega (arith, pos)
unpicked-goes (suc n) p pos is =
    let less : suc n - 1 ≡ n = omega arith in
    let more : suc (unpicked n (after_call p)) ≡ 1 + unpicked n (after_call p) = omega arith in
    unpicked-miss n p is ∙ more ∙ ap (λ k. 1 + unpicked k (after_call p)) (sym less)

pub ruleset calls = (after_calls-next, unpicked-ends, unpicked-goes)

-- the pieces that are tried hold all bytes, or one more than there is room for
pub fitting-reaches : (bytes left : ℕ) → min bytes (left + 1) ≤ 64 * fitting bytes left
fitting-reaches bytes left = omega (arith, div_ceil_times bytes 64 (omega arith))

pub ruleset pieces = (fitting-reaches)

-- a prefix of a prefix is a prefix
pub sends-cut : (left many : ℕ) (old new bytes : List ℕ) → new ≡ old ++ take left (take many bytes) → AppendsPrefix (Some old) (Some new) bytes
sends-cut left many old new bytes is =
    let n : ℕ = min left (length (take many bytes)) in
    let part : length (take many bytes) ≡ min many (length bytes) = length-take many bytes in
    let first : take n (take many bytes) ≡ take n bytes = take-take n many bytes (omega (arith, part)) in
    (n, omega (arith, part), is ∙ ap (λ l. old ++ l) (sym (take_min left (take many bytes)) ∙ first))
