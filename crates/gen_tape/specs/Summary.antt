-- The summary of a report (this project's profile).
use Rattle.std.specs.Prelude.{ℕ, Bool, true, false, List, [], ◌∷◌, ◌++◌, length, sum_by, count_by, not, codes}
use Rattle.std.specs.Fmt.{decimal}
use Rattle.p4_types.specs.declared.journal.Entry.{Entry}
use Rattle.p4_types.specs.declared.journal.Report.{Report}
use Rattle.p4_types.specs.declared.records.Fate.{Fate}
use Rattle.p4_types.specs.declared.records.Fate.TheVariants.{Sent, Dropped}
use Rattle.run_spec.specs.Text.{line}

-- whether a packet was sent
abbrev pub is_sent : Fate → Bool
is_sent Sent = true
is_sent (Dropped reason) = false

-- the steps of all calls
abbrev pub steps_of : List Entry → ℕ
steps_of journal = sum_by (λ entry. length entry.steps) journal

-- the lines of so many calls, steps, packets, packets that were sent and packets that were dropped
unfoldable pub summary_lines : ℕ → ℕ → ℕ → ℕ → ℕ → List ℕ
summary_lines calls steps packets sent dropped =
    line (codes "calls" ∷ decimal calls ∷ [])
    ++ (line (codes "steps" ∷ decimal steps ∷ [])
    ++ (line (codes "packets" ∷ decimal packets ∷ [])
    ++ (line (codes "sent" ∷ decimal sent ∷ [])
    ++ line (codes "dropped" ∷ decimal dropped ∷ []))))

-- those of a report
abbrev pub summary : Report → List ℕ
summary r =
    summary_lines (length r.journal) (steps_of r.journal) (length r.records) (count_by (λ one. is_sent one.fate) r.records) (count_by (λ one. not (is_sent one.fate)) r.records)
