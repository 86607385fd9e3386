use Rattle.std.proofs.Common.{◌≡◌, ◌==◌, drop}
use Rattle.std.specs.List.{list_any}
use Rattle.write_rules.proofs.sets.refers.Given as goal

abbrev pub invariant-loop-reference : goal.invariant-loop-reference
invariant-loop-reference l = list_any (λ ref. ref.id == l.id) (drop l.reference-index l.reference-items) ≡ list_any (λ ref. ref.id == l.id) l.table.action_refs
