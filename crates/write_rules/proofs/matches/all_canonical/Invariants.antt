use Rattle.std.proofs.Common.{◌≡◌, drop}
use Rattle.std.specs.List.{list_all}
use Rattle.plane_spec.specs.UpdateRules.{matched, is_canonical_in}
use Rattle.write_rules.proofs.matches.all_canonical.Given as goal

abbrev pub invariant-loop-asked : goal.invariant-loop-asked
invariant-loop-asked l = list_all (λ asked. is_canonical_in (matched l.table asked)) (drop l.asked-index l.matches) ≡ list_all (λ asked. is_canonical_in (matched l.table asked)) l.matches
