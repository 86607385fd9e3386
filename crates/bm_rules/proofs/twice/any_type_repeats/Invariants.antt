use Rattle.std.proofs.Common.{◌≡◌, map, take, false}
use Rattle.std.specs.List.{list_any}
use Rattle.bm_rules.specs.Names.{names_repeat}
use Rattle.bm_rules.proofs.twice.any_type_repeats.Given as goal

abbrev pub invariant-loop-header_type : goal.invariant-loop-header_type
invariant-loop-header_type l = list_any (λ x. names_repeat (map (λ x. x.name) x.fields)) (take l.header_type-index l.types) ≡ false
