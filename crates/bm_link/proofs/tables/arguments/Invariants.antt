use Rattle.std.proofs.Common.{◌≡◌, map, take}
use Rattle.link_spec.specs.Fields.{of_part}
use Rattle.bm_link.proofs.tables.arguments.Given as goal

abbrev pub invariant-loop-literal : goal.invariant-loop-literal
invariant-loop-literal l = l.arguments ≡ map (of_part 0 (λ value. value)) (take l.literal-index l.literals)
