use Rattle.std.proofs.Common.{◌≡◌, ◌++◌, map, take}
use Rattle.link_spec.specs.Tables.{conditional_of}
use Rattle.bm_link.specs.Sides.{side_of}
use Rattle.bm_link.proofs.tables.push_conditionals.Given as goal

abbrev pub invariant-loop-conditional : goal.invariant-loop-conditional
invariant-loop-conditional l = l.conditionals ≡ l.initial.conditionals ++ map (conditional_of l.scope.fields.raw.now (side_of l.side)) (take l.conditional-index l.side.pipeline.now.conditionals)
