use Rattle.std.proofs.Common.{◌≡◌, ◌++◌, map, take}
use Rattle.bm_rules.specs.Graphs.{conditional_edges}
use Rattle.bm_rules.proofs.edges.push_conditionals.Given as goal

abbrev pub invariant-loop-conditional : goal.invariant-loop-conditional
invariant-loop-conditional l = l.all ≡ l.initial.all ++ map (conditional_edges l.nodes.pipeline.now) (take l.conditional-index l.conditionals)
