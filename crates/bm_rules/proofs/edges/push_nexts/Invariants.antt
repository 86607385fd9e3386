use Rattle.std.proofs.Common.{◌≡◌, ◌++◌, take}
use Rattle.std.specs.List.{flat_map}
use Rattle.bm_rules.specs.Graphs.{as_places, optional_node}
use Rattle.bm_rules.proofs.edges.push_nexts.Given as goal

abbrev pub invariant-loop-next : goal.invariant-loop-next
invariant-loop-next l = l.edges ≡ l.initial.edges ++ flat_map (λ next. as_places (optional_node l.nodes.pipeline.now next.node)) (take l.next-index l.nexts)
