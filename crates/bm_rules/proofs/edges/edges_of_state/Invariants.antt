use Rattle.std.proofs.Common.{◌≡◌, take}
use Rattle.std.specs.List.{flat_map}
use Rattle.bm_rules.specs.Graphs.{as_places, next_state}
use Rattle.bm_rules.proofs.edges.edges_of_state.Given as goal

abbrev pub invariant-loop-transition : goal.invariant-loop-transition
invariant-loop-transition l = l.edges ≡ flat_map (λ x. as_places (next_state l.states x.next_state)) (take l.transition-index l.transitions)
