use Rattle.std.proofs.Common.{◌≡◌, map, take}
use Rattle.std.specs.List.{flat_map}
use Rattle.bm_rules.specs.Graphs.{as_places, next_state}
use Rattle.bm_rules.proofs.edges.state_edges.Given as goal

abbrev pub invariant-loop-state : goal.invariant-loop-state
invariant-loop-state l = l.all ≡ map (λ state. flat_map (λ x. as_places (next_state l.states x.next_state)) state.transitions) (take l.state-index l.states)
