use Rattle.std.proofs.Common.{◌≡◌, take, find, None}
use Rattle.program_spec.specs.Parsing.{key_passes}
use Rattle.program_spec.specs.Stores.{joined}
use Rattle.pkt_codec.proofs.reading.taken.Given as goal

abbrev pub invariant-loop-transition : goal.invariant-loop-transition
invariant-loop-transition l = find (λ transition. key_passes transition.test (joined l.store l.state.transition_key)) (take l.transition-index l.state.transitions) ≡ None
