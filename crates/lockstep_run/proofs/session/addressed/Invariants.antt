use Rattle.std.proofs.Common.{◌≡◌, map}
use Rattle.switch_spec.specs.Meaning.{to_lane}
use Rattle.lockstep_run.proofs.session.addressed.Given as goal

abbrev pub invariant-loop-packet : goal.invariant-loop-packet
invariant-loop-packet l = l.messages ≡ map (to_lane l.fn.lane) l.yielded
