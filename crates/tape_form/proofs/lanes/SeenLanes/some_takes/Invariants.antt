use Rattle.std.proofs.Common.{◌≡◌, false}
use Rattle.tape_spec.specs.Reading.{some_lane}
use Rattle.tape_form.specs.Calls.{lanes_of, these}
use Rattle.tape_form.proofs.lanes.SeenLanes.some_takes.Given as goal

abbrev pub invariant-loop-lane : goal.invariant-loop-lane
invariant-loop-lane l = some_lane l.lane (these l.taking (lanes_of l.self)) ≡ false
