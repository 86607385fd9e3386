use Rattle.std.proofs.Common.{◌≡◌, false}
use Rattle.run_spec.specs.TapeReading.{some_called}
use Rattle.tape_form.specs.Calls.{lanes_of}
use Rattle.tape_form.proofs.lanes.SeenLanes.some_called.Given as goal

abbrev pub invariant-loop-count : goal.invariant-loop-count
invariant-loop-count l = some_called l.count-index (lanes_of l.self).lanes ≡ false
