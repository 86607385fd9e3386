use Rattle.std.proofs.Common.{arith, sym}
use Rattle.tape_form.proofs.Callers.{some_has, none_has}
use Rattle.tape_form.proofs.lanes.SeenLanes.some_called.Goals as goal

pub returns-then-count-gt0 : goal.returns-then-count-gt0
returns-then-count-gt0 c = sym (some_has c.args.self.now c.loop-count.count-index (omega arith) c.if-count-gt0.true)

pub returns : goal.returns
returns c = sym (none_has c.args.self.now c.loop-count.count-index c.loop-count.invariant (omega arith))
