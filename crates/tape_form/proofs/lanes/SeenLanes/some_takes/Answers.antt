use Rattle.std.proofs.Common.{arith, sym, ◌∙◌}
use Rattle.tape_form.proofs.Callers.{some_is, none_is}
use Rattle.tape_form.specs.Calls.{lanes_of, these}
use Rattle.tape_form.proofs.lanes.SeenLanes.some_takes.Goals as goal

pub returns-then-takes : goal.returns-then-takes
returns-then-takes c = sym (some_is (these c.args.taking (lanes_of c.args.self.now)) c.loop-lane.lane (omega arith) (sym c.takes.ensures ∙ c.if-takes.true))

pub returns : goal.returns
returns c = sym (none_is (these c.args.taking (lanes_of c.args.self.now)) c.loop-lane.lane c.loop-lane.invariant (omega arith))
