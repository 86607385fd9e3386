use Rattle.std.proofs.Common.{arith}
use Rattle.run_spec.specs.TapeReading.{text_at}
use Rattle.tape_form.proofs.Loop.{text_missing}
use Rattle.tape_form.proofs.parse.text_at.Goals as goal

pub returns-in-empty : goal.returns-in-empty
returns-in-empty c = text_missing c.args.text.now c.loop-wanted.rest.now c.loop-wanted.wanted-index (text_at c.args.text.now c.args.bytes.now) c.loop-wanted-test.true (omega (arith, c.in-empty.len_below)) c.loop-wanted.invariant
