use Rattle.gen_tape.proofs.Readings.{calls_are_read}
use Rattle.gen_tape.proofs.laws.calls_are_read.Goals as goal

pub returns : goal.returns
returns c = calls_are_read
