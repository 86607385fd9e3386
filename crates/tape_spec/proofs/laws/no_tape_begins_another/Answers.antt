use Rattle.tape_spec.proofs.Tapes.{no_tape_begins_another}
use Rattle.tape_spec.proofs.laws.no_tape_begins_another.Goals as goal

pub returns : goal.returns
returns c = no_tape_begins_another
