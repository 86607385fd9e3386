use Rattle.gen_tape.proofs.Grammar.{plain}
use Rattle.gen_tape.proofs.laws.has_no_others.Goals as goal

pub returns : goal.returns
returns c = plain
