use Rattle.gen_tape.proofs.Grammar.{within}
use Rattle.gen_tape.proofs.laws.is_within_limits.Goals as goal

pub returns : goal.returns
returns c = within
