use Rattle.idle_words.proofs.Naming.{nothing_before}
use Rattle.idle_words.proofs.laws.nothing_before_next.Goals as goal

pub returns : goal.returns
returns c = nothing_before
