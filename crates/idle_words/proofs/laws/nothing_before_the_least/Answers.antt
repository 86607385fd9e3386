use Rattle.idle_words.proofs.Naming.{nothing_before_least}
use Rattle.idle_words.proofs.laws.nothing_before_the_least.Goals as goal

pub returns : goal.returns
returns c = nothing_before_least
