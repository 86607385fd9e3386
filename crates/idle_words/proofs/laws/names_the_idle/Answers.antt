use Rattle.idle_words.proofs.Naming.{names_idle}
use Rattle.idle_words.proofs.laws.names_the_idle.Goals as goal

pub returns : goal.returns
returns c = names_idle
