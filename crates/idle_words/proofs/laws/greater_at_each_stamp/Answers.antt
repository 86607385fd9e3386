use Rattle.idle_words.proofs.Stamping.{greater_each}
use Rattle.idle_words.proofs.laws.greater_at_each_stamp.Goals as goal

pub returns : goal.returns
returns c = greater_each
