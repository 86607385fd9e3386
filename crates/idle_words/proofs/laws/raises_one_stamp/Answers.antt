use Rattle.idle_words.proofs.Stamping.{raises_one}
use Rattle.idle_words.proofs.laws.raises_one_stamp.Goals as goal

pub returns : goal.returns
returns c = raises_one
