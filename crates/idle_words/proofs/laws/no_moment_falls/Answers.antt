use Rattle.idle_words.proofs.Stamping.{none_falls}
use Rattle.idle_words.proofs.laws.no_moment_falls.Goals as goal

pub returns : goal.returns
returns c = none_falls
