use Rattle.switch_spec.proofs.Answers.{events_ignore}
use Rattle.switch_spec.proofs.laws.events_ignore_figures.Goals as goal

pub returns : goal.returns
returns c = record { law = events_ignore }
