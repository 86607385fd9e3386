use Rattle.run_spec.proofs.Fitting.{played_is_report}
use Rattle.run_spec.proofs.laws.played_is_report.Goals as goal

pub returns : goal.returns
returns c = record { law = played_is_report }
