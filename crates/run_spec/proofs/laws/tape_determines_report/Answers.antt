use Rattle.run_spec.proofs.Determined.{tape_determines}
use Rattle.run_spec.proofs.laws.tape_determines_report.Goals as goal

pub returns : goal.returns
returns c = record { law = tape_determines }
