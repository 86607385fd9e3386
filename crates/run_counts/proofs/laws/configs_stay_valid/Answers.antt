use Rattle.run_counts.proofs.Valid.{configs_stay_valid}
use Rattle.run_counts.proofs.laws.configs_stay_valid.Goals as goal

pub returns : goal.returns
returns c = record { law = configs_stay_valid }
