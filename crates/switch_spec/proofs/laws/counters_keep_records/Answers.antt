use Rattle.switch_spec.proofs.Counters.{counters_keep_records}
use Rattle.switch_spec.proofs.laws.counters_keep_records.Goals as goal

pub returns : goal.returns
returns c = record { law = counters_keep_records }
