use Rattle.switch_spec.proofs.Figureless.{only_counters_tell}
use Rattle.switch_spec.proofs.laws.only_counters_tell.Goals as goal

pub returns : goal.returns
returns c = record { law = only_counters_tell }
