use Rattle.counter_bank.proofs.Slots.{none_falls}
use Rattle.counter_bank.proofs.laws.nothing_falls.Goals as goal

pub returns : goal.returns
returns c = none_falls
