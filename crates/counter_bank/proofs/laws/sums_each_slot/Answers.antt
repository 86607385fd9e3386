use Rattle.counter_bank.proofs.Slots.{sums_each}
use Rattle.counter_bank.proofs.laws.sums_each_slot.Goals as goal

pub returns : goal.returns
returns c = sums_each
