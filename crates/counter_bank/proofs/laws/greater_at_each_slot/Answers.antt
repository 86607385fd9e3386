use Rattle.counter_bank.proofs.Slots.{greater_each}
use Rattle.counter_bank.proofs.laws.greater_at_each_slot.Goals as goal

pub returns : goal.returns
returns c = greater_each
