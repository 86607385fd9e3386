use Rattle.counter_bank.proofs.Slots.{notes_one}
use Rattle.counter_bank.proofs.laws.notes_one_slot.Goals as goal

pub returns : goal.returns
returns c = notes_one
