use Rattle.counter_bank.proofs.Slots.{counts_one}
use Rattle.counter_bank.proofs.laws.counts_one_packet.Goals as goal

pub returns : goal.returns
returns c = counts_one
