use Rattle.idle_words.proofs.Naming.{one_seat}
use Rattle.idle_words.proofs.laws.one_seat_never_falls.Goals as goal

pub returns : goal.returns
returns c = one_seat
