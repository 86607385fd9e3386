use Rattle.h2_conn.proofs.Bounded.{always_bounded}
use Rattle.h2_conn.proofs.laws.always_bounded.Goals as goal

pub returns : goal.returns
returns c = always_bounded
