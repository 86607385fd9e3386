use Rattle.h2_conn.proofs.Histories.{whole_frame}
use Rattle.h2_conn.proofs.laws.whole_frame.Goals as goal

pub returns : goal.returns
returns c = whole_frame
