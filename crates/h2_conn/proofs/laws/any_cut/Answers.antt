use Rattle.h2_conn.proofs.Cuts.{any_cut}
use Rattle.h2_conn.proofs.laws.any_cut.Goals as goal

pub returns : goal.returns
returns c = any_cut
