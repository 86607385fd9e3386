use Rattle.h2_conn.proofs.Histories.{any_pieces}
use Rattle.h2_conn.proofs.laws.any_pieces.Goals as goal

pub returns : goal.returns
returns c = any_pieces
