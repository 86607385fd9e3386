use Rattle.h2_conn.proofs.OutputBounds.{output_bounded}
use Rattle.h2_conn.proofs.laws.output_bounded.Goals as goal

pub returns : goal.returns
returns c = output_bounded
