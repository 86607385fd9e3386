use Rattle.h2_conn.proofs.WholeFrames.{whole_frames}
use Rattle.h2_conn.proofs.laws.whole_frames.Goals as goal

pub returns : goal.returns
returns c = whole_frames
