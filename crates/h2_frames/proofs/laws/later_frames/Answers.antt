use Rattle.h2_frames.proofs.Sequences.{later}
use Rattle.h2_frames.proofs.laws.later_frames.Goals as goal

pub returns : goal.returns
returns c = later
