use Rattle.h2_frames.proofs.Sequences.{joined}
use Rattle.h2_frames.proofs.laws.frames_joined.Goals as goal

pub returns : goal.returns
returns c = joined
