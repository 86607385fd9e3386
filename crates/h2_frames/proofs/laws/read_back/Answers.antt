use Rattle.h2_frames.proofs.ReadBack.{read_back}
use Rattle.h2_frames.proofs.laws.read_back.Goals as goal

pub returns : goal.returns
returns c = read_back
