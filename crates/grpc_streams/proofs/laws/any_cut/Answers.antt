use Rattle.grpc_streams.proofs.Cuts.{any_cut}
use Rattle.grpc_streams.proofs.laws.any_cut.Goals as goal

pub returns : goal.returns
returns c = any_cut
