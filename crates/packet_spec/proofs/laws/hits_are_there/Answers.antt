use Rattle.packet_spec.proofs.Hits as hits
use Rattle.packet_spec.proofs.laws.hits_are_there.Goals as goal

pub returns : goal.returns
returns c = hits.hits_are_there
