use Rattle.hpack_tables.proofs.ReadBack.{read_back}
use Rattle.hpack_tables.proofs.laws.read_back.Goals as goal

pub returns : goal.returns
returns c = read_back
