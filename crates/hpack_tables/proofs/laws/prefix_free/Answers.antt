use Rattle.hpack_tables.proofs.Codes.{prefix_free}
use Rattle.hpack_tables.proofs.laws.prefix_free.Goals as goal

pub returns : goal.returns
returns c = prefix_free
