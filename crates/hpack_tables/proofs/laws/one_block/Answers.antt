use Rattle.hpack_tables.proofs.Wholes.{one_block}
use Rattle.hpack_tables.proofs.laws.one_block.Goals as goal

pub returns : goal.returns
returns c = one_block
