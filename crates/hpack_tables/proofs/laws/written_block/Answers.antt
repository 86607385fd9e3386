use Rattle.hpack_tables.proofs.Written.{written_block}
use Rattle.hpack_tables.proofs.laws.written_block.Goals as goal

pub returns : goal.returns
returns c = written_block
