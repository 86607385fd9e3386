use Rattle.std.proofs.Common.{arith}
use Rattle.row_index.proofs.Bits.{no_bits}
use Rattle.row_index.proofs.matching.prefix_bits.Goals as goal

pub returns-else-others-lt128 : goal.returns-else-others-lt128
returns-else-others-lt128 c = no_bits _ _ (omega arith) (omega arith)
