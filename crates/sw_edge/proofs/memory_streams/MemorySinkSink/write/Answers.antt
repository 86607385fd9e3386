use Rattle.std.proofs.Common.{◌*◌, arith}
use Rattle.sw_edge.proofs.PieceLaws.{sends-cut}
use Rattle.sw_edge.proofs.memory_streams.MemorySinkSink.write.Goals as goal

pub returns-in_default-clause-sends : goal.returns-in_default-clause-sends
returns-in_default-clause-sends c =
    sends-cut (c.left.result) (64 * c.call_until-whole.result) _ _ _ (grind arith)
