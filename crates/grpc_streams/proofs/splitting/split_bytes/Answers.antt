use Rattle.std.proofs.Common.{length, sym}
use Rattle.grpc_streams.proofs.Splits.{all_kept}
use Rattle.grpc_streams.proofs.splitting.split_bytes.Goals as goal

pub returns-in-Ok-None : goal.returns-in-Ok-None
returns-in-Ok-None c = rw c.new.ensures (all_kept (length c.args.bytes) c.args.bytes (rw (c.in-Ok-None.field-0-is, c.as_slice.ensures) at (sym c.in-Ok-None.ensures.front)))
