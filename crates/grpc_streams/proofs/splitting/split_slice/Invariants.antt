use Rattle.std.proofs.Common.{◌≡◌, ◌-◌}
use Rattle.grpc_streams.specs.Messages.{behind, split_in, split_of}
use Rattle.grpc_streams.proofs.splitting.split_slice.Given as goal

abbrev pub invariant-loop : goal.invariant-loop
invariant-loop l = behind l.messages (split_in (l.end - l.counter) l.rest) ≡ split_of l.bytes
