use Rattle.std.proofs.Common.{◌≡◌}
use Rattle.std.specs.Prelude.{fold}
use Rattle.grpc_streams.specs.Taking.{one_more}
use Rattle.grpc_streams.proofs.taking.with_messages.Given as goal

abbrev pub invariant-loop-message : goal.invariant-loop-message
invariant-loop-message l = l.received ≡ fold one_more l.fn.received l.yielded
