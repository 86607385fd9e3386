use Rattle.std.proofs.Common.{◌≡◌, map}
use Rattle.grpc_streams.specs.declared.event.GrpcEvent.TheVariants as events
use Rattle.grpc_streams.proofs.taking.message_events.Given as goal

abbrev pub invariant-loop-bytes : goal.invariant-loop-bytes
invariant-loop-bytes l = l.list ≡ map (λ message. events.Message l.number l.method message) l.yielded
