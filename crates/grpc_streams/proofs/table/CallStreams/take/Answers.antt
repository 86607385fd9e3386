use Rattle.std.proofs.Common.{sym}
use Rattle.grpc_streams.proofs.Places.{all_others_seen}
use Rattle.grpc_streams.proofs.table.CallStreams.take.Goals as goal

pub returns-in_err-place-clause-others : goal.returns-in_err-place-clause-others
returns-in_err-place-clause-others c = all_others_seen c.args.number c.args.self.now c.self.inside.items.items c.as_slice.result.now (sym c.self.view_is) c.as_slice.ensures.value c.in_err-place.ensures
