use Rattle.std.proofs.Common.{sym}
use Rattle.h2_streams.specs.Streams.{received}
use Rattle.h2_streams.proofs.Places.{unchanged_seen, changed_seen}
use Rattle.h2_streams.proofs.table.Streams.receive.Goals as goal

pub returns-in_default : goal.returns-in_default
returns-in_default c = unchanged_seen c.args.number (received c.args.count c.args.end_stream) c.args.self.now c.self.inside.items.items c.as_slice.result.now (sym c.self.view_is) c.as_slice.ensures.value c.in_default.ensures

pub returns : goal.returns
returns c = changed_seen c.args.number c.in-Some.place (received c.args.count c.args.end_stream) c.args.self.now c.self.inside.items.items c.as_slice.result.now c.index_mut-stream.result.now c.receive.new.self (sym c.self.view_is) c.as_slice.ensures.value c.in-Some.ensures c.index_mut-stream.ensures.value c.receive.ensures
