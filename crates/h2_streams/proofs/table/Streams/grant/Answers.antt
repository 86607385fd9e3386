use Rattle.std.proofs.Common.{◌≡◌, false, sym}
use Rattle.h2_streams.specs.Streams.{granted, is_too_wide}
use Rattle.h2_streams.proofs.Places.{unchanged_seen, changed_seen, kept_seen}
use Rattle.h2_streams.proofs.table.Streams.grant.Goals as goal

pub returns-in_default : goal.returns-in_default
returns-in_default c = unchanged_seen c.args.number (granted c.args.count) c.args.self.now c.self.inside.items.items c.as_slice.result.now (sym c.self.view_is) c.as_slice.ensures.value c.in_default.ensures

pub grant-requires : goal.grant-requires
grant-requires c = kept_seen c.args.number c.in-Some.place (λ s. is_too_wide c.args.initial (granted c.args.count s) ≡ false) c.args.self.now c.self.inside.items.items c.as_slice.result.now c.index_mut-stream.result.now (sym c.self.view_is) c.as_slice.ensures.value c.in-Some.ensures c.index_mut-stream.ensures.value c.requires

pub returns : goal.returns
returns c = changed_seen c.args.number c.in-Some.place (granted c.args.count) c.args.self.now c.self.inside.items.items c.as_slice.result.now c.index_mut-stream.result.now c.grant.new.self (sym c.self.view_is) c.as_slice.ensures.value c.in-Some.ensures c.index_mut-stream.ensures.value c.grant.ensures
