use Rattle.std.proofs.Common.{◌≡◌, ap}
use Rattle.ctl_lock.specs.declared.signed.Signed.{Signed}
use Rattle.lane_table.specs.Lanes.{Lane}
use Rattle.lane_table.proofs.Places.{last_taken, place_taken}
use Rattle.replay_run.proofs.Lasts.{some_lane, value_taken}
use Rattle.replay_run.proofs.passes.next_caller.Goals as goal
use Rattle.replay_run.specs.Opening.{IsPost}

pub take_last-own-requires : goal.take_last-own-requires
take_last-own-requires g c = record { some = some_lane g.J.Naming.calls c.args.lane c.args.calls.now.items c.requires.calls }

pub open_caller-requires-clause-table : goal.open_caller-requires-clause-table
open_caller-requires-clause-table g c = ap (λ (l : Lane Signed). l.table) (place_taken g.J.Naming.table c.args.lane _ _ c.take_last-place.result c.take_last-place.ensures.last c.requires.places).1

pub open_caller-requires-clause-number : goal.open_caller-requires-clause-number
open_caller-requires-clause-number g c = ap (λ (l : Lane Signed). l.number) (place_taken g.J.Naming.table c.args.lane _ _ c.take_last-place.result c.take_last-place.ensures.last c.requires.places).1

pub open_caller-requires-clause-nothing : goal.open_caller-requires-clause-nothing
open_caller-requires-clause-nothing g c = ap (λ (l : Lane Signed). l.entries) (place_taken g.J.Naming.table c.args.lane _ _ c.take_last-place.result c.take_last-place.ensures.last c.requires.places).1

pub open_caller-requires-clause-calls : goal.open_caller-requires-clause-calls
open_caller-requires-clause-calls g c = (value_taken g.J.Naming.calls c.args.lane _ _ c.take_last-own.result c.take_last-own.ensures.last c.requires.calls).1

pub open_caller-requires-clause-list : goal.open_caller-requires-clause-list
open_caller-requires-clause-list g c = (last_taken (IsPost g.J.Naming.list g.J.Naming.start g.J.Naming.bank) _ _ c.take_last-viewer.result c.take_last-viewer.ensures.last c.requires.posts).1.sees.list_is

pub open_caller-requires-clause-start : goal.open_caller-requires-clause-start
open_caller-requires-clause-start g c = (last_taken (IsPost g.J.Naming.list g.J.Naming.start g.J.Naming.bank) _ _ c.take_last-viewer.result c.take_last-viewer.ensures.last c.requires.posts).1.sees.start_is

pub open_caller-requires-clause-bank : goal.open_caller-requires-clause-bank
open_caller-requires-clause-bank g c = (last_taken (IsPost g.J.Naming.list g.J.Naming.start g.J.Naming.bank) _ _ c.take_last-viewer.result c.take_last-viewer.ensures.last c.requires.posts).1.bank_is

pub open_caller-requires-clause-part : goal.open_caller-requires-clause-part
open_caller-requires-clause-part g c = (last_taken (IsPost g.J.Naming.list g.J.Naming.start g.J.Naming.bank) _ _ c.take_last-viewer.result c.take_last-viewer.ensures.last c.requires.posts).1.one_part

pub open_caller-requires-clause-added : goal.open_caller-requires-clause-added
open_caller-requires-clause-added g c = (last_taken (IsPost g.J.Naming.list g.J.Naming.start g.J.Naming.bank) _ _ c.take_last-viewer.result c.take_last-viewer.ensures.last c.requires.posts).1.nothing

pub returns-clause-places : goal.returns-clause-places
returns-clause-places g c = (place_taken g.J.Naming.table c.args.lane _ _ c.take_last-place.result c.take_last-place.ensures.last c.requires.places).0

pub returns-clause-calls : goal.returns-clause-calls
returns-clause-calls g c = (value_taken g.J.Naming.calls c.args.lane _ _ c.take_last-own.result c.take_last-own.ensures.last c.requires.calls).0

pub returns-clause-posts : goal.returns-clause-posts
returns-clause-posts g c = (last_taken (IsPost g.J.Naming.list g.J.Naming.start g.J.Naming.bank) _ _ c.take_last-viewer.result c.take_last-viewer.ensures.last c.requires.posts).0
