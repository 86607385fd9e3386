use Rattle.std.proofs.Common.{◌≡◌, subst, sym, List}
use Rattle.std.specs.List.{AllByRecursion}
use Rattle.lane_table.proofs.Places.{last_taken}
use Rattle.replay_run.proofs.Lasts.{some_lane, value_taken}
use Rattle.replay_run.proofs.passes.next_worker.Goals as goal
use Rattle.replay_run.specs.Opening.{IsPost}
use Rattle.switch_spec.specs.declared.calls.WorkerItem.{WorkerItem}
use Rattle.tape_lanes.specs.Lanes.{IsItem}

pub take_last-own-requires : goal.take_last-own-requires
take_last-own-requires g c = record { some = some_lane g.J.Naming.items c.args.lane c.args.items.now.items c.requires.items }

pub open_worker-requires-clause-each : goal.open_worker-requires-clause-each
open_worker-requires-clause-each g c =
    subst (λ (l : List WorkerItem). AllByRecursion IsItem l) (sym (value_taken g.J.Naming.items c.args.lane _ _ c.take_last-own.result c.take_last-own.ensures.last c.requires.items).1) c.requires.each

pub open_worker-requires-clause-items : goal.open_worker-requires-clause-items
open_worker-requires-clause-items g c = (value_taken g.J.Naming.items c.args.lane _ _ c.take_last-own.result c.take_last-own.ensures.last c.requires.items).1

pub open_worker-requires-clause-list : goal.open_worker-requires-clause-list
open_worker-requires-clause-list g c = (last_taken (IsPost g.J.Naming.list g.J.Naming.start g.J.Naming.bank) _ _ c.take_last-viewer.result c.take_last-viewer.ensures.last c.requires.posts).1.sees.list_is

pub open_worker-requires-clause-start : goal.open_worker-requires-clause-start
open_worker-requires-clause-start g c = (last_taken (IsPost g.J.Naming.list g.J.Naming.start g.J.Naming.bank) _ _ c.take_last-viewer.result c.take_last-viewer.ensures.last c.requires.posts).1.sees.start_is

pub open_worker-requires-clause-bank : goal.open_worker-requires-clause-bank
open_worker-requires-clause-bank g c = (last_taken (IsPost g.J.Naming.list g.J.Naming.start g.J.Naming.bank) _ _ c.take_last-viewer.result c.take_last-viewer.ensures.last c.requires.posts).1.bank_is

pub open_worker-requires-clause-part : goal.open_worker-requires-clause-part
open_worker-requires-clause-part g c = (last_taken (IsPost g.J.Naming.list g.J.Naming.start g.J.Naming.bank) _ _ c.take_last-viewer.result c.take_last-viewer.ensures.last c.requires.posts).1.one_part

pub open_worker-requires-clause-added : goal.open_worker-requires-clause-added
open_worker-requires-clause-added g c = (last_taken (IsPost g.J.Naming.list g.J.Naming.start g.J.Naming.bank) _ _ c.take_last-viewer.result c.take_last-viewer.ensures.last c.requires.posts).1.nothing

pub returns-clause-items : goal.returns-clause-items
returns-clause-items g c = (value_taken g.J.Naming.items c.args.lane _ _ c.take_last-own.result c.take_last-own.ensures.last c.requires.items).0

pub returns-clause-posts : goal.returns-clause-posts
returns-clause-posts g c = (last_taken (IsPost g.J.Naming.list g.J.Naming.start g.J.Naming.bank) _ _ c.take_last-viewer.result c.take_last-viewer.ensures.last c.requires.posts).0
