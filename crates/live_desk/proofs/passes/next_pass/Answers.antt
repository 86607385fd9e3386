use Rattle.std.proofs.Common.{ap}
use Rattle.lane_table.specs.Lanes.{Lane}
use Rattle.live_desk.specs.declared.call_steps.CallSteps.{CallSteps}
use Rattle.lane_table.proofs.Places.{last_taken, place_taken, some_seat}
use Rattle.live_desk.proofs.Lasts.{new_pass}
use Rattle.live_desk.proofs.passes.next_pass.Goals as goal
use Rattle.live_desk.specs.Opening.{IsFresh}

pub take_last-seat-requires : goal.take_last-seat-requires
take_last-seat-requires g c = record { some = some_seat g.J.Naming.table c.args.lane c.args.places.now.items c.requires.places }

pub open-requires-clause-table : goal.open-requires-clause-table
open-requires-clause-table g c = ap (λ (l : Lane CallSteps). l.table) (place_taken g.J.Naming.table c.args.lane _ _ c.take_last-seat.result c.take_last-seat.ensures.last c.requires.places).1

pub open-requires-clause-number : goal.open-requires-clause-number
open-requires-clause-number g c = ap (λ (l : Lane CallSteps). l.number) (place_taken g.J.Naming.table c.args.lane _ _ c.take_last-seat.result c.take_last-seat.ensures.last c.requires.places).1

pub open-requires-clause-nothing : goal.open-requires-clause-nothing
open-requires-clause-nothing g c = ap (λ (l : Lane CallSteps). l.entries) (place_taken g.J.Naming.table c.args.lane _ _ c.take_last-seat.result c.take_last-seat.ensures.last c.requires.places).1

pub open-requires-clause-events : goal.open-requires-clause-events
open-requires-clause-events g c = (last_taken (IsFresh g.J.Naming.list g.J.Naming.start g.J.Naming.bank) _ _ c.take_last-worker.result c.take_last-worker.ensures.last c.requires.workers).1.sees.nothing

pub returns-clause-places : goal.returns-clause-places
returns-clause-places g c = (place_taken g.J.Naming.table c.args.lane _ _ c.take_last-seat.result c.take_last-seat.ensures.last c.requires.places).0

pub returns-clause-workers : goal.returns-clause-workers
returns-clause-workers g c = (last_taken (IsFresh g.J.Naming.list g.J.Naming.start g.J.Naming.bank) _ _ c.take_last-worker.result c.take_last-worker.ensures.last c.requires.workers).0

pub returns-clause-pass : goal.returns-clause-pass
returns-clause-pass g c =
    new_pass g.J.Naming.list g.J.Naming.start g.J.Naming.bank c.args.lane c.take_last-worker.result c.open.result c.open.ensures
    (last_taken (IsFresh g.J.Naming.list g.J.Naming.start g.J.Naming.bank) _ _ c.take_last-worker.result c.take_last-worker.ensures.last c.requires.workers).1
