use Rattle.std.proofs.Common.{◌+◌, ◌∙◌, List, length, ap, arith, refl, subst, sym}
use Rattle.std.proofs.lemmas.List.{length-replicate}
use Rattle.std.specs.List.{AllByRecursion}
use Rattle.lane_table.proofs.Places.{each_alike}
use Rattle.live_desk.proofs.parts.open_parts.Goals as goal
use Rattle.live_desk.specs.Opening.{SeesStart}
use Rattle.pub_snap.specs.Snapshots.{Sight}

pub returns : goal.returns
returns g c =
    let opened = c.in_ok-publisher.ensures in
    let told = c.in_ok-publisher.publisher.told in
    let viewer : Sight = record { told = told; refusals = 0 } in
    let many = ap (λ (l : List Sight). length l) opened.viewers ∙ length-replicate (c.args.workers + 32) viewer in
    record {
      parts = record {
        start_is = opened.start;
        nothing = opened.events;
        none_pending = opened.pending;
        control_is = c.in-Ok.ensures.control;
        no_step = c.in-Ok.ensures.steps;
        no_call = c.in-Ok.ensures.calls;
        viewers =
            subst
            (λ (l : List Sight). AllByRecursion (SeesStart told.list c.args.start.now) l)
            (sym opened.viewers)
            (each_alike (SeesStart told.list c.args.start.now) (c.args.workers + 32) viewer (record { list_is = refl; start_is = opened.start; nothing = opened.events }));
        many = omega (arith, many);
        few = omega (arith, many, c.requires.workers);
        slots = c.in_ok-bank.ensures.0;
        rest_is = c.in_ok-bank.ensures.1;
        seat_is = c.in_ok-table.ensures.journal;
        places_are = c.in_ok-table.ensures.lanes;
      };
      many = many;
    }
