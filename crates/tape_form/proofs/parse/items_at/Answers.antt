use Rattle.std.proofs.Common.{[], Some}
use Rattle.std.proofs.lemmas.Result.{err_from_is_err_and}
use Rattle.tape_spec.specs.Items.{no_item_lanes}
use Rattle.tape_spec.specs.Reading.{items_at}
use Rattle.tape_spec.proofs.ItemReaders.{item_found}
use Rattle.tape_form.proofs.Callers.{none_noted}
use Rattle.tape_form.proofs.Standing.{of_one}
use Rattle.tape_form.specs.Calls.{lanes_of}
use Rattle.tape_form.specs.Parsed.{item_of}
use Rattle.tape_form.proofs.Loop.{begins, keeps_on, stops, ends_badly, ends}
use Rattle.tape_form.proofs.parse.items_at.Goals as goal

pub returns-in_err-item : goal.returns-in_err-item
returns-in_err-item c =
    let p = err_from_is_err_and c.from_residual.result c.from_residual.ensures.1 in
    rw (p.1, p.2) (stops c.in_err-item.field-0.0.left c.loop.invariant.front c.args.limit c.loop.counter (lanes_of c.loop.lanes) c.loop.rest.now (items_at c.args.limit no_item_lanes c.args.bytes.now) c.loop-test.true c.in_err-item.ensures c.loop.invariant.read)

pub returns-in_err-nothing_in-in-None : goal.returns-in_err-nothing_in-in-None
returns-in_err-nothing_in-in-None c =
    let p = err_from_is_err_and c.from_residual-in_err-nothing_in-in-None.result c.from_residual-in_err-nothing_in-in-None.ensures.1 in
    rw (p.1, p.2) (ends_badly c.in_err-nothing_in-in-None.field-0.0.left c.loop.invariant.front c.args.limit c.loop.counter (lanes_of c.loop.lanes) c.loop.rest.now c.in_ok-item.after.now (items_at c.args.limit no_item_lanes c.args.bytes.now) c.loop-test.true
    (rw c.in-None.is at c.in_ok-item.ensures) c.in_err-nothing_in-in-None.ensures c.loop.invariant.read)

pub returns-in-None : goal.returns-in-None
returns-in-None c =
    let e = ends c.loop.invariant.front c.args.limit c.loop.counter (lanes_of c.loop.lanes) c.loop.rest.now c.in_ok-item.after.now (items_at c.args.limit no_item_lanes c.args.bytes.now) c.loop-test.true
    (rw c.in-None.is at c.in_ok-item.ensures) c.in_ok-nothing_in-in-None.ensures c.loop.invariant.read in
    (c.loop.invariant.front, c.loop.invariant.is_kept, e)

pub loop-preserved : goal.loop-preserved
loop-preserved c =
    keeps_on (λ x. x.items) c.loop.items c.with_next-items.result c.args.limit c.loop.counter (lanes_of c.loop.lanes) (lanes_of c.note.new.self) c.loop.rest.now (item_of c.in-Some.seen) c.in_ok-item.after.now (items_at c.args.limit no_item_lanes c.args.bytes.now) c.loop-test.true
    (rw c.in-Some.is at c.in_ok-item.ensures) c.note.ensures c.with_next-items.ensures c.loop.invariant

pub loop-init : goal.loop-init
loop-init c = record {
  front = [];
  is_kept = c.new.ensures.items;
  read = begins c.args.limit c.new-lanes.result c.args.bytes.now (none_noted c.new-lanes.result c.new-lanes.ensures.calls c.new-lanes.ensures.asks c.new-lanes.ensures.brings c.new-lanes.ensures.has_left);
}

pub note-requires : goal.note-requires
note-requires c = of_one (lanes_of c.loop.lanes) (item_of c.in-Some.seen) (item_found (lanes_of c.loop.lanes) c.loop.rest.now (Some (item_of c.in-Some.seen), c.in_ok-item.after.now) (rw c.in-Some.is at c.in_ok-item.ensures)).1
