use Rattle.std.proofs.Common.{◌≡◌, ◌∙◌, ◌++◌, ◌∷◌, [], List, ap, sym, subst, length, append_assoc}
use Rattle.std.specs.List.{AllByRecursion}
use Rattle.std.specs.Vec.Iter.{into_iter_items}
use Rattle.p4_types.specs.declared.tape.TapeRecord.{TapeRecord}
use Rattle.tape_lanes.proofs.Items.{one_behind}
use Rattle.run_spec.specs.Tape.{IsRecord}
use Rattle.tape_lanes.proofs.ByLane.{by_lane_none, length-by_lane}
use Rattle.tape_lanes.proofs.Giving.{calls_more, items_more}
use Rattle.tape_lanes.proofs.dealing.deal.Goals as goal
use Rattle.tape_lanes.specs.Dealing.{calls_with, items_with}
use Rattle.tape_lanes.specs.Lanes.{calls_in, items_in}

pub loop-item-init : goal.loop-item-init
loop-item-init c = record {
  calls = c.in_ok-calls.ensures ∙ sym (by_lane_none 32);
  items = c.in_ok-items.ensures ∙ sym (by_lane_none 16);
  all = search;
}

pub deal_one-requires-clause-controllers : goal.deal_one-requires-clause-controllers
deal_one-requires-clause-controllers c = ap length c.loop-item.invariant.calls ∙ length-by_lane (calls_in c.loop-item.yielded) 32

pub deal_one-requires-clause-workers : goal.deal_one-requires-clause-workers
deal_one-requires-clause-workers c = ap length c.loop-item.invariant.items ∙ length-by_lane (items_in c.loop-item.yielded) 16

pub loop-item-preserved : goal.loop-item-preserved
loop-item-preserved c =
    let i = c.loop-item.invariant in
    let rest : List TapeRecord = into_iter_items c.next.new.self in
    let whole : (c.loop-item.yielded ++ c.in-Some.item ∷ []) ++ rest ≡ c.args.tape =
    append_assoc c.loop-item.yielded (c.in-Some.item ∷ []) rest ∙ ap (λ (l : List TapeRecord). c.loop-item.yielded ++ l) (sym c.in-Some.ensures.steps.0) ∙ i.all in
    let split : c.loop-item.yielded ++ c.in-Some.item ∷ rest ≡ c.args.tape = sym (append_assoc c.loop-item.yielded (c.in-Some.item ∷ []) rest) ∙ whole in
    let is : IsRecord c.in-Some.item = one_behind IsRecord c.loop-item.yielded rest c.in-Some.item (subst (λ (l : List TapeRecord). AllByRecursion IsRecord l) (sym split) c.requires.each) in record {
      calls = c.in_ok-deal_one.ensures.calls ∙ ap (calls_with c.in-Some.item) i.calls ∙ sym (calls_more c.loop-item.yielded c.in-Some.item is);
      items = c.in_ok-deal_one.ensures.items ∙ ap (items_with c.in-Some.item) i.items ∙ sym (items_more c.loop-item.yielded c.in-Some.item is);
      all = whole;
    }
