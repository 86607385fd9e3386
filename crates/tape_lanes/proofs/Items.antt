-- What a worker's lane is given.
use Rattle.std.proofs.Common.{◌≡◌, ℕ, ◌==◌, Bool, true, false, cond, List, [], ◌∷◌, ◌++◌, Option, Some, None}
use Rattle.std.specs.List.{AllByRecursion, cons_option, filter_map}
use Rattle.p4_types.specs.declared.tape.TapeRecord.{TapeRecord}
use Rattle.p4_types.specs.declared.tape.TapeRecord.TheVariants.{Call, Packet, Leave, Meet}
use Rattle.run_spec.specs.Report.{item_on}
use Rattle.run_spec.specs.Tape.{IsRecord}
use Rattle.switch_spec.specs.declared.calls.WorkerItem.{WorkerItem}
use Rattle.switch_spec.specs.declared.calls.WorkerItem.TheVariants.{Brings, Meets}
use Rattle.tape_lanes.specs.Lanes.{items_in, IsItem}
use Rattle.tape_lanes.specs.Laws.{ItemsAreItems}

-- what holds of each holds of one that stands behind some
pub one_behind : {A : Type 0} (P : A → Type 0) (xs ys : List A) (x : A) → AllByRecursion P (xs ++ x ∷ ys) → P x
one_behind P [] ys x each = each.0
one_behind P (first ∷ xs) ys x each = one_behind P xs ys x each.1

one_more : (b : Bool) (x : WorkerItem) (rest : List WorkerItem) → IsItem x → AllByRecursion IsItem rest → AllByRecursion IsItem (cons_option (cond b (Some x) None) rest)
one_more true x rest is all = (is, all)
one_more false x rest is all = all

pub items_are_items : ItemsAreItems
items_are_items [] lane each = tt
items_are_items (Call other method message ∷ tape) lane each = items_are_items tape lane each.1
items_are_items (Leave other ∷ tape) lane each = items_are_items tape lane each.1
items_are_items (Packet other port packet ∷ tape) lane each = one_more (lane == other) (Brings port packet) (items_in tape lane) each.0.size (items_are_items tape lane each.1)
items_are_items (Meet other controller call ∷ tape) lane each = one_more (lane == other) (Meets controller call) (items_in tape lane) each.0.of_controller (items_are_items tape lane each.1)
