use Rattle.std.proofs.Common.{◌≡◌, ◌+◌, ◌∷◌, length, Some, None, sym, ap, ◌∙◌, subst, arith, rules}
use Rattle.json.specs.Json.{after_end_array, read_key}
use Rattle.json.specs.Reads.{token_of}
use Rattle.json_tree.specs.Building.{items_read, members_read, ReadsValue}
use Rattle.json_tree.proofs.Values.{Read, array_too_deep, object_too_deep, array_read, object_read, leaf_read}
use Rattle.json_tree.proofs.Turns.{ItemsSoFar, MembersSoFar, no_items_yet, one_item, item_is_refused, all_items, no_members_yet, one_member, key_is_refused, member_is_refused, all_members}
use Rattle.json_tree.proofs.Closing.{closes_array, closes_object}
use Rattle.json_tree.proofs.reading.+read.Goals as goal

pub read-returns-then-depth-eq0 : goal.read-returns-then-depth-eq0
read-returns-then-depth-eq0 t c =
    let first : c.args.reader.now ≡ token_of c.in-Some.token ∷ c.next.new.self = grind arith in
    array_too_deep c.args.depth c.args.reader.now c.next.new.self (first ∙ ap (λ k. token_of k ∷ c.next.new.self) c.in-BeginArray.is) (omega arith)

pub read-returns-then-depth-eq0-2 : goal.read-returns-then-depth-eq0-2
read-returns-then-depth-eq0-2 t c =
    let first : c.args.reader.now ≡ token_of c.in-Some.token ∷ c.next.new.self = grind arith in
    object_too_deep c.args.depth c.args.reader.now c.next.new.self (first ∙ ap (λ k. token_of k ∷ c.next.new.self) c.in-BeginObject.is) (omega arith)

pub read-returns-else-depth-eq0 : goal.read-returns-else-depth-eq0
read-returns-else-depth-eq0 t c =
    let first : c.args.reader.now ≡ token_of c.in-Some.token ∷ c.next.new.self = grind arith in
    array_read c.read_array.result c.args.depth c.args.building.now c.read_array.new.building c.args.reader.now c.next.new.self c.read_array.new.reader (first ∙ ap (λ k. token_of k ∷ c.next.new.self) c.in-BeginArray.is) (omega arith)
    c.read_array.ensures

pub read-returns-else-depth-eq0-2 : goal.read-returns-else-depth-eq0-2
read-returns-else-depth-eq0-2 t c =
    let first : c.args.reader.now ≡ token_of c.in-Some.token ∷ c.next.new.self = grind arith in
    object_read c.read_object.result c.args.depth c.args.building.now c.read_object.new.building c.args.reader.now c.next.new.self c.read_object.new.reader (first ∙ ap (λ k. token_of k ∷ c.next.new.self) c.in-BeginObject.is) (omega arith)
    c.read_object.ensures

pub read-returns-in_default-token : goal.read-returns-in_default-token
read-returns-in_default-token t c =
    let first : c.args.reader.now ≡ token_of c.in-Some.token ∷ c.next.new.self = grind arith in
    leaf_read c.read_leaf.result c.args.depth c.args.building.now c.read_leaf.new.building c.args.reader.now c.next.new.self c.in-Some.token (λ e. grind arith) (λ e. grind arith) first c.read_leaf.ensures

pub read_array-returns : goal.read_array-returns
read_array-returns t c =
    let at : c.len-at.result ≡ length c.args.building.now.nodes.items = search rules in
    closes_array c.close_array.result c.args.depth c.args.building.now c.push.new.self c.read_items.new.building c.close_array.new.self c.args.reader.now c.read_items.new.reader c.len-at.result c.in_ok-count.count at
    c.in_ok-push.ensures.text c.in_ok-push.ensures.ok c.close_array.ensures.text c.close_array.ensures.err c.close_array.ensures.ok c.in_ok-count.ensures

pub read_object-returns : goal.read_object-returns
read_object-returns t c =
    let at : c.len-at.result ≡ length c.args.building.now.nodes.items = search rules in
    closes_object c.close_object.result c.args.depth c.args.building.now c.push.new.self c.read_members.new.building c.close_object.new.self c.args.reader.now c.read_members.new.reader c.len-at.result c.in_ok-count.count at
    c.in_ok-push.ensures.text c.in_ok-push.ensures.ok c.close_object.ensures.text c.close_object.ensures.err c.close_object.ensures.ok c.in_ok-count.ensures

pub read_items-items-init : goal.read_items-items-init
read_items-items-init t c = no_items_yet c.args.depth c.args.building.now c.args.reader.now

pub read_items-returns-in_err-read : goal.read_items-returns-in_err-read
read_items-returns-in_err-read t c =
    let l = c.items in
    let going : (after_end_array l.reader ≡ None) × (c.take_end_array.new.self ≡ l.reader) = grind arith in
    let refused : Read c.args.depth c.take_end_array.new.self ≡ None → items_read c.args.depth c.args.reader.now ≡ None =
    λ none. item_is_refused c.args.depth c.args.building.now l.building c.args.reader.now l.reader l.count l.invariant going.0 (ap (Read c.args.depth) (sym going.1) ∙ none) in
    grind (arith, refused)

pub read_items-items-preserved : goal.read_items-items-preserved
read_items-items-preserved t c =
    let l = c.items in
    let going : (after_end_array l.reader ≡ None) × (c.take_end_array.new.self ≡ l.reader) = grind arith in
    let taken = subst (λ ts. ReadsValue c.args.depth l.building c.read.new.building ts c.read.new.reader) going.1 c.in_ok-read.ensures in
    subst (ItemsSoFar c.args.depth c.args.building.now c.read.new.building c.args.reader.now c.read.new.reader) (sym c.in_ok-count.ensures.ok)
    (one_item c.args.depth c.args.building.now l.building c.args.reader.now l.reader l.count l.invariant c.read.new.building c.read.new.reader going.0 taken)

pub read_items-returns : goal.read_items-returns
read_items-returns t c =
    let l = c.items in
    let over : after_end_array l.reader ≡ Some c.take_end_array.new.self = grind arith in
    all_items c.args.depth c.args.building.now l.building c.args.reader.now l.reader l.count l.invariant c.take_end_array.new.self over

pub read_members-members-init : goal.read_members-members-init
read_members-members-init t c = no_members_yet c.args.depth c.args.building.now c.args.reader.now

pub read_members-returns-in_default : goal.read_members-returns-in_default
read_members-returns-in_default t c =
    let l = c.members in
    let none : read_key l.reader ≡ None = grind arith in
    key_is_refused c.args.depth c.args.building.now l.building c.args.reader.now l.reader l.count l.invariant none

pub read_members-returns-in_default-key : goal.read_members-returns-in_default-key
read_members-returns-in_default-key t c =
    let l = c.members in
    let over : read_key l.reader ≡ Some (None, c.next_key.new.self) = grind arith in
    all_members c.args.depth c.args.building.now l.building c.args.reader.now l.reader l.count l.invariant c.next_key.new.self over

pub read_members-returns-in_err-read : goal.read_members-returns-in_err-read
read_members-returns-in_err-read t c =
    let l = c.members in
    let named : read_key l.reader ≡ Some (Some c.in-Some.name.now, c.next_key.new.self) = grind arith in
    let refused : Read c.args.depth c.next_key.new.self ≡ None → members_read c.args.depth c.args.reader.now ≡ None =
    member_is_refused c.args.depth c.args.building.now l.building c.args.reader.now l.reader l.count l.invariant c.in-Some.name.now c.next_key.new.self named in
    grind (arith, refused)

pub read_members-members-preserved : goal.read_members-members-preserved
read_members-members-preserved t c =
    let l = c.members in
    let named : read_key l.reader ≡ Some (Some c.in-Some.name.now, c.next_key.new.self) = grind arith in
    let counts : c.in_ok-count.count ≡ l.count + 1 + 1 = omega (arith, c.in_ok-count.ensures.ok, c.in_ok-one_more.ensures.ok) in
    subst (MembersSoFar c.args.depth c.args.building.now c.read.new.building c.args.reader.now c.read.new.reader) (sym counts)
    (one_member c.args.depth c.args.building.now l.building c.args.reader.now l.reader l.count l.invariant c.add_text.new.self c.read.new.building c.in-Some.name.now c.next_key.new.self c.read.new.reader named c.in_ok-add_text.ensures.ok
    c.in_ok-read.ensures)
