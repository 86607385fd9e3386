-- Edits of the counts of one-shot sets.
use Rattle.std.proofs.Common.{◌≡◌, ℕ, zero, ◌+◌, ◌-◌, ◌≤◌, Bool, true, false, cond, get_or, set, List, Result, Ok, Err, OnOk, OnErr, refl, sym, ap, subst, arith}
use Rattle.std.specs.Prelude.{nat_lt, ◌==◌}
use Rattle.std.specs.List.{insert}
use Rattle.std.specs.Ordering.{nat_cmp}
use Rattle.std.proofs.lemmas.List.{get_or_default}
use Rattle.profile_store.specs.declared.rows.SetCount.{SetCount}
use Rattle.profile_store.specs.Order.{AreInOrder, StandsAt, WouldStandAt, set_key}
use Rattle.profile_store.specs.Rows.{set_count, count_of}
use Rattle.profile_store.proofs.Keys.{same_number, numbers}
use Rattle.profile_store.proofs.Edits.{nothing, find_at, find_gap, set_balanced, insert_balanced, set_in_order, insert_in_order}

pub on_ok : {A E : Type 0} (r : Result A E) (P Q : Type 0) → OnOk r P → (P → Q) → OnOk r Q
on_ok (Ok x) P Q h f = f h
on_ok (Err e) P Q h f = tt

-- the rows are other ones, or as they were
pub order_by : {A E : Type 0} (r : Result A E) (old made new : List SetCount) → AreInOrder nat_lt set_key old → AreInOrder nat_lt set_key made → OnOk r (new ≡ made) → OnErr r (new ≡ old) → AreInOrder nat_lt set_key new
order_by (Ok x) old made new are ordered is same = subst (AreInOrder nat_lt set_key) (sym is) ordered
order_by (Err e) old made new are ordered is same = subst (AreInOrder nat_lt set_key) (sym same) are

pub actions_at : (sets : List SetCount) (profile place : ℕ) → AreInOrder nat_lt set_key sets → StandsAt set_key sets profile place → (d : SetCount) → count_of (set_count profile sets) ≡ (get_or sets place d).actions
actions_at sets profile place are stands d =
    ap count_of (find_at nat_cmp nat_lt same_number numbers set_key sets profile place are stands (get_or sets place d) (get_or_default sets place d (get_or sets place d) stands.in_range))

pub actions_gap : (sets : List SetCount) (profile place : ℕ) → WouldStandAt nat_lt set_key sets profile place → count_of (set_count profile sets) ≡ zero
actions_gap sets profile place gap = ap count_of (find_gap nat_cmp nat_lt same_number numbers set_key sets profile place gap)

replaced : (sets : List SetCount) (profile place : ℕ) → AreInOrder nat_lt set_key sets → StandsAt set_key sets profile place → (d : SetCount) (n less more : ℕ) → n + less ≡ (get_or sets place d).actions + more → (p : ℕ)
    → count_of (set_count p (set sets place (record { profile = profile; actions = n }))) + cond (profile == p) less 0 ≡ count_of (set_count p sets) + cond (profile == p) more 0
replaced sets profile place are stands d n less more h p =
    set_balanced nat_cmp nat_lt same_number numbers set_key count_of sets profile place are stands (get_or sets place d) (record { profile = profile; actions = n })
    (get_or_default sets place d (get_or sets place d) stands.in_range) refl less more h p

pub actions_raised : (sets : List SetCount) (profile place : ℕ) → AreInOrder nat_lt set_key sets → StandsAt set_key sets profile place → (d : SetCount) (n size : ℕ) → n ≡ (get_or sets place d).actions + size → (p : ℕ)
    → count_of (set_count p (set sets place (record { profile = profile; actions = n }))) ≡ count_of (set_count p sets) + cond (profile == p) size 0
actions_raised sets profile place are stands d n size more p = omega (arith, nothing (profile == p), replaced sets profile place are stands d n 0 size (omega (arith, more)) p)

pub actions_lowered : (sets : List SetCount) (profile place : ℕ) → AreInOrder nat_lt set_key sets → StandsAt set_key sets profile place → (d : SetCount) (size : ℕ) → size ≤ count_of (set_count profile sets) → (p : ℕ)
    → count_of (set_count p (set sets place (record { profile = profile; actions = (get_or sets place d).actions - size }))) + cond (profile == p) size 0 ≡ count_of (set_count p sets)
actions_lowered sets profile place are stands d size named p =
    let enough : size ≤ (get_or sets place d).actions = omega (arith, named, actions_at sets profile place are stands d) in
    omega (arith, nothing (profile == p), replaced sets profile place are stands d ((get_or sets place d).actions - size) size 0 (omega (arith, enough)) p)

pub actions_inserted : (sets : List SetCount) (profile place : ℕ) → WouldStandAt nat_lt set_key sets profile place → (size p : ℕ)
    → count_of (set_count p (insert sets place (record { profile = profile; actions = size }))) ≡ count_of (set_count p sets) + cond (profile == p) size 0
actions_inserted sets profile place gap size p =
    omega (arith, nothing (profile == p), insert_balanced nat_cmp nat_lt same_number numbers set_key count_of sets profile place gap (record { profile = profile; actions = size }) refl 0 size (omega arith) p)

pub order_replaced : (sets : List SetCount) (profile place n : ℕ) → AreInOrder nat_lt set_key sets → StandsAt set_key sets profile place → AreInOrder nat_lt set_key (set sets place (record { profile = profile; actions = n }))
order_replaced sets profile place n are stands = set_in_order nat_cmp nat_lt same_number numbers set_key sets profile place are stands (record { profile = profile; actions = n }) refl

pub order_inserted : (sets : List SetCount) (profile place n : ℕ) → AreInOrder nat_lt set_key sets → WouldStandAt nat_lt set_key sets profile place → AreInOrder nat_lt set_key (insert sets place (record { profile = profile; actions = n }))
order_inserted sets profile place n are gap = insert_in_order nat_cmp nat_lt same_number numbers set_key sets profile place are gap (record { profile = profile; actions = n }) refl

-- less by nothing
pub none_less : (b : Bool) (size n : ℕ) → size ≤ 0 → n + cond b size 0 ≡ n
none_less true size n h = omega (arith, h)
none_less false size n h = omega arith
