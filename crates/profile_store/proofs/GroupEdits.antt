-- Edits of groups.
use Rattle.std.proofs.Common.{◌≡◌, ℕ, zero, ◌+◌, ◌<◌, ◌≤◌, true, false, cond, length, get_or, set, List, [], ◌∷◌, Option, Some, None, is_some, refl, sym, ap, ◌∙◌, arith}
use Rattle.std.specs.Prelude.{map}
use Rattle.std.specs.List.{insert, remove}
use Rattle.std.specs.Option.{option_map}
use Rattle.std.proofs.lemmas.List.{get_or_default}
use Rattle.p4_types.specs.declared.profiles.Group.{Group}
use Rattle.plane_spec.specs.Profiles.{same_id, group_of, group_inserted, group_modified, group_deleted}
use Rattle.profile_store.specs.declared.rows.GroupRow.{GroupRow}
use Rattle.profile_store.specs.Order.{AreInOrder, StandsAt, WouldStandAt, key_before, group_key}
use Rattle.profile_store.specs.Rows.{group_row, uses_of_group_row}
use Rattle.profile_store.proofs.Keys.{pair_cmp, same_pair, pairs}
use Rattle.profile_store.proofs.Edits.{nothing, find_map, own_key, find_at, find_gap, set_balanced, remove_balanced, insert_balanced, set_in_order, remove_in_order, insert_in_order, not_absent, not_there, map_set_same, map_inserted, map_modified, none_modified, map_deleted, none_deleted}

abbrev group_in : GroupRow → Group
group_in row = row.group

abbrev key_of : Group → ℕ × ℕ
key_of group = (group.profile, group.id)

pub found_at : (rows : List GroupRow) (profile id place : ℕ) → AreInOrder key_before group_key rows → StandsAt group_key rows (profile, id) place → (row : GroupRow) → row ≡ get_or rows place row
    → group_row profile id rows ≡ Some row
found_at rows profile id place are stands row read = find_at pair_cmp key_before same_pair pairs group_key rows (profile, id) place are stands row read

pub found_gap : (rows : List GroupRow) (profile id place : ℕ) → WouldStandAt key_before group_key rows (profile, id) place → group_row profile id rows ≡ None
found_gap rows profile id place gap = find_gap pair_cmp key_before same_pair pairs group_key rows (profile, id) place gap

-- a group is found as its row is
pub held : (rows : List GroupRow) (profile id : ℕ) → group_of profile id (map (λ row. row.group) rows) ≡ option_map (λ row. row.group) (group_row profile id rows)
held rows profile id = find_map (λ (group : Group). same_id profile id group.profile group.id) group_in rows

pub held_by : (found : Option GroupRow) (rows list : List GroupRow) (profile id : ℕ) → found ≡ group_row profile id rows → rows ≡ list
    → option_map (λ row. row.group) found ≡ group_of profile id (map (λ row. row.group) list)
held_by found rows list profile id is same =
    ap (option_map group_in) is ∙ sym (held rows profile id) ∙ ap (λ (l : List GroupRow). group_of profile id (map (λ row. row.group) l)) same

pub absent_stands : (rows : List GroupRow) (profile id place : ℕ) → AreInOrder key_before group_key rows → StandsAt group_key rows (profile, id) place → is_some (group_of profile id (map (λ row. row.group) rows)) ≡ false → ⊥
absent_stands rows profile id place are stands none = not_absent pair_cmp key_before same_pair pairs group_in key_of rows (profile, id) place are stands none

pub there_in_gap : (rows : List GroupRow) (profile id place : ℕ) → WouldStandAt key_before group_key rows (profile, id) place → is_some (group_of profile id (map (λ row. row.group) rows)) ≡ true → ⊥
there_in_gap rows profile id place gap some = not_there pair_cmp key_before same_pair pairs group_in key_of rows (profile, id) place gap some

-- an INSERT
pub groups_inserted : (rows : List GroupRow) (place : ℕ) (row : GroupRow) → WouldStandAt key_before group_key rows (row.group.profile, row.group.id) place
    → map (λ r. r.group) (insert rows place row) ≡ group_inserted row.group (map (λ r. r.group) rows)
unfolding group_inserted
groups_inserted rows place row gap = map_inserted pair_cmp key_before same_pair pairs group_in key_of rows place row gap

pub uses_inserted : (rows : List GroupRow) (place : ℕ) (row : GroupRow) → WouldStandAt key_before group_key rows (row.group.profile, row.group.id) place → row.uses ≡ 0
    → (p i : ℕ) → uses_of_group_row (group_row p i (insert rows place row)) ≡ uses_of_group_row (group_row p i rows)
uses_inserted rows place row gap unused p i =
    omega (arith, insert_balanced pair_cmp key_before same_pair pairs group_key uses_of_group_row rows (row.group.profile, row.group.id) place gap row refl 0 0 (omega arith) (p, i))

pub order_inserted : (rows : List GroupRow) (place : ℕ) (row : GroupRow) → AreInOrder key_before group_key rows → WouldStandAt key_before group_key rows (row.group.profile, row.group.id) place
    → AreInOrder key_before group_key (insert rows place row)
order_inserted rows place row are gap = insert_in_order pair_cmp key_before same_pair pairs group_key rows (row.group.profile, row.group.id) place are gap row refl

-- a MODIFY
pub groups_modified : (rows : List GroupRow) (place : ℕ) (row : GroupRow) → AreInOrder key_before group_key rows → StandsAt group_key rows (row.group.profile, row.group.id) place
    → map (λ r. r.group) (set rows place row) ≡ group_modified row.group (map (λ r. r.group) rows)
unfolding group_modified
groups_modified rows place row are stands = map_modified pair_cmp key_before same_pair pairs group_in key_of rows place row are stands

pub no_groups_modified : (rows : List GroupRow) (place : ℕ) (group : Group) → WouldStandAt key_before group_key rows (group.profile, group.id) place
    → map (λ r. r.group) rows ≡ group_modified group (map (λ r. r.group) rows)
unfolding group_modified
no_groups_modified rows place group gap = none_modified pair_cmp key_before same_pair pairs group_in key_of rows place group gap

-- a DELETE
pub groups_deleted : (rows : List GroupRow) (profile id place : ℕ) → AreInOrder key_before group_key rows → StandsAt group_key rows (profile, id) place
    → map (λ r. r.group) (remove rows place) ≡ group_deleted profile id (map (λ r. r.group) rows)
unfolding group_deleted
groups_deleted rows profile id place are stands = map_deleted pair_cmp key_before same_pair pairs group_in key_of rows (profile, id) place are stands

pub no_groups_deleted : (rows : List GroupRow) (profile id place : ℕ) → WouldStandAt key_before group_key rows (profile, id) place → map (λ r. r.group) rows ≡ group_deleted profile id (map (λ r. r.group) rows)
unfolding group_deleted
no_groups_deleted rows profile id place gap = none_deleted pair_cmp key_before same_pair pairs group_in key_of rows (profile, id) place gap

pub uses_at : (rows : List GroupRow) (profile id place : ℕ) → AreInOrder key_before group_key rows → StandsAt group_key rows (profile, id) place → (row : GroupRow) → row ≡ get_or rows place row
    → uses_of_group_row (group_row profile id rows) ≡ row.uses
uses_at rows profile id place are stands row read = ap uses_of_group_row (found_at rows profile id place are stands row read)

pub uses_deleted : (rows : List GroupRow) (profile id place : ℕ) → AreInOrder key_before group_key rows → StandsAt group_key rows (profile, id) place → uses_of_group_row (group_row profile id rows) ≡ 0
    → (p i : ℕ) → uses_of_group_row (group_row p i (remove rows place)) ≡ uses_of_group_row (group_row p i rows)
uses_deleted [] profile id place are stands unused p i = absurd (omega (arith, stands.in_range))
uses_deleted (first ∷ others) profile id place are stands unused p i =
    let rows : List GroupRow = first ∷ others in
    let row : GroupRow = get_or rows place first in
    let read : row ≡ get_or rows place row = get_or_default rows place first row stands.in_range in
    let none : row.uses ≡ 0 = sym (uses_at rows profile id place are stands row read) ∙ unused in
    omega (arith, remove_balanced pair_cmp key_before same_pair pairs group_key uses_of_group_row rows (profile, id) place are stands row read 0 0 (omega (arith, none)) (p, i))

pub unused_in_gap : (rows : List GroupRow) (profile id place : ℕ) → WouldStandAt key_before group_key rows (profile, id) place → 1 ≤ uses_of_group_row (group_row profile id rows) → ⊥
unused_in_gap rows profile id place gap named =
    let none : uses_of_group_row (group_row profile id rows) ≡ zero = ap uses_of_group_row (found_gap rows profile id place gap) in
    omega (arith, named, none)

-- another row in the place of one
pub key_kept : (rows : List GroupRow) (profile id place : ℕ) → StandsAt group_key rows (profile, id) place → (row other : GroupRow) → row ≡ get_or rows place row → other.group ≡ row.group
    → group_key other ≡ (profile, id)
key_kept rows profile id place stands row other read same = ap key_of same ∙ own_key pair_cmp key_before same_pair pairs group_key rows (profile, id) place stands row read

pub order_replaced : (rows : List GroupRow) (profile id place : ℕ) (row : GroupRow) → AreInOrder key_before group_key rows → StandsAt group_key rows (profile, id) place → group_key row ≡ (profile, id)
    → AreInOrder key_before group_key (set rows place row)
order_replaced rows profile id place row are stands is = set_in_order pair_cmp key_before same_pair pairs group_key rows (profile, id) place are stands row is

pub order_kept : (rows : List GroupRow) (profile id place : ℕ) → AreInOrder key_before group_key rows → StandsAt group_key rows (profile, id) place → (row other : GroupRow) → row ≡ get_or rows place row
    → other.group ≡ row.group → AreInOrder key_before group_key (set rows place other)
order_kept rows profile id place are stands row other read same = order_replaced rows profile id place other are stands (key_kept rows profile id place stands row other read same)

pub order_removed : (rows : List GroupRow) (profile id place : ℕ) → AreInOrder key_before group_key rows → StandsAt group_key rows (profile, id) place → AreInOrder key_before group_key (remove rows place)
order_removed rows profile id place are stands = remove_in_order pair_cmp key_before same_pair pairs group_key rows (profile, id) place are stands

pub groups_kept : (rows : List GroupRow) (place : ℕ) → place < length rows → (row other : GroupRow) → row ≡ get_or rows place row → other.group ≡ row.group → map (λ r. r.group) (set rows place other) ≡ map (λ r. r.group) rows
groups_kept rows place in_range row other read same = map_set_same pair_cmp key_before same_pair pairs group_in key_of rows place in_range row other read same

uses_replaced : (rows : List GroupRow) (profile id place : ℕ) → AreInOrder key_before group_key rows → StandsAt group_key rows (profile, id) place → (row other : GroupRow) → row ≡ get_or rows place row
    → group_key other ≡ (profile, id) → (less more : ℕ) → other.uses + less ≡ row.uses + more → (p i : ℕ)
    → uses_of_group_row (group_row p i (set rows place other)) + cond (same_id p i profile id) less 0 ≡ uses_of_group_row (group_row p i rows) + cond (same_id p i profile id) more 0
uses_replaced rows profile id place are stands row other read is less more h p i =
    set_balanced pair_cmp key_before same_pair pairs group_key uses_of_group_row rows (profile, id) place are stands row other read is less more h (p, i)

pub uses_modified : (rows : List GroupRow) (profile id place : ℕ) → AreInOrder key_before group_key rows → StandsAt group_key rows (profile, id) place → (row other : GroupRow) → row ≡ get_or rows place row
    → group_key other ≡ (profile, id) → other.uses ≡ row.uses → (p i : ℕ) → uses_of_group_row (group_row p i (set rows place other)) ≡ uses_of_group_row (group_row p i rows)
uses_modified rows profile id place are stands row other read is same p i = omega (arith, uses_replaced rows profile id place are stands row other read is 0 0 (omega (arith, same)) p i)

pub uses_raised : (rows : List GroupRow) (profile id place : ℕ) → AreInOrder key_before group_key rows → StandsAt group_key rows (profile, id) place → (row other : GroupRow) → row ≡ get_or rows place row
    → other.group ≡ row.group → other.uses ≡ row.uses + 1 → (p i : ℕ) → uses_of_group_row (group_row p i (set rows place other)) ≡ uses_of_group_row (group_row p i rows) + cond (same_id p i profile id) 1 0
uses_raised rows profile id place are stands row other read same more p i =
    omega (arith, nothing (same_id p i profile id), uses_replaced rows profile id place are stands row other read (key_kept rows profile id place stands row other read same) 0 1 (omega (arith, more)) p i)

pub uses_lowered : (rows : List GroupRow) (profile id place : ℕ) → AreInOrder key_before group_key rows → StandsAt group_key rows (profile, id) place → (row other : GroupRow) → row ≡ get_or rows place row
    → other.group ≡ row.group → other.uses + 1 ≡ row.uses → (p i : ℕ) → uses_of_group_row (group_row p i (set rows place other)) + cond (same_id p i profile id) 1 0 ≡ uses_of_group_row (group_row p i rows)
uses_lowered rows profile id place are stands row other read same less p i =
    omega (arith, nothing (same_id p i profile id), uses_replaced rows profile id place are stands row other read (key_kept rows profile id place stands row other read same) 1 0 (omega (arith, less)) p i)
