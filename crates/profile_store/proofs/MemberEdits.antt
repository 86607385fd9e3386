-- Edits of members.
use Rattle.std.proofs.Common.{◌≡◌, ℕ, zero, ◌+◌, ◌<◌, ◌≤◌, true, false, cond, length, get_or, set, List, [], ◌∷◌, Option, Some, None, is_some, refl, sym, ap, ◌∙◌, arith}
use Rattle.std.specs.Prelude.{map}
use Rattle.std.specs.List.{insert, remove}
use Rattle.std.specs.Option.{option_map}
use Rattle.std.proofs.lemmas.List.{get_or_default}
use Rattle.p4_types.specs.declared.profiles.Member.{Member}
use Rattle.plane_spec.specs.Profiles.{same_id, member_of, member_inserted, member_modified, member_deleted}
use Rattle.profile_store.specs.declared.rows.MemberRow.{MemberRow}
use Rattle.profile_store.specs.Order.{AreInOrder, StandsAt, WouldStandAt, key_before, member_key}
use Rattle.profile_store.specs.Rows.{member_row, uses_of_row}
use Rattle.profile_store.proofs.Keys.{pair_cmp, same_pair, pairs}
use Rattle.profile_store.proofs.Edits.{nothing, find_map, own_key, find_at, find_gap, set_balanced, remove_balanced, insert_balanced, set_in_order, remove_in_order, insert_in_order, not_absent, not_there, map_set_same, map_inserted, map_modified, none_modified, map_deleted, none_deleted}

abbrev member_in : MemberRow → Member
member_in row = row.member

abbrev key_of : Member → ℕ × ℕ
key_of member = (member.profile, member.id)

pub found_at : (rows : List MemberRow) (profile id place : ℕ) → AreInOrder key_before member_key rows → StandsAt member_key rows (profile, id) place → (row : MemberRow) → row ≡ get_or rows place row
    → member_row profile id rows ≡ Some row
found_at rows profile id place are stands row read = find_at pair_cmp key_before same_pair pairs member_key rows (profile, id) place are stands row read

pub found_gap : (rows : List MemberRow) (profile id place : ℕ) → WouldStandAt key_before member_key rows (profile, id) place → member_row profile id rows ≡ None
found_gap rows profile id place gap = find_gap pair_cmp key_before same_pair pairs member_key rows (profile, id) place gap

-- a member is found as its row is
pub held : (rows : List MemberRow) (profile id : ℕ) → member_of profile id (map (λ row. row.member) rows) ≡ option_map (λ row. row.member) (member_row profile id rows)
held rows profile id = find_map (λ (member : Member). same_id profile id member.profile member.id) member_in rows

pub held_by : (found : Option MemberRow) (rows list : List MemberRow) (profile id : ℕ) → found ≡ member_row profile id rows → rows ≡ list
    → option_map (λ row. row.member) found ≡ member_of profile id (map (λ row. row.member) list)
held_by found rows list profile id is same =
    ap (option_map member_in) is ∙ sym (held rows profile id) ∙ ap (λ (l : List MemberRow). member_of profile id (map (λ row. row.member) l)) same

pub absent_stands : (rows : List MemberRow) (profile id place : ℕ) → AreInOrder key_before member_key rows → StandsAt member_key rows (profile, id) place → is_some (member_of profile id (map (λ row. row.member) rows)) ≡ false → ⊥
absent_stands rows profile id place are stands none = not_absent pair_cmp key_before same_pair pairs member_in key_of rows (profile, id) place are stands none

pub there_in_gap : (rows : List MemberRow) (profile id place : ℕ) → WouldStandAt key_before member_key rows (profile, id) place → is_some (member_of profile id (map (λ row. row.member) rows)) ≡ true → ⊥
there_in_gap rows profile id place gap some = not_there pair_cmp key_before same_pair pairs member_in key_of rows (profile, id) place gap some

-- an INSERT
pub members_inserted : (rows : List MemberRow) (place : ℕ) (row : MemberRow) → WouldStandAt key_before member_key rows (row.member.profile, row.member.id) place
    → map (λ r. r.member) (insert rows place row) ≡ member_inserted row.member (map (λ r. r.member) rows)
unfolding member_inserted
members_inserted rows place row gap = map_inserted pair_cmp key_before same_pair pairs member_in key_of rows place row gap

pub uses_inserted : (rows : List MemberRow) (place : ℕ) (row : MemberRow) → WouldStandAt key_before member_key rows (row.member.profile, row.member.id) place → row.uses ≡ 0
    → (p i : ℕ) → uses_of_row (member_row p i (insert rows place row)) ≡ uses_of_row (member_row p i rows)
uses_inserted rows place row gap unused p i =
    omega (arith, insert_balanced pair_cmp key_before same_pair pairs member_key uses_of_row rows (row.member.profile, row.member.id) place gap row refl 0 0 (omega arith) (p, i))

pub order_inserted : (rows : List MemberRow) (place : ℕ) (row : MemberRow) → AreInOrder key_before member_key rows → WouldStandAt key_before member_key rows (row.member.profile, row.member.id) place
    → AreInOrder key_before member_key (insert rows place row)
order_inserted rows place row are gap = insert_in_order pair_cmp key_before same_pair pairs member_key rows (row.member.profile, row.member.id) place are gap row refl

-- a MODIFY
pub members_modified : (rows : List MemberRow) (place : ℕ) (row : MemberRow) → AreInOrder key_before member_key rows → StandsAt member_key rows (row.member.profile, row.member.id) place
    → map (λ r. r.member) (set rows place row) ≡ member_modified row.member (map (λ r. r.member) rows)
unfolding member_modified
members_modified rows place row are stands = map_modified pair_cmp key_before same_pair pairs member_in key_of rows place row are stands

pub no_members_modified : (rows : List MemberRow) (place : ℕ) (member : Member) → WouldStandAt key_before member_key rows (member.profile, member.id) place
    → map (λ r. r.member) rows ≡ member_modified member (map (λ r. r.member) rows)
unfolding member_modified
no_members_modified rows place member gap = none_modified pair_cmp key_before same_pair pairs member_in key_of rows place member gap

-- a DELETE
pub members_deleted : (rows : List MemberRow) (profile id place : ℕ) → AreInOrder key_before member_key rows → StandsAt member_key rows (profile, id) place
    → map (λ r. r.member) (remove rows place) ≡ member_deleted profile id (map (λ r. r.member) rows)
unfolding member_deleted
members_deleted rows profile id place are stands = map_deleted pair_cmp key_before same_pair pairs member_in key_of rows (profile, id) place are stands

pub no_members_deleted : (rows : List MemberRow) (profile id place : ℕ) → WouldStandAt key_before member_key rows (profile, id) place → map (λ r. r.member) rows ≡ member_deleted profile id (map (λ r. r.member) rows)
unfolding member_deleted
no_members_deleted rows profile id place gap = none_deleted pair_cmp key_before same_pair pairs member_in key_of rows (profile, id) place gap

pub uses_at : (rows : List MemberRow) (profile id place : ℕ) → AreInOrder key_before member_key rows → StandsAt member_key rows (profile, id) place → (row : MemberRow) → row ≡ get_or rows place row
    → uses_of_row (member_row profile id rows) ≡ row.uses
uses_at rows profile id place are stands row read = ap uses_of_row (found_at rows profile id place are stands row read)

pub uses_deleted : (rows : List MemberRow) (profile id place : ℕ) → AreInOrder key_before member_key rows → StandsAt member_key rows (profile, id) place → uses_of_row (member_row profile id rows) ≡ 0
    → (p i : ℕ) → uses_of_row (member_row p i (remove rows place)) ≡ uses_of_row (member_row p i rows)
uses_deleted [] profile id place are stands unused p i = absurd (omega (arith, stands.in_range))
uses_deleted (first ∷ others) profile id place are stands unused p i =
    let rows : List MemberRow = first ∷ others in
    let row : MemberRow = get_or rows place first in
    let read : row ≡ get_or rows place row = get_or_default rows place first row stands.in_range in
    let none : row.uses ≡ 0 = sym (uses_at rows profile id place are stands row read) ∙ unused in
    omega (arith, remove_balanced pair_cmp key_before same_pair pairs member_key uses_of_row rows (profile, id) place are stands row read 0 0 (omega (arith, none)) (p, i))

pub unused_in_gap : (rows : List MemberRow) (profile id place : ℕ) → WouldStandAt key_before member_key rows (profile, id) place → 1 ≤ uses_of_row (member_row profile id rows) → ⊥
unused_in_gap rows profile id place gap named =
    let none : uses_of_row (member_row profile id rows) ≡ zero = ap uses_of_row (found_gap rows profile id place gap) in
    omega (arith, named, none)

-- another row in the place of one
pub key_kept : (rows : List MemberRow) (profile id place : ℕ) → StandsAt member_key rows (profile, id) place → (row other : MemberRow) → row ≡ get_or rows place row → other.member ≡ row.member
    → member_key other ≡ (profile, id)
key_kept rows profile id place stands row other read same = ap key_of same ∙ own_key pair_cmp key_before same_pair pairs member_key rows (profile, id) place stands row read

pub order_replaced : (rows : List MemberRow) (profile id place : ℕ) (row : MemberRow) → AreInOrder key_before member_key rows → StandsAt member_key rows (profile, id) place → member_key row ≡ (profile, id)
    → AreInOrder key_before member_key (set rows place row)
order_replaced rows profile id place row are stands is = set_in_order pair_cmp key_before same_pair pairs member_key rows (profile, id) place are stands row is

pub order_kept : (rows : List MemberRow) (profile id place : ℕ) → AreInOrder key_before member_key rows → StandsAt member_key rows (profile, id) place → (row other : MemberRow) → row ≡ get_or rows place row
    → other.member ≡ row.member → AreInOrder key_before member_key (set rows place other)
order_kept rows profile id place are stands row other read same = order_replaced rows profile id place other are stands (key_kept rows profile id place stands row other read same)

pub order_removed : (rows : List MemberRow) (profile id place : ℕ) → AreInOrder key_before member_key rows → StandsAt member_key rows (profile, id) place → AreInOrder key_before member_key (remove rows place)
order_removed rows profile id place are stands = remove_in_order pair_cmp key_before same_pair pairs member_key rows (profile, id) place are stands

pub members_kept : (rows : List MemberRow) (place : ℕ) → place < length rows → (row other : MemberRow) → row ≡ get_or rows place row → other.member ≡ row.member → map (λ r. r.member) (set rows place other) ≡ map (λ r. r.member) rows
members_kept rows place in_range row other read same = map_set_same pair_cmp key_before same_pair pairs member_in key_of rows place in_range row other read same

uses_replaced : (rows : List MemberRow) (profile id place : ℕ) → AreInOrder key_before member_key rows → StandsAt member_key rows (profile, id) place → (row other : MemberRow) → row ≡ get_or rows place row
    → member_key other ≡ (profile, id) → (less more : ℕ) → other.uses + less ≡ row.uses + more → (p i : ℕ)
    → uses_of_row (member_row p i (set rows place other)) + cond (same_id p i profile id) less 0 ≡ uses_of_row (member_row p i rows) + cond (same_id p i profile id) more 0
uses_replaced rows profile id place are stands row other read is less more h p i =
    set_balanced pair_cmp key_before same_pair pairs member_key uses_of_row rows (profile, id) place are stands row other read is less more h (p, i)

pub uses_modified : (rows : List MemberRow) (profile id place : ℕ) → AreInOrder key_before member_key rows → StandsAt member_key rows (profile, id) place → (row other : MemberRow) → row ≡ get_or rows place row
    → member_key other ≡ (profile, id) → other.uses ≡ row.uses → (p i : ℕ) → uses_of_row (member_row p i (set rows place other)) ≡ uses_of_row (member_row p i rows)
uses_modified rows profile id place are stands row other read is same p i = omega (arith, uses_replaced rows profile id place are stands row other read is 0 0 (omega (arith, same)) p i)

pub uses_raised : (rows : List MemberRow) (profile id place : ℕ) → AreInOrder key_before member_key rows → StandsAt member_key rows (profile, id) place → (row other : MemberRow) → row ≡ get_or rows place row
    → other.member ≡ row.member → other.uses ≡ row.uses + 1 → (p i : ℕ) → uses_of_row (member_row p i (set rows place other)) ≡ uses_of_row (member_row p i rows) + cond (same_id p i profile id) 1 0
uses_raised rows profile id place are stands row other read same more p i =
    omega (arith, nothing (same_id p i profile id), uses_replaced rows profile id place are stands row other read (key_kept rows profile id place stands row other read same) 0 1 (omega (arith, more)) p i)

pub uses_lowered : (rows : List MemberRow) (profile id place : ℕ) → AreInOrder key_before member_key rows → StandsAt member_key rows (profile, id) place → (row other : MemberRow) → row ≡ get_or rows place row
    → other.member ≡ row.member → other.uses + 1 ≡ row.uses → (p i : ℕ) → uses_of_row (member_row p i (set rows place other)) + cond (same_id p i profile id) 1 0 ≡ uses_of_row (member_row p i rows)
uses_lowered rows profile id place are stands row other read same less p i =
    omega (arith, nothing (same_id p i profile id), uses_replaced rows profile id place are stands row other read (key_kept rows profile id place stands row other read same) 1 0 (omega (arith, less)) p i)
