-- A change of members or groups that is not refused keeps their order, and needs no more rows than there are.
use Rattle.std.proofs.Common.{◌≡◌, ℕ, ◌+◌, ◌≤◌, ◌||◌, Bool, true, false, cond, not, eqb, ltb, List, [], ◌∷◌, length, map, Option, Some, None, is_some, refl, arith}
use Rattle.std.specs.List.{filter, sum_by}
use Rattle.std.proofs.lemmas.Bool.{ltb-false}
use Rattle.std.proofs.lemmas.List.Filters.{sum_by-filter_both}
use Rattle.p4_types.specs.declared.code.Cause.{Cause}
use Rattle.p4_types.specs.declared.code.Code.{Code}
use Rattle.p4_types.specs.declared.code.Rule.{Rule}
use Rattle.p4_types.specs.declared.profiles.Group.{Group}
use Rattle.p4_types.specs.declared.profiles.Member.{Member}
use Rattle.p4_types.specs.declared.table.Room.{Room}
use Rattle.plane_spec.specs.Objects.{action_profile_of}
use Rattle.plane_spec.specs.Planes.{Plane, or_cause, caused_if, if_present, if_in_use, lacks_member, member_insert_cause, group_insert_cause, group_modify_cause}
use Rattle.plane_spec.specs.Profiles.{same_id, stands_before, member_of, group_of, member_inserted, member_modified, member_deleted, group_inserted, group_modified, group_deleted, set_actions, members_in, profile_size, is_overweight, weight_of, group_rows}
use Rattle.plane_spec.proofs.KeptPlanes.{AreMembersRising, AreGroupsRising}
use Rattle.plane_spec.proofs.Keyed.{sum-placed, sum-replaced, rising_once, rising_filter, rising_placed, rising_replaced, length-sum}

pub no_cause : (a b : Option Cause) → or_cause a b ≡ None → (a ≡ None) × (b ≡ None)
no_cause None b h = (refl, h)
no_cause (Some cause) b h = absurd (cc)

pub not_broken : (broken : Bool) (rule : Rule) (code : Code) → caused_if broken rule code ≡ None → broken ≡ false
not_broken false rule code h = refl
not_broken true rule code h = absurd (cc)

pub neither : (a b : Bool) → (a || b) ≡ false → (a ≡ false) × (b ≡ false)
neither false b h = (refl, h)
neither true b h = absurd (cc)

-- members and groups that a plane may have in the place of its own, with so many rows left
pub record MayHave (room : ℕ) (old : Plane) (own_members : List Member) (own_groups : List Group) : Type 0 where
  pub members : AreMembersRising own_members
  pub groups : AreGroupsRising own_groups
  pub rows : length own_members + sum_by group_rows own_groups ≤ length old.members + sum_by group_rows old.groups + room

pub member_more : (room : Room) (old : Plane) (member : Member) → AreMembersRising old.members → AreGroupsRising old.groups → member_insert_cause room old member ≡ None
    → MayHave room.rows old (member_inserted member old.members) old.groups
unfolding member_inserted
member_more room old member members groups none =
    let present = no_cause (if_present (is_some (member_of member.profile member.id old.members))) _ none in
    let used = no_cause (if_in_use (not (eqb (set_actions member.profile old.entries) 0))) _ present.1 in
    let full = neither (ltb (profile_size (action_profile_of member.profile old.config.info)) (members_in member.profile old.members + 1)) (ltb room.rows 1) (not_broken _ _ _ used.1) in
    let more = sum-placed (λ (other : Member). stands_before other.profile other.id member.profile member.id) (λ m. 1) member old.members in record {
      members = rising_placed (λ (m : Member). m.profile) (λ m. m.id) member old.members members (not_broken _ _ _ present.0);
      groups = groups;
      rows = omega (arith, ltb-false room.rows 1 full.1, more, length-sum old.members, length-sum (member_inserted member old.members));
    }

length-mapped : {X : Type 0} (p : X → Bool) (x : X) (xs : List X) → length (map (λ y. cond (p y) x y) xs) ≡ length xs
length-mapped p x [] = refl
length-mapped p x (y ∷ xs) = omega (arith, length-mapped p x xs)

pub member_other : (room : ℕ) (old : Plane) (member : Member) → AreMembersRising old.members → AreGroupsRising old.groups → MayHave room old (member_modified member old.members) old.groups
unfolding member_modified
member_other room old member members groups = record {
  members = rising_replaced (λ (m : Member). m.profile) (λ m. m.id) member old.members members;
  groups = groups;
  rows = omega (arith, length-mapped (λ (other : Member). same_id member.profile member.id other.profile other.id) member old.members);
}

pub fewer : {X : Type 0} (p : X → Bool) (f : X → ℕ) (xs : List X) → sum_by f (filter p xs) ≤ sum_by f xs
fewer p f xs = omega (arith, sum_by-filter_both p (λ x. not (p x)) (λ x. refl) f xs)

pub member_fewer : (room : ℕ) (old : Plane) (profile id : ℕ) → AreMembersRising old.members → AreGroupsRising old.groups → MayHave room old (member_deleted profile id old.members) old.groups
unfolding member_deleted
member_fewer room old profile id members groups =
    let p : Member → Bool = λ other. not (same_id profile id other.profile other.id) in record {
      members = rising_filter (λ (m : Member). m.profile) (λ m. m.id) p old.members members;
      groups = groups;
      rows = omega (arith, fewer p (λ m. 1) old.members, length-sum old.members, length-sum (filter p old.members));
    }

pub group_more : (room : Room) (old : Plane) (group : Group) → AreMembersRising old.members → AreGroupsRising old.groups → group_insert_cause room old group ≡ None
    → MayHave room.rows old old.members (group_inserted group old.groups)
unfolding group_inserted
group_more room old group members groups none =
    let present = no_cause (if_present (is_some (group_of group.profile group.id old.groups))) _ none in
    let used = no_cause (if_in_use (lacks_member group.profile old.members group.shares || not (eqb (set_actions group.profile old.entries) 0))) _ present.1 in
    let full = neither (is_overweight (action_profile_of group.profile old.config.info) (weight_of group.shares)) (ltb room.rows (group_rows group)) (not_broken _ _ _ used.1) in
    let more = sum-placed (λ (other : Group). stands_before other.profile other.id group.profile group.id) group_rows group old.groups in record {
      members = members;
      groups = rising_placed (λ (g : Group). g.profile) (λ g. g.id) group old.groups groups (not_broken _ _ _ present.0);
      rows = omega (arith, ltb-false room.rows (group_rows group) full.1, more);
    }

pub group_other : (found : Option Group) (room : Room) (old : Plane) (group : Group) → group_of group.profile group.id old.groups ≡ found → AreMembersRising old.members → AreGroupsRising old.groups
    → group_modify_cause found room old group ≡ None → MayHave room.rows old old.members (group_modified group old.groups)
unfolding group_modified
group_other None room old group named members groups none = absurd (cc)
group_other (Some former) room old group named members groups none =
    let used = no_cause (if_in_use (lacks_member group.profile old.members group.shares)) _ none in
    let full = neither (is_overweight (action_profile_of group.profile old.config.info) (weight_of group.shares)) (ltb (room.rows + group_rows former) (group_rows group)) (not_broken _ _ _ used.1) in
    let p : Group → Bool = λ other. same_id group.profile group.id other.profile other.id in
    let once = rising_once (λ (g : Group). g.profile) (λ g. g.id) group.profile group.id old.groups groups in
    let other = sum-replaced p (λ g. group) group_rows former old.groups once named in record {
      members = members;
      groups = rising_replaced (λ (g : Group). g.profile) (λ g. g.id) group old.groups groups;
      rows = omega (arith, ltb-false (room.rows + group_rows former) (group_rows group) full.1, other);
    }

pub group_fewer : (room : ℕ) (old : Plane) (profile id : ℕ) → AreMembersRising old.members → AreGroupsRising old.groups → MayHave room old old.members (group_deleted profile id old.groups)
unfolding group_deleted
group_fewer room old profile id members groups =
    let p : Group → Bool = λ other. not (same_id profile id other.profile other.id) in record {
      members = members;
      groups = rising_filter (λ (g : Group). g.profile) (λ g. g.id) p old.groups groups;
      rows = omega (arith, fewer p group_rows old.groups);
    }
