-- The counts that are kept of a plane stay its own where a change is made of both.
use Rattle.std.proofs.Common.{◌≡◌, ◌∙◌, ap, sym, subst, ℕ, suc, ◌+◌, ◌<◌, ◌≤◌, Bool, true, false, cond, eqb, not, List, [], ◌∷◌, length, map, filter, Option, Some, None, refl, arith}
use Rattle.std.specs.List.{AllByRecursion, AllPairs, find, sum_by}
use Rattle.std.proofs.lemmas.Bool.Decides.{nat_tests}
use Rattle.std.proofs.lemmas.List.Filters.{sum_by-filter_both}
use Rattle.std.proofs.lemmas.List.Sums.{sum_by-cons}
use Rattle.p4_types.specs.declared.multicast.MulticastChange.{MulticastChange}
use Rattle.p4_types.specs.declared.multicast.MulticastChange.TheVariants as multicast_changes
use Rattle.p4_types.specs.declared.multicast.MulticastGroup.{MulticastGroup}
use Rattle.p4_types.specs.declared.profiles.Group.{Group}
use Rattle.p4_types.specs.declared.profiles.Member.{Member}
use Rattle.p4_types.specs.declared.table.Entry.{Entry}
use Rattle.p4_types.specs.declared.table.EntryAction.{EntryAction}
use Rattle.p4_types.specs.declared.table.EntryChange.{EntryChange}
use Rattle.p4_types.specs.declared.table.EntryName.{EntryName}
use Rattle.plane_spec.specs.Entries.{same_name, entry_named, inserted, modified, deleted}
use Rattle.plane_spec.specs.Multicast.{multicast_of, multicast_rows, multicast_changed}
use Rattle.plane_spec.specs.Order.{StandsBefore}
use Rattle.plane_spec.specs.Planes.{Plane, rows_of}
use Rattle.plane_spec.specs.Profiles.{same_id, stands_before, member_of, group_of, member_inserted, member_modified, member_deleted, group_inserted, group_modified, group_deleted, names_member, names_group, shares_of, member_uses, group_uses, set_size, set_actions, entry_rows, group_rows}
use Rattle.plane_spec.proofs.ChangedMulticast.{sum_with}
use Rattle.plane_spec.proofs.ChangedPlanes.{stand_once, sum-of-modified}
use Rattle.plane_spec.proofs.Counts.{sum-inserted}
use Rattle.plane_spec.proofs.EntryOrder.{Stand}
use Rattle.plane_spec.proofs.Keyed.{AreRising, IsOnce, sum-placed, sum-replaced, sum-removed, rising_once, length-sum}
use Rattle.plane_spec.proofs.Lists.{All-weaken}
use Rattle.plane_state.specs.Versions.{Counted, IsCounted, group_changed, rows_at, rows_brought}
use Rattle.table_store.specs.Rising as numbers
use Rattle.profile_store.specs.Order.{AreInOrder, key_before, member_key, group_key}
use Rattle.profile_store.specs.Rows.{Rows, members_of, groups_of, uses_of_member, uses_of_group, actions_of}
use Rattle.profile_store.specs.declared.rows.GroupRow.{GroupRow}
use Rattle.profile_store.specs.declared.rows.MemberRow.{MemberRow}

pub standing : (entries : List Entry) → AllPairs StandsBefore entries → Stand entries
standing [] order = tt
standing (e ∷ entries) order = (
  λ i d in_range. order 0 (suc i) d (omega arith) (omega (arith, in_range)),
  standing entries (λ i j d before in_range. order (suc i) (suc j) d (omega (arith, before)) (omega (arith, in_range))),
)

-- the same counts of an equal plane
pub counted_as : (new : Counted) (plane : Plane) → new.plane ≡ plane → IsCounted (record { plane = plane; uses = new.uses; rows = new.rows }) → IsCounted new
counted_as new plane is h = record {
  members = λ p i. h.members p i ∙ sym (ap (λ (q : Plane). member_uses p i q.entries q.groups) is);
  groups = λ p i. h.groups p i ∙ sym (ap (λ (q : Plane). group_uses p i q.entries) is);
  sets = λ p. h.sets p ∙ sym (ap (λ (q : Plane). set_actions p q.entries) is);
  rows = h.rows ∙ sym (ap rows_of is);
}

-- an action more is named by
pub record HasMore (action : EntryAction) (old new : Rows) : Type 0 where
  pub members : (p i : ℕ) → uses_of_member p i new ≡ uses_of_member p i old + cond (names_member p i action) 1 0
  pub groups : (p i : ℕ) → uses_of_group p i new ≡ uses_of_group p i old + cond (names_group p i action) 1 0
  pub sets : (p : ℕ) → actions_of p new ≡ actions_of p old + set_size p action

pub inserted_counted : (old : Counted) (uses : Rows) (rows : ℕ) (entry : Entry) → IsCounted old → HasMore entry.action old.uses uses → rows ≡ old.rows + entry_rows entry.action
    → IsCounted (record { plane = record old.plane { entries = inserted entry old.plane.entries }; uses = uses; rows = rows })
inserted_counted old uses rows entry h more taken =
    let entries = old.plane.entries in record {
      members = λ p i. omega (arith, h.members p i, more.members p i, sum-inserted (λ e. cond (names_member p i e.action) 1 0) entry entries);
      groups = λ p i. omega (arith, h.groups p i, more.groups p i, sum-inserted (λ e. cond (names_group p i e.action) 1 0) entry entries);
      sets = λ p. omega (arith, h.sets p, more.sets p, sum-inserted (λ e. set_size p e.action) entry entries);
      rows = omega (arith, h.rows, taken, sum-inserted (λ e. entry_rows e.action) entry entries);
    }

pub modified_counted : (old : Counted) (mid uses : Rows) (rows : ℕ) (change : EntryChange) (former : Entry) → AllPairs StandsBefore old.plane.entries → entry_named change.name old.plane.entries ≡ Some former
    → IsCounted old → HasMore change.action old.uses mid → HasMore former.action uses mid → rows + entry_rows former.action ≡ old.rows + entry_rows change.action
    → IsCounted (record { plane = record old.plane { entries = modified change old.plane.entries }; uses = uses; rows = rows })
modified_counted old mid uses rows change former order named h more less taken =
    let entries = old.plane.entries in
    let stand = standing entries order in record {
      members = λ p i. omega (arith, h.members p i, more.members p i, less.members p i, sum-of-modified (λ e. cond (names_member p i e.action) 1 0) change former entries stand named);
      groups = λ p i. omega (arith, h.groups p i, more.groups p i, less.groups p i, sum-of-modified (λ e. cond (names_group p i e.action) 1 0) change former entries stand named);
      sets = λ p. omega (arith, h.sets p, more.sets p, less.sets p, sum-of-modified (λ e. set_size p e.action) change former entries stand named);
      rows = omega (arith, h.rows, taken, sum-of-modified (λ e. entry_rows e.action) change former entries stand named);
    }

-- what a DELETE does to a sum over the entries
sum-of-deleted : (f : Entry → ℕ) (name : EntryName) (former : Entry) (entries : List Entry) → AllPairs StandsBefore entries → entry_named name entries ≡ Some former → sum_by f (deleted name entries) + f former ≡ sum_by f entries
unfolding entry_named deleted
sum-of-deleted f name former entries order named = sum-removed (λ e. same_name name e.name) f former entries (stand_once name entries (standing entries order)) named

pub deleted_counted : (old : Counted) (uses : Rows) (rows : ℕ) (name : EntryName) (former : Entry) → AllPairs StandsBefore old.plane.entries → entry_named name old.plane.entries ≡ Some former
    → IsCounted old → HasMore former.action uses old.uses → rows + entry_rows former.action ≡ old.rows
    → IsCounted (record { plane = record old.plane { entries = deleted name old.plane.entries }; uses = uses; rows = rows })
deleted_counted old uses rows name former order named h less taken =
    let entries = old.plane.entries in record {
      members = λ p i. omega (arith, h.members p i, less.members p i, sum-of-deleted (λ e. cond (names_member p i e.action) 1 0) name former entries order named);
      groups = λ p i. omega (arith, h.groups p i, less.groups p i, sum-of-deleted (λ e. cond (names_group p i e.action) 1 0) name former entries order named);
      sets = λ p. omega (arith, h.sets p, less.sets p, sum-of-deleted (λ e. set_size p e.action) name former entries order named);
      rows = omega (arith, h.rows, taken, sum-of-deleted (λ e. entry_rows e.action) name former entries order named);
    }

part_here : {X : Type 0} (b : Bool) (f : X → ℕ) (x y : X) (xs : List X) (o : Option X) → cond b (Some x) o ≡ Some y → (o ≡ Some y → f y ≤ sum_by f xs) → f y ≤ f x + sum_by f xs
part_here true f x y xs o is later = let same : x ≡ y = cc in omega (arith, ap f same)
part_here false f x y xs o is later = omega (arith, later is)

-- one of the parts of a sum
pub part_of_sum : {X : Type 0} (p : X → Bool) (f : X → ℕ) (y : X) (xs : List X) → find p xs ≡ Some y → f y ≤ sum_by f xs
part_of_sum p f y [] is = absurd (cc)
part_of_sum p f y (x ∷ xs) is = omega (arith, sum_by-cons f x xs, part_here (p x) f x y xs (find p xs) is (part_of_sum p f y xs))

pub entry_part : (f : Entry → ℕ) (name : EntryName) (former : Entry) (entries : List Entry) → entry_named name entries ≡ Some former → f former ≤ sum_by f entries
unfolding entry_named
entry_part f name former entries named = part_of_sum (λ e. same_name name e.name) f former entries named

-- ---- members

pub member_inserted_counted : (old : Counted) (uses : Rows) (rows : ℕ) (member : Member) → IsCounted old → ((p i : ℕ) → uses_of_member p i uses ≡ uses_of_member p i old.uses) → uses.groups ≡ old.uses.groups → uses.sets ≡ old.uses.sets
    → rows ≡ old.rows + 1 → IsCounted (record { plane = record old.plane { members = member_inserted member old.plane.members }; uses = uses; rows = rows })
unfolding member_inserted
member_inserted_counted old uses rows member h named groups sets taken = record {
  members = λ p i. named p i ∙ h.members p i;
  groups = λ p i. ap (λ (xs : List GroupRow). uses_of_group p i (record uses { groups = xs })) groups ∙ h.groups p i;
  sets = λ p. ap (λ xs. actions_of p (record uses { sets = xs })) sets ∙ h.sets p;
  rows = omega (
    arith,
    h.rows,
    taken,
    sum-placed (λ (other : Member). stands_before other.profile other.id member.profile member.id) (λ m. 1) member old.plane.members,
    length-sum old.plane.members,
    length-sum (member_inserted member old.plane.members),
  );
}

length-mapped : {X : Type 0} (p : X → Bool) (x : X) (xs : List X) → length (map (λ y. cond (p y) x y) xs) ≡ length xs
length-mapped p x [] = refl
length-mapped p x (y ∷ xs) = omega (arith, length-mapped p x xs)

pub member_modified_counted : (old : Counted) (uses : Rows) (rows : ℕ) (member : Member) → IsCounted old → ((p i : ℕ) → uses_of_member p i uses ≡ uses_of_member p i old.uses) → uses.groups ≡ old.uses.groups → uses.sets ≡ old.uses.sets
    → rows ≡ old.rows → IsCounted (record { plane = record old.plane { members = member_modified member old.plane.members }; uses = uses; rows = rows })
unfolding member_modified
member_modified_counted old uses rows member h named groups sets taken = record {
  members = λ p i. named p i ∙ h.members p i;
  groups = λ p i. ap (λ (xs : List GroupRow). uses_of_group p i (record uses { groups = xs })) groups ∙ h.groups p i;
  sets = λ p. ap (λ xs. actions_of p (record uses { sets = xs })) sets ∙ h.sets p;
  rows = omega (arith, h.rows, taken, length-mapped (λ (other : Member). same_id member.profile member.id other.profile other.id) member old.plane.members);
}

each_mapped : {X Y : Type 0} (P : Y → Type 0) (f : X → Y) (xs : List X) → AllByRecursion (λ x. P (f x)) xs → AllByRecursion P (map f xs)
each_mapped P f [] h = tt
each_mapped P f (x ∷ xs) h = (h.0, each_mapped P f xs h.1)

members_rise : (rows : List MemberRow) → AreInOrder key_before member_key rows → AreRising (λ (m : Member). m.profile) (λ m. m.id) (map (λ row. row.member) rows)
members_rise [] order = tt
members_rise (row ∷ rows) order = (each_mapped (λ (m : Member). stands_before row.member.profile row.member.id m.profile m.id ≡ true) (λ r. r.member) rows order.0, members_rise rows order.1)

groups_rise : (rows : List GroupRow) → AreInOrder key_before group_key rows → AreRising (λ (g : Group). g.profile) (λ g. g.id) (map (λ row. row.group) rows)
groups_rise [] order = tt
groups_rise (row ∷ rows) order = (each_mapped (λ (g : Group). stands_before row.group.profile row.group.id g.profile g.id ≡ true) (λ r. r.group) rows order.0, groups_rise rows order.1)

pub member_deleted_counted : (old : Counted) (uses : Rows) (rows profile id : ℕ) (former : Member) → IsCounted old → AreInOrder key_before member_key old.uses.members → old.plane.members ≡ members_of old.uses
    → member_of profile id old.plane.members ≡ Some former → ((p i : ℕ) → uses_of_member p i uses ≡ uses_of_member p i old.uses) → uses.groups ≡ old.uses.groups → uses.sets ≡ old.uses.sets
    → rows + 1 ≡ old.rows → IsCounted (record { plane = record old.plane { members = member_deleted profile id old.plane.members }; uses = uses; rows = rows })
unfolding member_deleted
member_deleted_counted old uses rows profile id former h order is found named groups sets taken =
    let rising = subst (AreRising (λ (m : Member). m.profile) (λ m. m.id)) (sym is) (members_rise old.uses.members order) in
    let p : Member → Bool = λ m. same_id profile id m.profile m.id in record {
      members = λ p i. named p i ∙ h.members p i;
      groups = λ p i. ap (λ (xs : List GroupRow). uses_of_group p i (record uses { groups = xs })) groups ∙ h.groups p i;
      sets = λ p. ap (λ xs. actions_of p (record uses { sets = xs })) sets ∙ h.sets p;
      rows = omega (
        arith,
        h.rows,
        taken,
        sum-removed p (λ m. 1) former old.plane.members (rising_once (λ (m : Member). m.profile) (λ m. m.id) profile id old.plane.members rising) found,
        length-sum old.plane.members,
        length-sum (member_deleted profile id old.plane.members),
      );
    }

-- ---- groups

pub group_inserted_counted : (old : Counted) (uses : Rows) (rows : ℕ) (group : Group) → IsCounted old → ((p i : ℕ) → uses_of_member p i uses ≡ uses_of_member p i old.uses + shares_of p i group)
    → ((p i : ℕ) → uses_of_group p i uses ≡ uses_of_group p i old.uses) → uses.sets ≡ old.uses.sets → rows ≡ old.rows + group_rows group
    → IsCounted (record { plane = record old.plane { groups = group_inserted group old.plane.groups }; uses = uses; rows = rows })
unfolding group_inserted
group_inserted_counted old uses rows group h more named sets taken =
    let p : Group → Bool = λ other. stands_before other.profile other.id group.profile group.id in record {
      members = λ q i. omega (arith, h.members q i, more q i, sum-placed p (shares_of q i) group old.plane.groups);
      groups = λ q i. named q i ∙ h.groups q i;
      sets = λ q. ap (λ xs. actions_of q (record uses { sets = xs })) sets ∙ h.sets q;
      rows = omega (arith, h.rows, taken, sum-placed p group_rows group old.plane.groups);
    }

pub group_modified_counted : (old : Counted) (uses : Rows) (rows : ℕ) (group former : Group) → IsCounted old → AreInOrder key_before group_key old.uses.groups → old.plane.groups ≡ groups_of old.uses
    → group_of group.profile group.id old.plane.groups ≡ Some former → ((p i : ℕ) → uses_of_member p i uses + shares_of p i former ≡ uses_of_member p i old.uses + shares_of p i group)
    → ((p i : ℕ) → uses_of_group p i uses ≡ uses_of_group p i old.uses) → uses.sets ≡ old.uses.sets → rows + group_rows former ≡ old.rows + group_rows group
    → IsCounted (record { plane = record old.plane { groups = group_modified group old.plane.groups }; uses = uses; rows = rows })
unfolding group_modified
group_modified_counted old uses rows group former h order is found moved named sets taken =
    let rising = subst (AreRising (λ (g : Group). g.profile) (λ g. g.id)) (sym is) (groups_rise old.uses.groups order) in
    let p : Group → Bool = λ other. same_id group.profile group.id other.profile other.id in
    let once = rising_once (λ (g : Group). g.profile) (λ g. g.id) group.profile group.id old.plane.groups rising in record {
      members = λ q i. omega (arith, h.members q i, moved q i, sum-replaced p (λ g. group) (shares_of q i) former old.plane.groups once found);
      groups = λ q i. named q i ∙ h.groups q i;
      sets = λ q. ap (λ xs. actions_of q (record uses { sets = xs })) sets ∙ h.sets q;
      rows = omega (arith, h.rows, taken, sum-replaced p (λ g. group) group_rows former old.plane.groups once found);
    }

pub group_deleted_counted : (old : Counted) (uses : Rows) (rows profile id : ℕ) (former : Group) → IsCounted old → AreInOrder key_before group_key old.uses.groups → old.plane.groups ≡ groups_of old.uses
    → group_of profile id old.plane.groups ≡ Some former → ((p i : ℕ) → uses_of_member p i uses + shares_of p i former ≡ uses_of_member p i old.uses)
    → ((p i : ℕ) → uses_of_group p i uses ≡ uses_of_group p i old.uses) → uses.sets ≡ old.uses.sets → rows + group_rows former ≡ old.rows
    → IsCounted (record { plane = record old.plane { groups = group_deleted profile id old.plane.groups }; uses = uses; rows = rows })
unfolding group_deleted
group_deleted_counted old uses rows profile id former h order is found moved named sets taken =
    let rising = subst (AreRising (λ (g : Group). g.profile) (λ g. g.id)) (sym is) (groups_rise old.uses.groups order) in
    let p : Group → Bool = λ other. same_id profile id other.profile other.id in
    let once = rising_once (λ (g : Group). g.profile) (λ g. g.id) profile id old.plane.groups rising in record {
      members = λ q i. omega (arith, h.members q i, moved q i, sum-removed p (shares_of q i) former old.plane.groups once found);
      groups = λ q i. named q i ∙ h.groups q i;
      sets = λ q. ap (λ xs. actions_of q (record uses { sets = xs })) sets ∙ h.sets q;
      rows = omega (arith, h.rows, taken, sum-removed p group_rows former old.plane.groups once found);
    }

pub group_part : (f : Group → ℕ) (profile id : ℕ) (former : Group) (groups : List Group) → group_of profile id groups ≡ Some former → f former ≤ sum_by f groups
group_part f profile id former groups found = part_of_sum (λ g. same_id profile id g.profile g.id) f former groups found

-- ---- multicast groups

later_differs : (a b n : ℕ) → a < b → eqb a n ≡ true → eqb b n ≡ false
later_differs a b n above same = grind (arith, nat_tests)

-- one has an id at most
multicast_once : (at : ℕ) (groups : List MulticastGroup) → numbers.AreRising (λ g. g.id) groups → IsOnce (λ g. eqb g.id at) groups
multicast_once at [] rising = tt
multicast_once at (g ∷ groups) rising = (
  λ same. All-weaken (λ (o : MulticastGroup). g.id < o.id) (λ o. eqb o.id at ≡ false) (λ o above. later_differs g.id o.id at above same) groups rising.0,
  multicast_once at groups rising.1,
)

none_here : (b : Bool) (g : MulticastGroup) (o : Option MulticastGroup) (others : List MulticastGroup) → cond b (Some g) o ≡ None → (o ≡ None → sum_by multicast_rows others ≡ 0)
    → sum_by multicast_rows (cond b (g ∷ others) others) ≡ 0
none_here true g o others none later = absurd (cc)
none_here false g o others none later = later none

none_rows : (at : ℕ) (groups : List MulticastGroup) → multicast_of at groups ≡ None → sum_by multicast_rows (filter (λ g. eqb g.id at) groups) ≡ 0
none_rows at [] none = refl
none_rows at (g ∷ groups) none = none_here (eqb g.id at) g (multicast_of at groups) (filter (λ g. eqb g.id at) groups) none (none_rows at groups)

-- the rows of those of an id are those of the one that is found
own_rows : (o : Option MulticastGroup) (at : ℕ) (groups : List MulticastGroup) → multicast_of at groups ≡ o → numbers.AreRising (λ g. g.id) groups
    → sum_by multicast_rows (filter (λ g. eqb g.id at) groups) ≡ rows_at o
own_rows None at groups is rising = none_rows at groups is
own_rows (Some former) at groups is rising =
    let p : MulticastGroup → Bool = λ g. eqb g.id at in
    omega (arith, sum-removed p multicast_rows former groups (multicast_once at groups rising) is, sum_by-filter_both p (λ g. not (p g)) (λ g. refl) multicast_rows groups)

rows_changed : (change : MulticastChange) (groups : List MulticastGroup) → numbers.AreRising (λ g. g.id) groups
    → sum_by multicast_rows (multicast_changed groups change) + rows_at (multicast_of (group_changed change) groups) ≡ sum_by multicast_rows groups + rows_brought change
rows_changed (multicast_changes.Insert group) groups rising = omega (arith, sum_with multicast_rows group groups, own_rows _ group.id groups refl rising)
rows_changed (multicast_changes.Modify group) groups rising = omega (arith, sum_with multicast_rows group groups, own_rows _ group.id groups refl rising)
rows_changed (multicast_changes.Delete id) groups rising =
    let p : MulticastGroup → Bool = λ g. eqb g.id id in
    omega (arith, own_rows _ id groups refl rising, sum_by-filter_both p (λ g. not (p g)) (λ g. refl) multicast_rows groups)

pub multicast_changed_counted : (old : Counted) (rows : ℕ) (change : MulticastChange) → IsCounted old → numbers.AreRising (λ g. g.id) old.plane.multicast
    → rows + rows_at (multicast_of (group_changed change) old.plane.multicast) ≡ old.rows + rows_brought change
    → IsCounted (record { plane = record old.plane { multicast = multicast_changed old.plane.multicast change }; uses = old.uses; rows = rows })
multicast_changed_counted old rows change h rising taken = record {
  members = h.members;
  groups = h.groups;
  sets = h.sets;
  rows = omega (arith, h.rows, taken, rows_changed change old.plane.multicast rising);
}

found_rows : (o : Option MulticastGroup) (at : ℕ) (groups : List MulticastGroup) → multicast_of at groups ≡ o → rows_at o ≤ sum_by multicast_rows groups
found_rows None at groups is = omega arith
found_rows (Some former) at groups is = part_of_sum (λ (g : MulticastGroup). eqb g.id at) multicast_rows former groups is

-- the rows of a multicast group are among those that are counted
pub multicast_rows_within : (old : Counted) (at : ℕ) → IsCounted old → rows_at (multicast_of at old.plane.multicast) ≤ old.rows
multicast_rows_within old at h = omega (arith, h.rows, found_rows _ at old.plane.multicast refl)

-- ---- what is there to be given back

-- a name less could be taken off
pub record IsNamed (action : EntryAction) (uses : Rows) : Type 0 where
  pub members : (p i : ℕ) → cond (names_member p i action) 1 0 ≤ uses_of_member p i uses
  pub groups : (p i : ℕ) → cond (names_group p i action) 1 0 ≤ uses_of_group p i uses
  pub sets : (p : ℕ) → set_size p action ≤ actions_of p uses

-- what an entry names is named
pub entry_named_is : (old : Counted) (name : EntryName) (former : Entry) (action : EntryAction) → IsCounted old → entry_named name old.plane.entries ≡ Some former → action ≡ former.action → IsNamed action old.uses
entry_named_is old name former action h named is = subst (λ (a : EntryAction). IsNamed a old.uses) (sym is) (record {
  members = λ p i. omega (arith, h.members p i, entry_part (λ e. cond (names_member p i e.action) 1 0) name former old.plane.entries named);
  groups = λ p i. omega (arith, h.groups p i, entry_part (λ e. cond (names_group p i e.action) 1 0) name former old.plane.entries named);
  sets = λ p. omega (arith, h.sets p, entry_part (λ e. set_size p e.action) name former old.plane.entries named);
})

pub still_named : (action more : EntryAction) (old new : Rows) → HasMore more old new → IsNamed action old → IsNamed action new
still_named action more old new h named = record {
  members = λ p i. omega (arith, h.members p i, named.members p i);
  groups = λ p i. omega (arith, h.groups p i, named.groups p i);
  sets = λ p. omega (arith, h.sets p, named.sets p);
}

-- the rows of an entry are among those that are counted
pub entry_rows_within : (old : Counted) (name : EntryName) (former : Entry) → IsCounted old → entry_named name old.plane.entries ≡ Some former → entry_rows former.action ≤ old.rows
entry_rows_within old name former h named = omega (arith, h.rows, entry_part (λ e. entry_rows e.action) name former old.plane.entries named)

-- a member is one of the rows that are counted
pub member_rows_within : (old : Counted) (profile id : ℕ) (former : Member) → IsCounted old → member_of profile id old.plane.members ≡ Some former → 1 ≤ old.rows
member_rows_within old profile id former h found = omega (arith, h.rows, length-sum old.plane.members, part_of_sum (λ m. same_id profile id m.profile m.id) (λ m. 1) former old.plane.members found)

-- what a group names is named
pub shares_named : (old : Counted) (profile id : ℕ) (former group : Group) → IsCounted old → group_of profile id old.plane.groups ≡ Some former → group ≡ former → (p i : ℕ) → shares_of p i group ≤ uses_of_member p i old.uses
shares_named old profile id former group h found is p i =
    subst (λ (g : Group). shares_of p i g ≤ uses_of_member p i old.uses) (sym is) (omega (arith, h.members p i, group_part (shares_of p i) profile id former old.plane.groups found))

-- the rows of a group are among those that are counted
pub group_rows_within : (old : Counted) (profile id : ℕ) (former : Group) → IsCounted old → group_of profile id old.plane.groups ≡ Some former → group_rows former ≤ old.rows
group_rows_within old profile id former h found = omega (arith, h.rows, group_part group_rows profile id former old.plane.groups found)

-- ---- equal planes

pub same_plane : (plane : Plane) (entries other_entries : List Entry) (members other_members : List Member) (groups other_groups : List Group) → entries ≡ other_entries → members ≡ other_members → groups ≡ other_groups
    → record plane { entries = entries; members = members; groups = groups } ≡ record plane { entries = other_entries; members = other_members; groups = other_groups }
same_plane plane entries other_entries members other_members groups other_groups e m g = cc
