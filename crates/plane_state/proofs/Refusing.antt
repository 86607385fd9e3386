-- Why changes are refused.
use Rattle.std.proofs.Common.{◌≡◌, ◌<◌, ◌-◌, ◌^◌, ap, ap₂, sym, subst, ◌∙◌, ℕ, Bool, true, false, cond, eqb, ltb, min, List, Option, Some, None, is_some, Err, refl, ◌||◌, ◌&&◌, not, arith}
use Rattle.std.proofs.lemmas.Bool.Decides.{nat_tests}
use Rattle.list_types.specs.declared.memory.Refusal.{Refusal}
use Rattle.list_types.specs.declared.memory.Refusal.TheVariants as refusals
use Rattle.p4_types.specs.declared.code.Cause.{Cause}
use Rattle.p4_types.specs.declared.code.Code.TheVariants as codes
use Rattle.p4_types.specs.declared.code.Rule.TheVariants as rules
use Rattle.p4_types.specs.declared.info.ActionProfile.{ActionProfile}
use Rattle.p4_types.specs.declared.info.Table.{Table}
use Rattle.p4_types.specs.declared.table.Entry.{Entry}
use Rattle.p4_types.specs.declared.table.EntryChange.{EntryChange}
use Rattle.p4_types.specs.declared.table.EntryName.{EntryName}
use Rattle.p4_types.specs.declared.table.Room.{Room}
use Rattle.plane_spec.specs.Entries.{absence_cause, entry_named, insert_cause, is_full}
use Rattle.plane_spec.specs.Planes.{Plane, or_cause, if_present, if_absent, if_in_use, if_full, insert_cause_in, lacks_use, set_exceeds, group_delete_cause}
use Rattle.plane_spec.specs.Profiles.{group_of, group_uses, entry_rows, is_overweight}
use Rattle.plane_state.specs.Refusals.{first_of, insert_use_cause, weight_limit}
use Rattle.table_store.specs.Answers.{Refuses}

-- a MODIFY or a DELETE of what is absent
pub absent : (name : EntryName) (entries : List Entry) → None ≡ entry_named name entries → absence_cause name entries ≡ Some (record { rule = rules.U10; code = codes.NotFound })
unfolding absence_cause entry_named
absent name entries none = ap (λ (found : Option Entry). cond (is_some found) None (Some (record { rule = rules.U10; code = codes.NotFound }))) (sym none)

-- a MODIFY or a DELETE of what is there
pub present : (name : EntryName) (entries : List Entry) (former : Entry) → Some former ≡ entry_named name entries → absence_cause name entries ≡ None
unfolding absence_cause entry_named
present name entries former named = ap (λ (found : Option Entry). cond (is_some found) None (Some (record { rule = rules.U10; code = codes.NotFound }))) (sym named)

agree : (there full lacks exceeds : Bool) → first_of (or_cause (if_in_use lacks) (if_full exceeds)) (if_present there) ≡ None
    → cond there (Some (record { rule = rules.U10; code = codes.AlreadyExists })) (cond full (Some (record { rule = rules.U12; code = codes.ResourceExhausted })) None)
    ≡ or_cause (if_present there) (or_cause (if_in_use lacks) (if_full (full || exceeds)))
agree false false false false none = refl
agree false true false false none = refl
agree true false false false none = refl
agree true true false false none = refl
agree false full false true none = absurd (cc)
agree true full false true none = absurd (cc)
agree false full true exceeds none = absurd (cc)
agree true full true exceeds none = absurd (cc)

-- where an entry's action is not to blame, the tables alone refuse its INSERT
pub insert_agrees : (o : Option Table) (table : Table) (room : Room) (plane : Plane) (change : EntryChange) → o ≡ Some table → insert_use_cause o plane change ≡ None
    → insert_cause table (entry_rows change.action) room change.name plane.entries ≡ insert_cause_in o room plane change
unfolding insert_cause
insert_agrees o table room plane change is none =
    agree (is_some (entry_named change.name plane.entries)) (is_full table (entry_rows change.action) room plane.entries) (lacks_use plane change.action) (set_exceeds plane None change.action)
    (ap (λ (t : Option Table). insert_use_cause t plane change) (sym is) ∙ none)
    ∙ ap (λ (t : Option Table). insert_cause_in t room plane change) (sym is)

err_as : (A B : Type 0) (e : Refusal Cause) (cause : Option Cause) → Refuses {A = A} (Err e) cause → Refuses {A = B} (Err e) cause
err_as A B refusals.NoMemory cause h = tt
err_as A B (refusals.For refused) cause h = h

pub insert_refused : (A B : Type 0) (e : Refusal Cause) (o : Option Table) (table : Table) (room : Room) (plane : Plane) (change : EntryChange) → o ≡ Some table → insert_use_cause o plane change ≡ None
    → Refuses {A = A} (Err e) (insert_cause table (entry_rows change.action) room change.name plane.entries) → Refuses {A = B} (Err e) (insert_cause_in o room plane change)
insert_refused A B e o table room plane change is none refused = err_as A B e _ (subst (Refuses {A = A} (Err e)) (insert_agrees o table room plane change is none) refused)

-- a weight that stands still at 2^64 - 1 is over a limit of 32 bits where the weight itself is
still_over : (limit weight : ℕ) → limit < 2 ^ 32 → ltb limit (min weight (2 ^ 64 - 1)) ≡ ltb limit weight
still_over limit weight small = grind (arith, nat_tests)

pub over : (profile : Option ActionProfile) (limit weight : ℕ) → limit < 2 ^ 32 → limit ≡ weight_limit profile → (not (eqb limit 0) && ltb limit (min weight (2 ^ 64 - 1))) ≡ is_overweight profile weight
over None limit weight small is = ap (λ (n : ℕ). not (eqb n 0) && ltb n (min weight (2 ^ 64 - 1))) is
over (Some profile) limit weight small is = ap (λ (b : Bool). not (eqb limit 0) && b) (still_over limit weight small) ∙ ap (λ (n : ℕ). not (eqb n 0) && ltb n weight) is

not_zero : (n : ℕ) → (n ≡ 0 → ⊥) → eqb n 0 ≡ false
not_zero n h = grind (arith, nat_tests)

is_zero : (n : ℕ) → n ≡ 0 → eqb n 0 ≡ true
is_zero n h = grind (arith, nat_tests)

-- a DELETE of a group that entries name, and of one that none names
pub group_in_use : (plane : Plane) (profile id : ℕ) → is_some (group_of profile id plane.groups) ≡ true → (group_uses profile id plane.entries ≡ 0 → ⊥)
    → group_delete_cause plane profile id ≡ Some (record { rule = rules.U11; code = codes.FailedPrecondition })
group_in_use plane profile id there used = ap₂ (λ (b u : Bool). or_cause (if_absent b) (if_in_use (not u))) there (not_zero (group_uses profile id plane.entries) used)

pub group_unused : (plane : Plane) (profile id : ℕ) → is_some (group_of profile id plane.groups) ≡ true → group_uses profile id plane.entries ≡ 0 → group_delete_cause plane profile id ≡ None
group_unused plane profile id there unused = ap₂ (λ (b u : Bool). or_cause (if_absent b) (if_in_use (not u))) there (is_zero (group_uses profile id plane.entries) unused)

-- without a cause only want of memory refuses
pub only_memory : (A B : Type 0) (e : Refusal Cause) (cause other : Option Cause) → cause ≡ None → Refuses {A = A} (Err e) cause → Refuses {A = B} (Err e) other
only_memory A B refusals.NoMemory cause other none h = tt
only_memory A B (refusals.For refused) cause other none h = absurd (cc)
