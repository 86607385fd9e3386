-- The slots of what a packet hits are below the limit.
use Rattle.std.proofs.Common.{◌≡◌, sym, ℕ, zero, suc, ◌+◌, ◌<◌, ◌≤◌, Bool, true, false, eqb, List, [], ◌∷◌, ◌++◌, Option, Some, None, refl, subst, arith}
use Rattle.std.specs.Prelude.{All, IfSome}
use Rattle.std.specs.List.{filter_map, cons_option}
use Rattle.std.proofs.lemmas.Bool.Decides.{nat_tests}
use Rattle.std.proofs.lemmas.List.Elements.{All-nil, All-cons, All-head, All-tail, All-contains, All-weaker}
use Rattle.p4_types.specs.declared.records.HitMark.{HitMark}
use Rattle.p4_types.specs.declared.records.HitMark.TheVariants as marks
use Rattle.p4_types.specs.declared.table.Entry.{Entry}
use Rattle.packet_spec.proofs.Hits.{hits_are_there}
use Rattle.packet_spec.specs.Laws.{IsThere}
use Rattle.packet_spec.specs.Meaning.{Verdict, meaning}
use Rattle.plane_spec.proofs.SoundPlanes.{planes_stay_sound}
use Rattle.plane_spec.proofs.Steady.{slots_are}
use Rattle.plane_spec.specs.Config.{cells_in}
use Rattle.plane_spec.specs.Legal.{Legal}
use Rattle.plane_spec.specs.PlaneLaws.{numbers_from, slots_of, IsSoundControl}
use Rattle.plane_spec.specs.Planes.{ControlState, Plane, opened}
use Rattle.pub_snap.specs.Beginnings.{Beginning}
use Rattle.snap_worker.specs.Counting.{IsWithin}
use Rattle.snap_worker.specs.Working.{state_after, verdict_in}

-- what all of two lists have all of the first and all of the second have
All-left : (P : ℕ → Type 0) (xs ys : List ℕ) → All P (xs ++ ys) → All P xs
All-left P [] ys all = All-nil P
All-left P (x ∷ xs) ys all = All-cons P x xs (All-head P x (xs ++ ys) all) (All-left P xs ys (All-tail P x (xs ++ ys) all))

All-right : (P : ℕ → Type 0) (xs ys : List ℕ) → All P (xs ++ ys) → All P ys
All-right P [] ys all = all
All-right P (x ∷ xs) ys all = All-right P xs ys (All-tail P x (xs ++ ys) all)

first_and_others : (P : ℕ → Type 0) (o : Option ℕ) (xs : List ℕ) → All P (cons_option o xs) → IfSome o P × All P xs
first_and_others P None xs all = (tt, all)
first_and_others P (Some x) xs all = (All-head P x xs all, All-tail P x xs all)

-- what all slots of entries have, the slot of each entry has
of_entries : (P : ℕ → Type 0) (entries : List Entry) → All P (filter_map (λ entry. entry.slot) entries) → All (λ (entry : Entry). IfSome entry.slot P) entries
of_entries P [] all = All-nil (λ (entry : Entry). IfSome entry.slot P)
of_entries P (entry ∷ entries) all =
    let both = first_and_others P entry.slot (filter_map (λ (e : Entry). e.slot) entries) all in
    All-cons (λ (e : Entry). IfSome e.slot P) entry entries both.0 (of_entries P entries both.1)

at_or_behind : (P : ℕ → Type 0) (first x : ℕ) (b : Bool) → b ≡ eqb x first → first ≤ x → P first → (first + 1 ≤ x → P x) → P x
at_or_behind P first x true e le here behind = let same : first ≡ x = grind (arith, nat_tests) in subst P same here
at_or_behind P first x false e le here behind = let more : first + 1 ≤ x = grind (arith, nat_tests) in behind more

-- what all of a row of numbers have, each number in its range has
of_numbers : (P : ℕ → Type 0) (count first x : ℕ) → All P (numbers_from count first) → first ≤ x → x < first + count → P x
of_numbers P zero first x all le lt = absurd (omega (arith, le, lt))
of_numbers P (suc count) first x all le lt =
    at_or_behind P first x (eqb x first) refl le (All-head P first (numbers_from count (first + 1)) all)
    (λ more. of_numbers P count (first + 1) x (All-tail P first (numbers_from count (first + 1)) all) more (omega (arith, lt)))

-- the entry's slot, where it has one
entry_within : (most table seq : ℕ) (slot own : Option ℕ) → own ≡ slot → IfSome own (λ x. x < most) → IsWithin most (marks.Entry table seq slot)
entry_within most table seq None own is below = tt
entry_within most table seq (Some x) own is below = subst (λ (o : Option ℕ). IfSome o (λ y. y < most)) is below

-- what is there has drawn a slot below the limit, if it has one
mark_within : (most : ℕ) (plane : Plane) → All (λ slot. slot < most) (slots_of (Some plane)) → (mark : HitMark) → IsThere plane mark → IsWithin most mark
mark_within most plane all (marks.Entry table seq slot) there =
    let entries = of_entries (λ x. x < most) plane.entries (All-left (λ x. x < most) (filter_map (λ (e : Entry). e.slot) plane.entries) (numbers_from (cells_in plane.config) plane.cells) all) in
    entry_within most table seq slot there.0.slot there.4 (All-contains (λ (e : Entry). IfSome e.slot (λ x. x < most)) plane.entries there.0 entries there.1)
mark_within most plane all (marks.Cell slot) there =
    of_numbers (λ x. x < most) (cells_in plane.config) plane.cells slot
    (All-right (λ x. x < most) (filter_map (λ (e : Entry). e.slot) plane.entries) (numbers_from (cells_in plane.config) plane.cells) all) there.0 there.1

below_limit : (c : ControlState) → IsSoundControl c → All (λ slot. slot < c.slots) (slots_of c.active)
below_limit c sound =
    let limit = sound.slot_limit in
    All-weaker (λ slot. slot < c.next_slot) (λ slot. slot < c.slots) (λ slot lt. omega (arith, lt, limit)) (slots_of c.active) (All-left (λ slot. slot < c.next_slot) (slots_of c.active) (slots_of c.staged) sound.slots)

all_within : (most : ℕ) (o : Option Plane) (cpu port : ℕ) (packet : List ℕ) → All (λ slot. slot < most) (slots_of o) → All (IsWithin most) (meaning o cpu port packet).hits
unfolding meaning
all_within most None cpu port packet all = All-nil (IsWithin most)
all_within most (Some plane) cpu port packet all = All-weaker (IsThere plane) (IsWithin most) (mark_within most plane all) (meaning (Some plane) cpu port packet).hits (hits_are_there plane cpu port packet)

-- in a state that legal events lead to, the slots of what a packet hits are below the limit
pub hits_within : (told : Beginning) → Legal (opened told.start) told.events → (port : ℕ) (packet : List ℕ) → All (IsWithin told.start.slots) (verdict_in (state_after told) port packet).hits
hits_within told legal port packet =
    let c : ControlState = state_after told in
    all_within told.start.slots c.active c.cpu port packet
    (subst (λ (most : ℕ). All (λ slot. slot < most) (slots_of c.active)) (slots_are told.start told.events) (below_limit c (planes_stay_sound told.start told.events legal)))

-- the same of what is that verdict
pub are_within : (told : Beginning) (v : Verdict) (port : ℕ) (packet : List ℕ) → Legal (opened told.start) told.events → v ≡ verdict_in (state_after told) port packet → All (IsWithin told.start.slots) v.hits
are_within told v port packet legal same = subst (λ (w : Verdict). All (IsWithin told.start.slots) w.hits) (sym same) (hits_within told legal port packet)
