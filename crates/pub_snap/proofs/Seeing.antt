-- Shifts keep the rule of what is shown.
use Rattle.std.proofs.Common.{◌≡◌, ◌≢◌, ◌⊎◌, ⊎_elim, ℕ, ◌+◌, min, List, [], ◌∷◌, ◌++◌, length, set, fold, sum_by, Option, Some, None, IfSome, Bool, true, false, if◌then◌else◌, refl, sym, ap, ◌∙◌, subst, arith, append_assoc, append-nil, length-append}
use Rattle.std.specs.Prelude.{◌^◌, ◌-◌}
use Rattle.std.proofs.lemmas.List.Sums.{fold-append, sum_by-append}
use mathlib.Core.Option.{some}
use lib.ListN.{get_elem?}
use Rattle.atomic_table.proofs.Lists.{at_set, at_snoc, set_again}
use Rattle.crossbeam_utils.specs.Register.{Admits, TurnsAt, Forks, Merges}
use Rattle.plane_image.proofs.Taking.{may_is_taken}
use Rattle.plane_image.specs.Image.{ImageVersions, steps_of}
use Rattle.plane_image.specs.Taking.{can_take, taken, steps_taken}
use Rattle.plane_spec.specs.Config.{Event}
use Rattle.plane_spec.specs.Legal.{May, Legal}
use Rattle.plane_spec.specs.Planes.{ControlState, opened, apply, applied}
use Rattle.pub_snap.specs.Beginnings.{Beginning, with_events, Begins}
use Rattle.pub_snap.specs.Snapshots.{Snapshot, Shift, IsAfter, AreShowable, IsKept, IsSeen, Feed, IsFeed, image_after, shifted, shifts, steps_in}
use Rattle.pub_snap.proofs.Listings.{legal_more, begins_self, begins_trans, begins_more}

-- what was seen begins what is shown
began : (v : Option Beginning) (seat : ℕ) (x y : Snapshot) (views : List (Option Beginning)) → IsKept x views → get_elem? views seat ≡ some v → Begins x.told y.told → IfSome v (λ b. Begins b y.told)
began None seat x y views h at up = tt
began (Some b) seat x y views h at up = begins_trans b x.told y.told (h.seen seat b at) up

some_is : (a b : Beginning) → Some a ≡ Some b → a ≡ b
some_is a b e = cc e

-- a step to an image after a list that goes on keeps the rule
pub sees : (seat : ℕ) (v : Option Beginning) (x y : Snapshot) → IsAfter y.image y.told → Begins x.told y.told → TurnsAt IsKept seat v x y IsSeen
sees seat v x y after up views h at = (
  Some y.told,
  record {
    after = after;
    seen = λ j b e. ⊎_elim (λ (t : (j ≡ seat) × (Some y.told ≡ Some b)). subst (λ (z : Beginning). Begins z y.told) (some_is y.told b t.1) (begins_self y.told))
        (λ (t : (j ≢ seat) × (get_elem? views j ≡ some (Some b))). begins_trans b x.told y.told (h.seen j b t.1) up) (at_set views seat j (Some y.told) (Some b) e);
  },
  record { is = refl; after = after; began = began v seat x y views h at up },
)

-- the same where nothing changes
pub looks : (seat : ℕ) (v : Option Beginning) (x : Snapshot) → TurnsAt IsKept seat v x x IsSeen
looks seat v x views h at = sees seat v x x h.after (begins_self x.told) views h at

pub admits : Admits IsKept None
admits x views h = record {
  after = h.after;
  seen = λ j b e. ⊎_elim (λ (t : get_elem? views j ≡ some (Some b)). h.seen j b t) (λ (t : None ≡ Some b). absurd (cc t)) (at_snoc views None (Some b) j e);
}

pub forks : (seat : ℕ) (v : Option Beginning) → Forks IsKept seat v v v
forks seat v x views h at = record {
  after = h.after;
  seen = λ j b e. ⊎_elim (λ (t : get_elem? (set views seat v) j ≡ some (Some b)). h.seen j b (subst (λ (vs : List (Option Beginning)). get_elem? vs j ≡ some (Some b)) (set_again views seat v at) t))
      (λ (t : v ≡ Some b). h.seen seat b (subst (λ (z : Option Beginning). get_elem? views seat ≡ some z) t at)) (at_snoc (set views seat v) v (Some b) j e);
}

pub merges : (seat : ℕ) (v : Option Beginning) (other : ℕ) (w : Option Beginning) → Merges IsKept seat v other w w None
merges seat v other w x views h at apart there =
    let was : get_elem? views other ≡ some w = ⊎_elim (λ (t : (other ≡ seat) × (w ≡ w)). absurd (apart t.0)) (λ (t : (other ≢ seat) × (get_elem? views other ≡ some w)). t.1) (at_set views seat other w w there) in
    record {
      after = h.after;
      seen = λ j b e. ⊎_elim (λ (t : (j ≡ other) × (None ≡ Some b)). absurd (cc t.1))
          (λ (t : (j ≢ other) × (get_elem? (set views seat w) j ≡ some (Some b))).
          ⊎_elim (λ (u : (j ≡ seat) × (w ≡ Some b)). h.seen other b (subst (λ (z : Option Beginning). get_elem? views other ≡ some z) u.1 was))
          (λ (u : (j ≢ seat) × (get_elem? views j ≡ some (Some b))). h.seen j b u.1) (at_set views seat j w (Some b) t.1))
          (at_set (set views seat w) other j None (Some b) e);
    }

capped : (n k most : ℕ) → min (min n most + k) most ≡ min (n + k) most
capped n k most = omega arith

taken_is : (c : ControlState) (event : Event) (b : Bool) → b ≡ true → (if b then apply c event else c) ≡ apply c event
taken_is c event true h = refl
taken_is c event false h = absurd (cc h)

steps_is : (event : Event) (b : Bool) → b ≡ true → (if b then steps_of event else 0) ≡ steps_of event
steps_is event true h = refl
steps_is event false h = absurd (cc h)

-- the image after an event more
pub after_more : (image : ImageVersions) (told : Beginning) (event : Event) → IsAfter image told → May (applied (opened told.start) told.events) event → IsAfter (image_after image event) (with_events told (event ∷ []))
after_more image told event after may =
    let may' : May image.now event = subst (λ (c : ControlState). May c event) (sym after.now) may in
    let can : can_take image.now event ≡ true = may_is_taken image.now event may' in
    record {
      now = taken_is image.now event (can_take image.now event) can ∙ (ap (λ (c : ControlState). apply c event) after.now ∙ sym (fold-append apply (opened told.start) told.events (event ∷ [])));
      settled = refl;
      steps = ap (λ (k : ℕ). min (image.steps + k) (2 ^ 64 - 1)) (steps_is event (can_take image.now event) can)
          ∙ (ap (λ (n : ℕ). min (n + steps_of event) (2 ^ 64 - 1)) after.steps ∙ (capped (sum_by steps_of told.events) (steps_of event) (2 ^ 64 - 1)
          ∙ ap (λ (n : ℕ). min n (2 ^ 64 - 1)) (one_more told.events event)));
      legal = legal_more (opened told.start) told.events event after.legal may;
    }
  where
    one_more : (events : List Event) (event : Event) → sum_by steps_of events + steps_of event ≡ sum_by steps_of (events ++ event ∷ [])
    one_more events event = omega (arith, sum_by-append steps_of events (event ∷ []))

-- what is shown after events
pub record AreShown (shown : Snapshot) (events : List Event) : Type 0 where
  pub after : IsAfter (fold shifted shown (shifts shown.told events)).image (fold shifted shown (shifts shown.told events)).told
  pub told : (fold shifted shown (shifts shown.told events)).told ≡ with_events shown.told events

pub no_events : (told : Beginning) → with_events told [] ≡ told
no_events told = ap (λ (events : List Event). record told { events = events }) (append-nil told.events)

pub more_events : (told : Beginning) (xs ys : List Event) → with_events (with_events told xs) ys ≡ with_events told (xs ++ ys)
more_events told xs ys = ap (λ (events : List Event). record told { events = events }) (append_assoc told.events xs ys)

pub are_shown : (shown : Snapshot) (events : List Event) → IsAfter shown.image shown.told → Legal (applied (opened shown.told.start) shown.told.events) events → AreShown shown events
are_shown shown [] after legal = record { after = after; told = sym (no_events shown.told) }
are_shown shown (event ∷ events) after legal =
    let told = with_events shown.told (event ∷ []) in
    let next : Snapshot = record { image = image_after shown.image event; told = told } in
    let rest : AreShown next events = are_shown next events (after_more shown.image shown.told event after legal.0)
    (subst (λ (c : ControlState). Legal c events) (sym (fold-append apply (opened shown.told.start) shown.told.events (event ∷ []))) legal.1) in
    record { after = rest.after; told = rest.told ∙ more_events shown.told (event ∷ []) events }

-- what is shown once these events are published, behind a beginning
pub record ArePublished (shown : Snapshot) (told : Beginning) (events : List Event) : Type 0 where
  pub showable : AreShowable shown (shifts told events)
  pub told_is : (fold shifted shown (shifts told events)).told ≡ with_events told events
  pub after : IsAfter (fold shifted shown (shifts told events)).image (with_events told events)

pub are_published : (shown : Snapshot) (told : Beginning) (events : List Event) → shown.told ≡ told → IsAfter shown.image told → Legal (applied (opened told.start) told.events) events → ArePublished shown told events
are_published shown told events is after legal =
    let after' : IsAfter shown.image shown.told = subst (λ (b : Beginning). IsAfter shown.image b) (sym is) after in
    let legal' : Legal (applied (opened shown.told.start) shown.told.events) events = subst (λ (b : Beginning). Legal (applied (opened b.start) b.events) events) (sym is) legal in
    let a : AreShown shown events = are_shown shown events after' legal' in
    subst (λ (b : Beginning). ArePublished shown b events) is (record {
      showable = record { after = a.after; begins = subst (λ (b : Beginning). Begins shown.told b) (sym a.told) (begins_more shown.told events) };
      told_is = a.told;
      after = subst (λ (b : Beginning). IsAfter (fold shifted shown (shifts shown.told events)).image b) a.told a.after;
    })

-- nothing is pending once it is published
pub is_published : (told : Beginning) (events : List Event) → IsFeed (record { told = told; pending = events }) → IsFeed (record { told = with_events told events; pending = [] })
is_published told events h = record { legal = tt; few = (let few = h.few in omega (arith, length-append told.events events)) }

-- shifts by events that go on
pub shifts_append : (told : Beginning) (xs ys : List Event) → shifts told (xs ++ ys) ≡ shifts told xs ++ shifts (with_events told xs) ys
shifts_append told [] ys = ap (λ (b : Beginning). shifts b ys) (sym (no_events told))
shifts_append told (x ∷ xs) ys = ap (λ ss. record { event = x; after = with_events told (x ∷ []) } ∷ ss) (shifts_append (with_events told (x ∷ [])) xs ys ∙ ap (λ (b : Beginning). shifts (with_events told (x ∷ [])) xs ++ shifts b ys) (more_events told (x ∷ []) xs))

-- what is left of events that the list is to go on by, while what was done is noted
pub record AreLeft (from told : Beginning) (events rest : List Event) (noted : List Shift) : Type 0 where
  pub told_is : with_events told rest ≡ with_events from events
  pub noted_is : noted ++ shifts told rest ≡ shifts from events
  pub legal : Legal (applied (opened told.start) told.events) rest
  pub list : told.list ≡ from.list
  pub count : length told.events + length rest ≡ length from.events + length events

pub all_left : (from : Beginning) (events : List Event) → Legal (applied (opened from.start) from.events) events → AreLeft from from events events []
all_left from events legal = record { told_is = refl; noted_is = refl; legal = legal; list = refl; count = refl }

pub one_less : (from told : Beginning) (events : List Event) (event : Event) (rest : List Event) (noted : List Shift) → AreLeft from told events (event ∷ rest) noted → AreLeft from (with_events told (event ∷ [])) events rest (noted ++ shifts told (event ∷ []))
one_less from told events event rest noted h = record {
  told_is = more_events told (event ∷ []) rest ∙ h.told_is;
  noted_is = append_assoc noted (shifts told (event ∷ [])) (shifts (with_events told (event ∷ [])) rest) ∙ h.noted_is;
  legal = subst (λ (c : ControlState). Legal c rest) (sym (fold-append apply (opened told.start) told.events (event ∷ []))) h.legal.1;
  list = h.list;
  count = omega (arith, h.count, length-append told.events (event ∷ []));
}

pub none_left : (from told : Beginning) (events : List Event) (noted : List Shift) → AreLeft from told events [] noted → (told ≡ with_events from events) × (noted ≡ shifts from events)
none_left from told events noted h = (sym (no_events told) ∙ h.told_is, sym (append-nil noted) ∙ h.noted_is)
