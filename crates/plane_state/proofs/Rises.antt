-- Changes of what stands by rising number: default actions by their tables, digest entries by their digests, multicast groups by their ids.
use Rattle.std.proofs.Common.{◌≡◌, ℕ, suc, ◌<◌, ◌≤◌, Bool, true, false, cond, not, eqb, ltb, List, [], ◌∷◌, ◌++◌, get_or, set, take, drop, filter, Option, Some, None, is_some, Result, Ok, Err, OnOk, OnErr, append_assoc, refl, sym, ap, subst, ◌∙◌, arith}
use Rattle.std.specs.List.{AllByRecursion, insert, remove, find}
use Rattle.std.proofs.lemmas.Bool.Decides.{nat_tests}
use Rattle.std.proofs.lemmas.List.{append-nil, set_split, set-get_or, take-append-drop}
use Rattle.std.proofs.lemmas.List.Elements.{filter-append}
use Rattle.p4_types.specs.declared.messages.DigestEntry.{DigestEntry}
use Rattle.p4_types.specs.declared.multicast.MulticastChange.{MulticastChange}
use Rattle.p4_types.specs.declared.multicast.MulticastChange.TheVariants as multicast_changes
use Rattle.p4_types.specs.declared.multicast.MulticastGroup.{MulticastGroup}
use Rattle.p4_types.specs.declared.table.ActionCall.{ActionCall}
use Rattle.p4_types.specs.declared.table.DefaultAction.{DefaultAction}
use Rattle.p4_types.specs.declared.table.DigestChange.{DigestChange}
use Rattle.p4_types.specs.declared.table.DigestChange.TheVariants as digest_changes
use Rattle.plane_spec.specs.Multicast.{multicast_changed}
use Rattle.plane_spec.specs.Planes.{as_default, with_default, digests_changed}
use Rattle.plane_spec.proofs.Lists.{All-weaken, All-filter}
use Rattle.table_store.specs.Rising.{AreRising, StandsAt, WouldStandAt}
use Rattle.table_store.proofs.Lists.{each_append, filter_all, filter_none}
use Rattle.table_store.proofs.Places.{before_place, behind_place}

-- the lower ones, these of the number, and the higher ones
abbrev pub with_own : {X : Type 0} → (X → ℕ) → ℕ → List X → List X → List X
with_own key at own xs = filter (λ d. ltb (key d) at) xs ++ (own ++ filter (λ d. ltb at (key d)) xs)

pub is_default : (table : ℕ) (action : Option ActionCall) (defaults : List DefaultAction) → with_default table action defaults ≡ with_own (λ d. d.table) table (as_default table action) defaults
is_default table action defaults = append_assoc (filter (λ (d : DefaultAction). ltb d.table table) defaults) (as_default table action) (filter (λ (d : DefaultAction). ltb table d.table) defaults)

lower : (a b : ℕ) → a < b → ltb a b ≡ true
lower a b h = grind (arith, nat_tests)

not_lower : (a b : ℕ) → b ≤ a → ltb a b ≡ false
not_lower a b h = grind (arith, nat_tests)

three : {X : Type 0} (a b c d e f : List X) → a ≡ b → c ≡ d → e ≡ f → a ++ (c ++ e) ≡ b ++ (d ++ f)
three a b c d e f g h k = cc

-- what is lower, of the number, and higher
with_parts : {X : Type 0} (key : X → ℕ) (at : ℕ) (new before own after : List X) → AllByRecursion (λ d. key d < at) before → AllByRecursion (λ d. key d ≡ at) own → AllByRecursion (λ d. at < key d) after
    → with_own key at new (before ++ (own ++ after)) ≡ before ++ (new ++ after)
with_parts {X = X} key at new before own after below equal above =
    let low : X → Bool = λ d. ltb (key d) at in
    let high : X → Bool = λ d. ltb at (key d) in
    let lows : filter low (before ++ (own ++ after)) ≡ before = filter-append low before (own ++ after) ∙ ap (λ xs. filter low before ++ xs) (filter-append low own after)
    ∙ three _ before _ [] _ [] (filter_all low before (All-weaken (λ d. key d < at) (λ d. low d ≡ true) (λ d h. lower (key d) at h) before below))
    (filter_none low own (All-weaken (λ d. key d ≡ at) (λ d. low d ≡ false) (λ d h. not_lower (key d) at (omega (arith, h))) own equal))
    (filter_none low after (All-weaken (λ d. at < key d) (λ d. low d ≡ false) (λ d h. not_lower (key d) at (omega (arith, h))) after above)) ∙ append-nil before in
    let highs : filter high (before ++ (own ++ after)) ≡ after = filter-append high before (own ++ after) ∙ ap (λ xs. filter high before ++ xs) (filter-append high own after)
    ∙ three _ [] _ [] _ after (filter_none high before (All-weaken (λ d. key d < at) (λ d. high d ≡ false) (λ d h. not_lower at (key d) (omega (arith, h))) before below))
    (filter_none high own (All-weaken (λ d. key d ≡ at) (λ d. high d ≡ false) (λ d h. not_lower at (key d) (omega (arith, h))) own equal))
    (filter_all high after (All-weaken (λ d. at < key d) (λ d. high d ≡ true) (λ d h. lower at (key d) h) after above)) in
    three (filter low (before ++ (own ++ after))) before new new (filter high (before ++ (own ++ after))) after lows refl highs

same_key : (a b : ℕ) → a ≡ b → eqb a b ≡ true
same_key a b h = grind (arith, nat_tests)

low_key : (a b : ℕ) → a < b → eqb a b ≡ false
low_key a b h = grind (arith, nat_tests)

high_key : (a b : ℕ) → b < a → eqb a b ≡ false
high_key a b h = grind (arith, nat_tests)

-- the list where one of the number stands at a place
split_at : {X : Type 0} (key : X → ℕ) (xs : List X) (at place : ℕ) (x : X) → StandsAt key xs at place → xs ≡ take place xs ++ (get_or xs place x ∷ drop (suc place) xs)
split_at key xs at place x stands = sym (set-get_or xs place x) ∙ set_split xs place (get_or xs place x) stands.in_range

at_place : {X : Type 0} (key : X → ℕ) (xs : List X) (at place : ℕ) (new : List X) → AreRising key xs → StandsAt key xs at place → with_own key at new xs ≡ take place xs ++ (new ++ drop (suc place) xs)
at_place key [] at place new rising stands = absurd (omega (arith, stands.in_range))
at_place {X = X} key (first ∷ others) at place new rising stands =
    let xs : List X = first ∷ others in
    let own : X = get_or xs place first in
    ap (with_own key at new) (split_at key xs at place first stands)
    ∙ with_parts key at new (take place xs) (own ∷ []) (drop (suc place) xs) (before_place key xs at place rising stands) (stands.number_is first, tt) (behind_place key xs at place rising stands)

in_gap : {X : Type 0} (key : X → ℕ) (xs : List X) (at place : ℕ) (new : List X) → WouldStandAt key xs at place → with_own key at new xs ≡ take place xs ++ (new ++ drop place xs)
in_gap key xs at place new gap = ap (with_own key at new) (sym (take-append-drop place xs)) ∙ with_parts key at new (take place xs) [] (drop place xs) gap.below tt gap.above

pub replaced : {X : Type 0} (key : X → ℕ) (xs : List X) (x : X) (at place : ℕ) → AreRising key xs → StandsAt key xs at place → set xs place x ≡ with_own key at (x ∷ []) xs
replaced key xs x at place rising stands = set_split xs place x stands.in_range ∙ sym (at_place key xs at place (x ∷ []) rising stands)

pub removed : {X : Type 0} (key : X → ℕ) (xs : List X) (at place : ℕ) → AreRising key xs → StandsAt key xs at place → remove xs place ≡ with_own key at [] xs
removed key xs at place rising stands = sym (at_place key xs at place [] rising stands)

pub put_in : {X : Type 0} (key : X → ℕ) (xs : List X) (x : X) (at place : ℕ) → WouldStandAt key xs at place → insert xs place x ≡ with_own key at (x ∷ []) xs
put_in key xs x at place gap = sym (in_gap key xs at place (x ∷ []) gap)

pub none_there : {X : Type 0} (key : X → ℕ) (xs : List X) (at place : ℕ) → WouldStandAt key xs at place → xs ≡ with_own key at [] xs
none_there key xs at place gap = sym (take-append-drop place xs) ∙ sym (in_gap key xs at place [] gap)

-- ---- a list without those of the number

unequal_low : (a b : ℕ) → a < b → not (eqb a b) ≡ true
unequal_low a b h = grind (arith, nat_tests)

unequal_high : (a b : ℕ) → b < a → not (eqb a b) ≡ true
unequal_high a b h = grind (arith, nat_tests)

equal : (a b : ℕ) → a ≡ b → not (eqb a b) ≡ false
equal a b h = grind (arith, nat_tests)

without_parts : {X : Type 0} (key : X → ℕ) (at : ℕ) (before own after : List X) → AllByRecursion (λ d. key d < at) before → AllByRecursion (λ d. key d ≡ at) own → AllByRecursion (λ d. at < key d) after
    → filter (λ d. not (eqb (key d) at)) (before ++ (own ++ after)) ≡ before ++ ([] ++ after)
without_parts {X = X} key at before own after below equals above =
    let other : X → Bool = λ d. not (eqb (key d) at) in
    filter-append other before (own ++ after) ∙ ap (λ xs. filter other before ++ xs) (filter-append other own after)
    ∙ three _ before _ [] _ after (filter_all other before (All-weaken (λ d. key d < at) (λ d. other d ≡ true) (λ d h. unequal_low (key d) at h) before below))
    (filter_none other own (All-weaken (λ d. key d ≡ at) (λ d. other d ≡ false) (λ d h. equal (key d) at h) own equals))
    (filter_all other after (All-weaken (λ d. at < key d) (λ d. other d ≡ true) (λ d h. unequal_high (key d) at h) after above))

pub without : {X : Type 0} (key : X → ℕ) (xs : List X) (at place : ℕ) → AreRising key xs → StandsAt key xs at place → remove xs place ≡ filter (λ d. not (eqb (key d) at)) xs
without key [] at place rising stands = absurd (omega (arith, stands.in_range))
without {X = X} key (first ∷ others) at place rising stands =
    let xs : List X = first ∷ others in
    let own : X = get_or xs place first in
    sym (ap (filter (λ d. not (eqb (key d) at))) (split_at key xs at place first stands)
    ∙ without_parts key at (take place xs) (own ∷ []) (drop (suc place) xs) (before_place key xs at place rising stands) (stands.number_is first, tt) (behind_place key xs at place rising stands))

-- ---- they still rise

pub rising_filter : {X : Type 0} (key : X → ℕ) (p : X → Bool) (xs : List X) → AreRising key xs → AreRising key (filter p xs)
rising_filter key p [] rising = tt
rising_filter {X = X} key p (d ∷ xs) rising = kept (p d) (All-filter (λ o. key d < key o) p xs rising.0) (rising_filter key p xs rising.1)
  where
    kept : (b : Bool) → AllByRecursion (λ o. key d < key o) (filter p xs) → AreRising key (filter p xs) → AreRising key (cond b (d ∷ filter p xs) (filter p xs))
    kept true above rest = (above, rest)
    kept false above rest = rest

passing : {X : Type 0} (p : X → Bool) (P : X → Type 0) → ((d : X) → p d ≡ true → P d) → (xs : List X) → AllByRecursion P (filter p xs)
passing p P holds [] = tt
passing {X = X} p P holds (d ∷ xs) = kept (p d) refl (passing p P holds xs)
  where
    kept : (b : Bool) → p d ≡ b → AllByRecursion P (filter p xs) → AllByRecursion P (cond b (d ∷ filter p xs) (filter p xs))
    kept true is rest = (holds d is, rest)
    kept false is rest = rest

rising_append : {X : Type 0} (key : X → ℕ) (xs ys : List X) → AreRising key xs → AreRising key ys → AllByRecursion (λ x. AllByRecursion (λ y. key x < key y) ys) xs → AreRising key (xs ++ ys)
rising_append key [] ys h k across = k
rising_append key (x ∷ xs) ys h k across = (each_append (λ y. key x < key y) xs ys h.0 across.0, rising_append key xs ys h.1 k across.1)

is_lower : (a b : ℕ) → ltb a b ≡ true → a < b
is_lower a b h = grind (arith, nat_tests)

-- none, or one of the number
abbrev pub IsOwn : {X : Type 0} → (X → ℕ) → ℕ → List X → Type 0
IsOwn key at [] = Unit {0}
IsOwn key at (x ∷ xs) = (key x ≡ at) × (xs ≡ [])

rising_own : {X : Type 0} (key : X → ℕ) (at : ℕ) (own higher : List X) → IsOwn key at own → AreRising key higher → AllByRecursion (λ d. at < key d) higher
    → AreRising key (own ++ higher) × AllByRecursion (λ d. at ≤ key d) (own ++ higher)
rising_own key at [] higher is rising above = (rising, All-weaken (λ d. at < key d) (λ d. at ≤ key d) (λ d h. omega (arith, h)) higher above)
rising_own key at (x ∷ []) higher is rising above = (
  (All-weaken (λ d. at < key d) (λ d. key x < key d) (λ d h. omega (arith, h, is.0)) higher above, rising),
  (omega (arith, is.0), All-weaken (λ d. at < key d) (λ d. at ≤ key d) (λ d h. omega (arith, h)) higher above),
)
rising_own key at (x ∷ y ∷ own) higher is rising above = absurd (cc)

pub still_rising : {X : Type 0} (key : X → ℕ) (at : ℕ) (own xs : List X) → IsOwn key at own → AreRising key xs → AreRising key (with_own key at own xs)
still_rising {X = X} key at own xs is rising =
    let lows : List X = filter (λ d. ltb (key d) at) xs in
    let highs : List X = filter (λ d. ltb at (key d)) xs in
    let behind = rising_own key at own highs is (rising_filter key (λ d. ltb at (key d)) xs rising) (passing (λ d. ltb at (key d)) (λ d. at < key d) (λ d h. is_lower at (key d) h) xs) in
    rising_append key lows (own ++ highs) (rising_filter key (λ d. ltb (key d) at) xs rising) behind.0
    (All-weaken (λ d. key d < at) (λ d. AllByRecursion (λ o. key d < key o) (own ++ highs))
    (λ d h. All-weaken (λ o. at ≤ key o) (λ o. key d < key o) (λ o k. omega (arith, h, k)) (own ++ highs) behind.1) lows
    (passing (λ d. ltb (key d) at) (λ d. key d < at) (λ d h. is_lower (key d) at h) xs))

-- ---- for default actions

own_default_is : (table : ℕ) (action : Option ActionCall) → IsOwn (λ (d : DefaultAction). d.table) table (as_default table action)
own_default_is table None = tt
own_default_is table (Some action) = (refl, refl)

pub on_ok : {A E X : Type 0} (r : Result A E) (xs ys zs : List X) → OnOk r (xs ≡ ys) → ys ≡ zs → OnOk r (xs ≡ zs)
on_ok (Ok a) xs ys zs h is = h ∙ is
on_ok (Err e) xs ys zs h is = tt

pub rises_by : {T E : Type 0} (r : Result T E) (table : ℕ) (action : Option ActionCall) (old new : List DefaultAction) → AreRising (λ d. d.table) old
    → OnOk r (new ≡ with_default table action old) → OnErr r (new ≡ old) → AreRising (λ d. d.table) new
rises_by (Ok x) table action old new rising made same =
    subst (AreRising (λ d. d.table)) (sym (made ∙ is_default table action old)) (still_rising (λ (d : DefaultAction). d.table) table (as_default table action) old (own_default_is table action) rising)
rises_by (Err e) table action old new rising made same = subst (AreRising (λ d. d.table)) (sym same) rising

-- ---- for digest entries

digests_still_rise : (change : DigestChange) (entries : List DigestEntry) → AreRising (λ d. d.digest_id) entries → AreRising (λ d. d.digest_id) (digests_changed entries change)
digests_still_rise (digest_changes.Insert entry) entries rising = still_rising (λ (d : DigestEntry). d.digest_id) entry.digest_id (entry ∷ []) entries (refl, refl) rising
digests_still_rise (digest_changes.Modify entry) entries rising = still_rising (λ (d : DigestEntry). d.digest_id) entry.digest_id (entry ∷ []) entries (refl, refl) rising
digests_still_rise (digest_changes.Delete digest) entries rising = rising_filter (λ (d : DigestEntry). d.digest_id) (λ d. not (eqb d.digest_id digest)) entries rising

pub digests_rise_by : {T E : Type 0} (r : Result T E) (change : DigestChange) (old new : List DigestEntry) → AreRising (λ d. d.digest_id) old → OnOk r (new ≡ digests_changed old change) → OnErr r (new ≡ old)
    → AreRising (λ d. d.digest_id) new
digests_rise_by (Ok x) change old new rising made same = subst (AreRising (λ d. d.digest_id)) (sym made) (digests_still_rise change old rising)
digests_rise_by (Err e) change old new rising made same = subst (AreRising (λ d. d.digest_id)) (sym same) rising

-- ---- for multicast groups

multicast_still_rise : (change : MulticastChange) (groups : List MulticastGroup) → AreRising (λ g. g.id) groups → AreRising (λ g. g.id) (multicast_changed groups change)
multicast_still_rise (multicast_changes.Insert group) groups rising = still_rising (λ (g : MulticastGroup). g.id) group.id (group ∷ []) groups (refl, refl) rising
multicast_still_rise (multicast_changes.Modify group) groups rising = still_rising (λ (g : MulticastGroup). g.id) group.id (group ∷ []) groups (refl, refl) rising
multicast_still_rise (multicast_changes.Delete id) groups rising = rising_filter (λ (g : MulticastGroup). g.id) (λ g. not (eqb g.id id)) groups rising

pub multicast_rise_by : {T E : Type 0} (r : Result T E) (change : MulticastChange) (old new : List MulticastGroup) → AreRising (λ g. g.id) old → OnOk r (new ≡ multicast_changed old change) → OnErr r (new ≡ old)
    → AreRising (λ g. g.id) new
multicast_rise_by (Ok x) change old new rising made same = subst (AreRising (λ g. g.id)) (sym made) (multicast_still_rise change old rising)
multicast_rise_by (Err e) change old new rising made same = subst (AreRising (λ g. g.id)) (sym same) rising

-- ---- what is found

found_here : {X : Type 0} (key : X → ℕ) (at : ℕ) (before after : List X) (x : X) → AllByRecursion (λ d. key d < at) before → key x ≡ at → find (λ d. eqb (key d) at) (before ++ (x ∷ after)) ≡ Some x
found_here key at [] after x below is = rw (same_key (key x) at is) refl
found_here key at (b ∷ before) after x below is = rw (low_key (key b) at below.0) (found_here key at before after x below.1 is)

pub found_at : {X : Type 0} (key : X → ℕ) (xs : List X) (at place : ℕ) (d : X) → AreRising key xs → StandsAt key xs at place → find (λ x. eqb (key x) at) xs ≡ Some (get_or xs place d)
found_at key xs at place d rising stands =
    ap (find (λ x. eqb (key x) at)) (split_at key xs at place d stands) ∙ found_here key at (take place xs) (drop (suc place) xs) (get_or xs place d) (before_place key xs at place rising stands) (stands.number_is d)

none_in : {X : Type 0} (key : X → ℕ) (at : ℕ) (xs : List X) → AllByRecursion (λ d. eqb (key d) at ≡ false) xs → find (λ d. eqb (key d) at) xs ≡ None
none_in key at [] h = refl
none_in key at (x ∷ xs) h = rw h.0 (none_in key at xs h.1)

pub none_at : {X : Type 0} (key : X → ℕ) (xs : List X) (at place : ℕ) → WouldStandAt key xs at place → find (λ x. eqb (key x) at) xs ≡ None
none_at key xs at place gap =
    ap (find (λ x. eqb (key x) at)) (sym (take-append-drop place xs))
    ∙ none_in key at (take place xs ++ drop place xs) (each_append (λ d. eqb (key d) at ≡ false) (take place xs) (drop place xs)
    (All-weaken (λ d. key d < at) (λ d. eqb (key d) at ≡ false) (λ d h. low_key (key d) at h) (take place xs) gap.below)
    (All-weaken (λ d. at < key d) (λ d. eqb (key d) at ≡ false) (λ d h. high_key (key d) at h) (drop place xs) gap.above))

pub is_there : {X : Type 0} (key : X → ℕ) (xs : List X) (at place : ℕ) → AreRising key xs → StandsAt key xs at place → is_some (find (λ x. eqb (key x) at) xs) ≡ true
is_there key [] at place rising stands = absurd (omega (arith, stands.in_range))
is_there key (x ∷ xs) at place rising stands = ap is_some (found_at key (x ∷ xs) at place x rising stands)
