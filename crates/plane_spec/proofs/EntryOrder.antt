-- Changes of the entries keep them in order.
use Rattle.std.proofs.Common.{◌≡◌, ℕ, ◌<◌, ◌≤◌, ◌⊎◌, inl, inr, ℤ, Bool, true, false, cond, not, ◌&&◌, eqb, ltb, leb, List, [], ◌∷◌, ◌++◌, Option, Some, refl, sym, ◌∙◌, arith, get_or, le_refl, lt_of_le_of_lt}
use Rattle.std.specs.Ordering.{int_eq}
use Rattle.std.specs.List.{All, AllPairs, filter, find}
use Rattle.std.specs.Prelude.{is_some}
use Rattle.std.proofs.lemmas.Bool.{leb-true, ltb-true, cases_lt}
use Rattle.std.proofs.lemmas.Bool.Decides.{nat_tests, Decides-int_eq, same_from_decides}
use Rattle.std.proofs.lemmas.List.Elements.{All-nil, All-cons, All-head, All-tail, All-append, All-filter, All-map, All-weaker, filter_passes}
use Rattle.std.proofs.lemmas.List.Kept.{AllPairs-cons}
use Rattle.p4_types.specs.declared.keys.FieldTest.{FieldTest}
use Rattle.p4_types.specs.declared.keys.FieldTest.TheVariants as tests
use Rattle.p4_types.specs.declared.table.Entry.{Entry}
use Rattle.p4_types.specs.declared.table.EntryChange.{EntryChange}
use Rattle.p4_types.specs.declared.table.EntryName.{EntryName}
use Rattle.plane_spec.specs.Entries.{same_test, same_tests, same_name, entry_named, inserted, modified, deleted, with_change}
use Rattle.plane_spec.specs.Order.{StandsBefore}

eqb-flip : (a b : ℕ) → eqb a b ≡ eqb b a
eqb-flip a b = grind (arith, nat_tests)

int_eq-flip : (a b : ℤ) → int_eq a b ≡ int_eq b a
int_eq-flip a b = let there = Decides-int_eq a b in let back = Decides-int_eq b a in same_from_decides (int_eq a b) (int_eq b a) there (λ e. sym (back.0 e), λ e. back.1 (sym e))

both_flip : (a b c d : Bool) → a ≡ b → c ≡ d → (a && c) ≡ (b && d)
both_flip a b c d e f = cc

test-flip : (a b : FieldTest) → same_test a b ≡ same_test b a
test-flip tests.Any tests.Any = refl
test-flip (tests.Equal a) (tests.Equal b) = eqb-flip a b
test-flip (tests.Prefix a l w) (tests.Prefix b m v) = both_flip _ _ _ _ (both_flip _ _ _ _ (eqb-flip a b) (eqb-flip l m)) (eqb-flip w v)
test-flip (tests.Masked a m) (tests.Masked b n) = both_flip _ _ _ _ (eqb-flip a b) (eqb-flip m n)
test-flip (tests.Between a m) (tests.Between b n) = both_flip _ _ _ _ (eqb-flip a b) (eqb-flip m n)
test-flip a b = refl

tests-flip : (a b : List FieldTest) → same_tests a b ≡ same_tests b a
tests-flip [] [] = refl
tests-flip [] (b ∷ bs) = refl
tests-flip (a ∷ others) [] = refl
tests-flip (a ∷ others) (b ∷ bs) = both_flip _ _ _ _ (test-flip a b) (tests-flip others bs)

-- each of two names is the same as the other, or neither is
pub name-flip : (a b : EntryName) → same_name a b ≡ same_name b a
name-flip a b = both_flip _ _ _ _ (both_flip _ _ _ _ (eqb-flip a.table b.table) (int_eq-flip a.priority b.priority)) (tests-flip a.tests b.tests)

-- names of different tables differ
elsewhere : (a b : EntryName) → a.table < b.table → same_name a b ≡ false
elsewhere a b less = let differ : eqb a.table b.table ≡ false = grind (arith, nat_tests) in rw differ refl

-- each stands before those behind it, by recursion
abbrev pub Stand : List Entry → Type 0
Stand [] = Unit {0}
Stand (e ∷ entries) = All (StandsBefore e) entries × Stand entries

pub in_order : (entries : List Entry) → Stand entries → AllPairs StandsBefore entries
in_order [] h = λ i j d before in_range. absurd (omega arith)
in_order (e ∷ entries) h = AllPairs-cons StandsBefore e entries h.0 (in_order entries h.1)

stand_append : (a b : List Entry) → Stand a → Stand b → All (λ e. All (StandsBefore e) b) a → Stand (a ++ b)
stand_append [] b h k across = k
stand_append (e ∷ a) b h k across = (
  All-append (StandsBefore e) a b h.0 (All-head (λ x. All (StandsBefore x) b) e a across),
  stand_append a b h.1 k (All-tail (λ x. All (StandsBefore x) b) e a across),
)

stand_kept : (b : Bool) (e : Entry) (entries : List Entry) → All (StandsBefore e) entries → Stand entries → Stand (cond b (e ∷ entries) entries)
stand_kept true e entries first rest = (first, rest)
stand_kept false e entries first rest = rest

stand_filter : (p : Entry → Bool) (entries : List Entry) → Stand entries → Stand (filter p entries)
stand_filter p [] h = tt
stand_filter p (e ∷ entries) h = stand_kept (p e) e (filter p entries) (All-filter p (StandsBefore e) entries h.0) (stand_filter p entries h.1)

pub stand_deleted : (name : EntryName) (entries : List Entry) → Stand entries → Stand (deleted name entries)
unfolding deleted
stand_deleted name entries h = stand_filter (λ entry. not (same_name name entry.name)) entries h

-- A MODIFY keeps name and number.
both_changed : (change : EntryChange) (p q : Bool) (a b : Entry) → StandsBefore a b → StandsBefore (cond p (with_change change a) a) (cond q (with_change change b) b)
both_changed change true true a b h = h
both_changed change true false a b h = h
both_changed change false true a b h = h
both_changed change false false a b h = h

pub stand_modified : (change : EntryChange) (entries : List Entry) → Stand entries → Stand (modified change entries)
unfolding modified
stand_modified change [] h = tt
stand_modified change (e ∷ entries) h =
    let now : Entry → Entry = λ x. cond (same_name change.name x.name) (with_change change x) x in (
      All-map (StandsBefore (now e)) now entries
          (All-weaker (StandsBefore e) (λ x. StandsBefore (now e) (now x)) (λ x before. both_changed change (same_name change.name e.name) (same_name change.name x.name) e x before) entries h.0),
      stand_modified change entries h.1,
    )

-- the entry of a lower table, or of the lower number in the same one, comes first
first_of : (x y : Entry) → x.name.table ≤ y.name.table → x.seq < y.seq → (x.name.table < y.name.table) ⊎ (y.name.table ≤ x.name.table) → (x.name.table < y.name.table) ⊎ ((x.name.table ≡ y.name.table) × (x.seq < y.seq))
first_of x y le less (inl lower) = inl lower
first_of x y le less (inr same) = inr (omega arith, less)

-- an entry of no higher table stands before a new one
before_new : (x e : Entry) → leb x.name.table e.name.table ≡ true → x.seq < e.seq → same_name e.name x.name ≡ false → StandsBefore x e
before_new x e within less other = (first_of x e (leb-true x.name.table e.name.table within) less (cases_lt x.name.table e.name.table), name-flip x.name e.name ∙ other)

before_higher : (x y : Entry) → x.name.table < y.name.table → StandsBefore x y
before_higher x y less = (inl less, elsewhere x.name y.name less)

-- A new entry with the highest number and a name that is not there stands behind those of its table.
pub stand_inserted : (e : Entry) (entries : List Entry) → Stand entries → All (λ x. x.seq < e.seq) entries → All (λ x. same_name e.name x.name ≡ false) entries → Stand (inserted e entries)
unfolding inserted
stand_inserted e entries h numbers names =
    let is_low : Entry → Bool = λ x. leb x.name.table e.name.table in
    let is_high : Entry → Bool = λ x. ltb e.name.table x.name.table in
    let low : List Entry = filter is_low entries in
    let high : List Entry = filter is_high entries in
    let above : All (λ x. is_high x ≡ true) high = filter_passes is_high entries in
    let within : All (λ x. is_low x ≡ true) low = filter_passes is_low entries in
    let less : All (λ x. x.seq < e.seq) low = All-filter is_low (λ x. x.seq < e.seq) entries numbers in
    let other : All (λ x. same_name e.name x.name ≡ false) low = All-filter is_low (λ x. same_name e.name x.name ≡ false) entries names in
    let behind : (x : Entry) → x.name.table ≤ e.name.table → All (StandsBefore x) high = λ x le.
    All-weaker (λ y. is_high y ≡ true) (StandsBefore x) (λ y high. before_higher x y (lt_of_le_of_lt le (ltb-true e.name.table y.name.table high))) high above in
    stand_append low (e ∷ high) (stand_filter is_low entries h) (behind e (le_refl e.name.table), stand_filter is_high entries h)
    (λ i d in_range.
    let x : Entry = get_or low i d in
    All-cons (StandsBefore x) e high (before_new x e (within i d in_range) (less i d in_range) (other i d in_range)) (behind x (leb-true x.name.table e.name.table (within i d in_range))))

not_found_here : (b : Bool) (x : Entry) (o : Option Entry) → is_some (cond b (Some x) o) ≡ false → (b ≡ false) × (is_some o ≡ false)
not_found_here true x o h = absurd (cc)
not_found_here false x o h = (refl, h)

none_found : (p : Entry → Bool) (entries : List Entry) → is_some (find p entries) ≡ false → All (λ x. p x ≡ false) entries
none_found p [] h = All-nil (λ x. p x ≡ false)
none_found p (e ∷ entries) h =
    let here = not_found_here (p e) e (find p entries) h in All-cons (λ x. p x ≡ false) e entries here.0 (none_found p entries here.1)

-- where no entry bears a name, the names of all differ from it
pub none_named : (name : EntryName) (entries : List Entry) → is_some (entry_named name entries) ≡ false → All (λ x. same_name name x.name ≡ false) entries
unfolding entry_named
none_named name entries h = none_found (λ x. same_name name x.name) entries h
