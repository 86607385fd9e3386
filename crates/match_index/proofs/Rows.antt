-- What an edit of shapes makes of their rows.
use Rattle.std.proofs.Common.{◌≡◌, ◌≢◌, ℕ, zero, suc, ◌+◌, ◌<◌, ◌⊎◌, inl, inr, ◌∙◌, Bool, true, false, ◌||◌, not, eqb, cond, List, [], ◌∷◌, ◌++◌, length, get_or, set, Option, Some, None, Result, Ok, Err, OnErr, refl, sym, ap, subst, arith}
use Rattle.std.specs.Prelude.{filter}
use Rattle.std.specs.List.{find, remove, position, position_or_len}
use Rattle.std.specs.Option.{option_or}
use Rattle.std.proofs.lemmas.List.{get_or_default, get_or-set_same, get_or-set_other}
use Rattle.std.proofs.lemmas.Bool.Decides.{nat_tests}
use Rattle.std.proofs.lemmas.List.Folds.{find-append, find-set, find_at, list_any-append}
use Rattle.std.proofs.lemmas.Option.{slice_get_past}
use Rattle.std.proofs.lemmas.List.Quantifiers.{position-Some}
use Rattle.p4_types.specs.declared.keys.FieldTest.{FieldTest}
use Rattle.plane_spec.proofs.Names.{itself}
use Rattle.match_index.specs.declared.cuts.Cut.{Cut}
use Rattle.match_index.specs.declared.shapes.Shape.{Shape}
use Rattle.match_index.specs.Bins.{at, Adds, Loses, AreSame, AreEmpty}
use Rattle.match_index.specs.Cuts.{has_cuts, name_print}
use Rattle.match_index.specs.Shapes.{shape_of, numbers_in, has_number, has_row, IsOnlyRow, AddsRow, AreClear, IsGone, KeepsOthers, AreSameRows, IsEmptyAt}
use Rattle.match_index.proofs.Among.{or_right, find_set, find_remove}
use Rattle.match_index.proofs.Fingerprints.{cuts_fit}
use Rattle.match_index.proofs.Ordered.{equal}

or_false : (b : Bool) → (b || false) ≡ b
or_false true = refl
or_false false = refl

not_equal : (a b : ℕ) → a ≢ b → eqb a b ≡ false
not_equal a b differ = grind (arith, nat_tests)

place_is : {X : Type 0} (p : X → Bool) (xs : List X) (place : ℕ) → position p xs ≡ Some place → place ≡ position_or_len p xs
place_is p xs place at_place = grind (arith, nat_tests)

pub no_place : {X : Type 0} (p : X → Bool) (xs : List X) → position p xs ≡ None → find p xs ≡ None
no_place p xs none = find_at p xs ∙ slice_get_past xs (position_or_len p xs) (grind (arith, nat_tests))

-- at each fingerprint the bins have the number alike
abbrev Alike : Shape → Shape → ℕ → Type 0
Alike old new seq = (print : ℕ) → has_number seq (at new.bins print) ≡ has_number seq (at old.bins print)

added_by : (b : Bool) (other seq : ℕ) (numbers : List ℕ) → other ≢ seq → has_number other (cond b (numbers ++ seq ∷ []) numbers) ≡ has_number other numbers
added_by false other seq numbers differ = refl
added_by true other seq numbers differ = list_any-append (λ (x : ℕ). eqb x other) numbers (seq ∷ []) ∙ ap (λ (b : Bool). has_number other numbers || (b || false)) (not_equal seq other (λ same. differ (sym same))) ∙ or_false (has_number other numbers)

lost_here : (other seq x : ℕ) (numbers less : List ℕ) → other ≢ seq → has_number other less ≡ has_number other numbers → (b : Bool) → eqb x seq ≡ b → has_number other (cond (not b) (x ∷ less) less) ≡ has_number other (x ∷ numbers)
lost_here other seq x numbers less differ rest true h =
    let e : eqb x other ≡ false = not_equal x other (λ same. differ (sym same ∙ equal x seq h)) in
    rest ∙ sym (ap (λ (b : Bool). b || has_number other numbers) e)
lost_here other seq x numbers less differ rest false h = ap (λ (b : Bool). eqb x other || b) rest

lost_from : (other seq : ℕ) (numbers : List ℕ) → other ≢ seq → has_number other (filter (λ x. not (eqb x seq)) numbers) ≡ has_number other numbers
lost_from other seq [] differ = refl
lost_from other seq (x ∷ numbers) differ = lost_here other seq x numbers (filter (λ y. not (eqb y seq)) numbers) differ (lost_from other seq numbers differ) (eqb x seq) refl

lost_by : (b : Bool) (other seq : ℕ) (numbers : List ℕ) → other ≢ seq → has_number other (cond b (filter (λ x. not (eqb x seq)) numbers) numbers) ≡ has_number other numbers
lost_by true other seq numbers differ = lost_from other seq numbers differ
lost_by false other seq numbers differ = refl

adds_alike : (old new : Shape) (print seq other : ℕ) → Adds old.bins new.bins print seq → other ≢ seq → Alike old new other
adds_alike old new print seq other adds differ = λ q. ap (λ (ns : List ℕ). has_number other ns) (adds q) ∙ added_by (eqb print q) other seq (at old.bins q) differ

loses_alike : (old new : Shape) (print seq other : ℕ) → Loses old.bins new.bins print seq → other ≢ seq → Alike old new other
loses_alike old new print seq other loses differ = λ q. ap (λ (ns : List ℕ). has_number other ns) (loses q) ∙ lost_by (eqb print q) other seq (at old.bins q) differ

either_row : (seq : ℕ) (tests : List FieldTest) (old new : Option Shape) (x y : Shape) → Alike x y seq → (new ≡ old) ⊎ ((old ≡ Some x) × (new ≡ Some y)) → has_number seq (numbers_in new tests) ≡ has_number seq (numbers_in old tests)
either_row seq tests old new x y alike (inl same) = ap (λ (found : Option Shape). has_number seq (numbers_in found tests)) same
either_row seq tests old new x y alike (inr (was, is)) =
    ap (λ (found : Option Shape). has_number seq (numbers_in found tests)) is ∙ alike (name_print tests) ∙ sym (ap (λ (found : Option Shape). has_number seq (numbers_in found tests)) was)

-- a shape in place of another of the same cuts, with alike bins, has its rows
pub set_rows : (shapes : List Shape) (place : ℕ) (x y : Shape) (seq : ℕ) → place < length shapes → get_or shapes place x ≡ x → y.cuts.items ≡ x.cuts.items → Alike x y seq → (tests : List FieldTest) → has_row (set shapes place y) tests seq ≡ has_row shapes tests seq
set_rows shapes place x y seq in_range here cuts alike tests =
    either_row seq tests (shape_of shapes tests) (shape_of (set shapes place y) tests) x y alike
    (find_set (λ (shape : Shape). has_cuts shape.cuts.items tests) shapes place x y in_range here (ap (λ (cs : List Cut). has_cuts cs tests) cuts))

pub same_rows : (shapes : List Shape) (place : ℕ) (x y : Shape) (tests : List FieldTest) → position (λ shape. has_cuts shape.cuts.items tests) shapes ≡ Some place → x ≡ get_or shapes place x → y.cuts.items ≡ x.cuts.items → AreSame x.bins y.bins → AreSameRows shapes (set shapes place y)
same_rows shapes place x y tests at_place read cuts same =
    let first = position-Some (λ (shape : Shape). has_cuts shape.cuts.items tests) shapes place x at_place in
    λ others seq. set_rows shapes place x y seq first.0 (sym read) cuts (λ print. ap (λ (ns : List ℕ). has_number seq ns) (same print)) others

pub still_rows : (old new : List Shape) → new ≡ old → AreSameRows old new
still_rows old new same = λ tests seq. ap (λ (shapes : List Shape). has_row shapes tests seq) same

hit : (print other : ℕ) → print ≡ other → eqb print other ≡ true
hit print other is = subst (λ (n : ℕ). eqb print n ≡ true) is (itself print)

number_here : (print other seq : ℕ) (numbers : List ℕ) → print ≡ other → has_number seq (cond (eqb print other) (numbers ++ seq ∷ []) numbers) ≡ true
number_here print other seq numbers is =
    ap (λ (b : Bool). has_number seq (cond b (numbers ++ seq ∷ []) numbers)) (hit print other is)
    ∙ list_any-append (λ (x : ℕ). eqb x seq) numbers (seq ∷ [])
    ∙ or_right (has_number seq numbers) (has_number seq (seq ∷ [])) (ap (λ (b : Bool). b || false) (itself seq))

-- the first shape of the tests' cuts is the new one
first_set : (shapes : List Shape) (place : ℕ) (x y : Shape) (tests : List FieldTest) → position (λ shape. has_cuts shape.cuts.items tests) shapes ≡ Some place → get_or shapes place x ≡ x → y.cuts.items ≡ x.cuts.items → shape_of (set shapes place y) tests ≡ Some y
first_set shapes place x y tests at_place here cuts =
    let first = position-Some (λ (shape : Shape). has_cuts shape.cuts.items tests) shapes place x at_place in
    let fits : has_cuts y.cuts.items tests ≡ true = ap (λ (cs : List Cut). has_cuts cs tests) cuts ∙ subst (λ (s : Shape). has_cuts s.cuts.items tests ≡ true) here first.1 in
    find-set (λ (shape : Shape). has_cuts shape.cuts.items tests) shapes place y (place_is (λ (shape : Shape). has_cuts shape.cuts.items tests) shapes place at_place) first.0 fits

more_by : (b : Bool) (other seq : ℕ) (numbers : List ℕ) → has_number other numbers ≡ true → has_number other (cond b (numbers ++ seq ∷ []) numbers) ≡ true
more_by false other seq numbers has = has
more_by true other seq numbers has = list_any-append (λ (x : ℕ). eqb x other) numbers (seq ∷ []) ∙ ap (λ (b : Bool). b || has_number other (seq ∷ [])) has

either_kept : (seq : ℕ) (tests : List FieldTest) (old new : Option Shape) (x y : Shape) → ((print : ℕ) → has_number seq (at x.bins print) ≡ true → has_number seq (at y.bins print) ≡ true) → (new ≡ old) ⊎ ((old ≡ Some x) × (new ≡ Some y))
    → has_number seq (numbers_in old tests) ≡ true → has_number seq (numbers_in new tests) ≡ true
either_kept seq tests old new x y more (inl same) has = ap (λ (found : Option Shape). has_number seq (numbers_in found tests)) same ∙ has
either_kept seq tests old new x y more (inr (was, is)) has =
    ap (λ (found : Option Shape). has_number seq (numbers_in found tests)) is ∙ more (name_print tests) (sym (ap (λ (found : Option Shape). has_number seq (numbers_in found tests)) was) ∙ has)

pub added_row : (shapes : List Shape) (place : ℕ) (x y : Shape) (tests : List FieldTest) (seq : ℕ) → position (λ shape. has_cuts shape.cuts.items tests) shapes ≡ Some place → x ≡ get_or shapes place x → y.cuts.items ≡ x.cuts.items
    → (print : ℕ) → print ≡ name_print tests → Adds x.bins y.bins print seq → AddsRow shapes (set shapes place y) tests seq
added_row shapes place x y tests seq at_place read cuts print is adds =
    let first = position-Some (λ (shape : Shape). has_cuts shape.cuts.items tests) shapes place x at_place in
    record {
      here = ap (λ (f : Option Shape). has_number seq (numbers_in f tests)) (first_set shapes place x y tests at_place (sym read) cuts)
          ∙ ap (λ (ns : List ℕ). has_number seq ns) (adds (name_print tests))
          ∙ number_here print (name_print tests) seq (at x.bins (name_print tests)) is;
      others = λ others other differ. set_rows shapes place x y other first.0 (sym read) cuts (adds_alike x y print seq other adds differ) others;
      kept = λ others other has. either_kept other others (shape_of shapes others) (shape_of (set shapes place y) others) x y
          (λ q had. ap (λ (ns : List ℕ). has_number other ns) (adds q) ∙ more_by (eqb print q) other seq (at x.bins q) had)
          (find_set (λ (shape : Shape). has_cuts shape.cuts.items others) shapes place x y first.0 (sym read) (ap (λ (cs : List Cut). has_cuts cs others) cuts)) has;
    }

option_row : (other : ℕ) (others : List FieldTest) (found : Option Shape) (y : Shape) (b : Bool) → ((print : ℕ) → has_number other (at y.bins print) ≡ false)
    → has_number other (numbers_in (option_or found (cond b (Some y) None)) others) ≡ has_number other (numbers_in found others)
option_row other others (Some x) y b none = refl
option_row other others None y true none = none (name_print others)
option_row other others None y false none = refl

kept_push : (other : ℕ) (others : List FieldTest) (found more : Option Shape) → has_number other (numbers_in found others) ≡ true → has_number other (numbers_in (option_or found more) others) ≡ true
kept_push other others (Some x) more has = has
kept_push other others None more has = cc

only_number : (b : Bool) (seq other : ℕ) → other ≢ seq → has_number other (cond b (seq ∷ []) []) ≡ false
only_number true seq other differ = ap (λ (b : Bool). b || false) (not_equal seq other (λ same. differ (sym same)))
only_number false seq other differ = refl

pub pushed_row : (shapes : List Shape) (y : Shape) (tests : List FieldTest) (seq : ℕ) → position (λ shape. has_cuts shape.cuts.items tests) shapes ≡ None → IsOnlyRow tests seq y → AddsRow shapes (shapes ++ y ∷ []) tests seq
pushed_row shapes y tests seq none only =
    let missed : shape_of shapes tests ≡ None = no_place (λ (shape : Shape). has_cuts shape.cuts.items tests) shapes none in
    let fits : has_cuts y.cuts.items tests ≡ true = subst (λ (cs : List Cut). has_cuts cs tests ≡ true) (sym only.cuts) (cuts_fit tests) in
    let found : shape_of (shapes ++ y ∷ []) tests ≡ Some y = find-append (λ (shape : Shape). has_cuts shape.cuts.items tests) shapes (y ∷ []) ∙ ap (λ (f : Option Shape). option_or f (cond (has_cuts y.cuts.items tests) (Some y) None)) missed ∙ ap (λ (b : Bool). cond b (Some y) None) fits in
    record {
      here = ap (λ (f : Option Shape). has_number seq (numbers_in f tests)) found ∙ ap (λ (ns : List ℕ). has_number seq ns) (only.row (name_print tests))
          ∙ ap (λ (b : Bool). has_number seq (cond b (seq ∷ []) [])) (itself (name_print tests)) ∙ ap (λ (b : Bool). b || false) (itself seq);
      others = λ others other differ.
          ap (λ (f : Option Shape). has_number other (numbers_in f others)) (find-append (λ (shape : Shape). has_cuts shape.cuts.items others) shapes (y ∷ []))
          ∙ option_row other others (shape_of shapes others) y (has_cuts y.cuts.items others) (λ print. ap (λ (ns : List ℕ). has_number other ns) (only.row print) ∙ only_number (eqb (name_print tests) print) seq other differ);
      kept = λ others other has.
          ap (λ (f : Option Shape). has_number other (numbers_in f others)) (find-append (λ (shape : Shape). has_cuts shape.cuts.items others) shapes (y ∷ []))
          ∙ kept_push other others (shape_of shapes others) (cond (has_cuts y.cuts.items others) (Some y) None) has;
    }

empty_has : (seq : ℕ) (tests : List FieldTest) (old new : Option Shape) (y : Shape) → AreEmpty y.bins → (new ≡ old) ⊎ (old ≡ Some y) → has_number seq (numbers_in old tests) ≡ true → has_number seq (numbers_in new tests) ≡ true
empty_has seq tests old new y empty (inl same) has = subst (λ (f : Option Shape). has_number seq (numbers_in f tests) ≡ true) (sym same) has
empty_has seq tests old new y empty (inr was) has =
    let none : has_number seq (numbers_in old tests) ≡ false = ap (λ (f : Option Shape). has_number seq (numbers_in f tests)) was ∙ ap (λ (ns : List ℕ). has_number seq ns) (empty (name_print tests)) in
    cc

-- a shape with no numbers is no loss
pub removed_rows : (shapes : List Shape) (place : ℕ) → IsEmptyAt shapes place → (tests : List FieldTest) (seq : ℕ) → has_row shapes tests seq ≡ true → has_row (remove shapes place) tests seq ≡ true
removed_rows [] place empty tests seq has = absurd (omega (arith, empty.in_range))
removed_rows (s ∷ shapes) place empty tests seq has =
    let y : Shape = get_or (s ∷ shapes) place s in
    empty_has seq tests (shape_of (s ∷ shapes) tests) (shape_of (remove (s ∷ shapes) place) tests) y (empty.empty s)
    (find_remove (λ (shape : Shape). has_cuts shape.cuts.items tests) (s ∷ shapes) place y empty.in_range (get_or_default (s ∷ shapes) place y s empty.in_range)) has

gone_here : (seq x : ℕ) (less : List ℕ) (b : Bool) → eqb x seq ≡ b → has_number seq less ≡ false → has_number seq (cond (not b) (x ∷ less) less) ≡ false
gone_here seq x less true h rest = rest
gone_here seq x less false h rest = ap (λ (b : Bool). b || has_number seq less) h ∙ rest

gone_from : (seq : ℕ) (numbers : List ℕ) → has_number seq (filter (λ x. not (eqb x seq)) numbers) ≡ false
gone_from seq [] = refl
gone_from seq (x ∷ numbers) = gone_here seq x (filter (λ y. not (eqb y seq)) numbers) (eqb x seq) refl (gone_from seq numbers)

pub lost_alike : (shapes : List Shape) (place : ℕ) (x y : Shape) (print seq : ℕ) → place < length shapes → x ≡ get_or shapes place x → y.cuts.items ≡ x.cuts.items → Loses x.bins y.bins print seq → KeepsOthers shapes (set shapes place y) seq
lost_alike shapes place x y print seq in_range read cuts loses = λ others other differ has. set_rows shapes place x y other in_range (sym read) cuts (loses_alike x y print seq other loses differ) others ∙ has

pub lost_at : (x y : Shape) (print seq : ℕ) → Loses x.bins y.bins print seq → has_number seq (at y.bins print) ≡ false
lost_at x y print seq loses =
    ap (λ (ns : List ℕ). has_number seq ns) (loses print)
    ∙ ap (λ (b : Bool). has_number seq (cond b (filter (λ z. not (eqb z seq)) (at x.bins print)) (at x.bins print))) (itself print)
    ∙ gone_from seq (at x.bins print)

-- one shape more is clear
clear_at : (shapes : List Shape) (place i : ℕ) (y d : Shape) (print seq : ℕ) → place < length shapes → AreClear print seq place shapes → has_number seq (at y.bins print) ≡ false → i < place + 1 → (b : Bool) → eqb i place ≡ b
    → has_number seq (at (get_or (set shapes place y) i d).bins print) ≡ false
clear_at shapes place i y d print seq in_range clear here lt true same =
    subst (λ (n : ℕ). has_number seq (at (get_or (set shapes place y) n d).bins print) ≡ false) (sym (equal i place same))
    (subst (λ (s : Shape). has_number seq (at s.bins print) ≡ false) (sym (get_or-set_same shapes place y d in_range)) here)
clear_at shapes place i y d print seq in_range clear here lt false other =
    subst (λ (s : Shape). has_number seq (at s.bins print) ≡ false) (sym (get_or-set_other shapes place i y d (λ same. let e : eqb i place ≡ true = subst (λ (n : ℕ). eqb i n ≡ true) same (itself i) in cc)))
    (clear i d (grind (arith, nat_tests)))

pub clear_set : (shapes : List Shape) (place : ℕ) (y : Shape) (print seq : ℕ) → place < length shapes → AreClear print seq place shapes → has_number seq (at y.bins print) ≡ false → AreClear print seq (place + 1) (set shapes place y)
clear_set shapes place y print seq in_range clear here = λ i d lt. clear_at shapes place i y d print seq in_range clear here lt (eqb i place) refl

-- where all shapes are clear there is no such row
clear_head : (seq : ℕ) (tests : List FieldTest) (s : Shape) (found : Option Shape) (b : Bool) → has_number seq (at s.bins (name_print tests)) ≡ false → has_number seq (numbers_in found tests) ≡ false → has_number seq (numbers_in (cond b (Some s) found) tests) ≡ false
clear_head seq tests s found true here rest = here
clear_head seq tests s found false here rest = rest

pub clear_gone : (shapes : List Shape) (print seq : ℕ) → AreClear print seq (length shapes) shapes → IsGone shapes print seq
clear_gone [] print seq clear = λ tests is. refl
clear_gone (s ∷ shapes) print seq clear = λ tests is.
    clear_head seq tests s (shape_of shapes tests) (has_cuts s.cuts.items tests) (ap (λ (n : ℕ). has_number seq (at s.bins n)) is ∙ clear 0 s (omega arith))
    (clear_gone shapes print seq (λ place d lt. clear (suc place) d (omega (arith, lt))) tests is)

clear_behind : (s : Shape) (shapes : List Shape) (print seq : ℕ) → has_number seq (at s.bins print) ≡ false → AreClear print seq (length shapes) shapes → AreClear print seq (length (s ∷ shapes)) (s ∷ shapes)
clear_behind s shapes print seq here rest zero d less = here
clear_behind s shapes print seq here rest (suc i) d less = rest i d (omega (arith, less))

-- fewer shapes are clear too
pub clear_removed : (shapes : List Shape) (place print seq : ℕ) → place < length shapes → AreClear print seq (length shapes) shapes → AreClear print seq (length (remove shapes place)) (remove shapes place)
clear_removed [] place print seq lt clear = absurd (omega (arith, lt))
clear_removed (s ∷ shapes) zero print seq lt clear = λ i d less. clear (suc i) d (omega (arith, less))
clear_removed (s ∷ shapes) (suc place) print seq lt clear =
    let rest = clear_removed shapes place print seq (omega (arith, lt)) (λ i d less. clear (suc i) d (omega (arith, less))) in
    λ i. clear_behind s (remove shapes place) print seq (clear 0 s (omega arith)) rest i

pub on_err : {T E : Type 0} (r : Result T E) (P : Type 0) → P → OnErr r P
on_err (Ok x) P h = tt
on_err (Err e) P h = h
