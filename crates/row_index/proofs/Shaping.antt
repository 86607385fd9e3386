-- Lists of shapes, and a shape in place of another.
use Rattle.std.proofs.Common.{◌≡◌, ◌≢◌, ℕ, zero, suc, ◌+◌, ◌-◌, ◌<◌, ◌≤◌, ◌⊎◌, inl, inr, ◌∙◌, Bool, true, false, cond, eqb, List, [], ◌∷◌, ◌++◌, length, get_or, set, Option, Some, None, refl, sym, ap, subst, arith}
use Rattle.std.specs.Prelude.{slice_get, count_by, int_lt, nat_lt, if◌then◌else◌, ℤ, pos}
use Rattle.std.specs.List.{All, Any, Contains, position}
use Rattle.std.specs.Option.{IsSomeAnd}
use Rattle.std.proofs.lemmas.Bool.{eqb-true}
use Rattle.std.proofs.lemmas.Bool.Decides.{nat_tests}
use Rattle.std.proofs.lemmas.Int.{ints}
use Rattle.std.proofs.lemmas.List.{length-set}
use Rattle.std.proofs.lemmas.List.Elements.{Contains-get_or, All-contains}
use Rattle.std.proofs.lemmas.List.Quantifiers.{position-Some}
use Rattle.std.proofs.lemmas.List.Sums.{sum_by-set, sum_by-cons}
use Rattle.std.proofs.lemmas.Option.{slice_get_within, get_or_from_slice_get, slice_get_past, slice_get-get_or, same_Some}
use Rattle.p4_types.specs.declared.keys.FieldTest.{FieldTest}
use Rattle.p4_types.specs.declared.table.EntryName.{EntryName}
use Rattle.plane_spec.specs.Entries.{prefix_length}
use Rattle.plane_spec.proofs.Names.{together, itself}
use Rattle.row_index.specs.declared.asks.Ask.{Ask}
use Rattle.row_index.specs.declared.cuts.Cut.{Cut}
use Rattle.row_index.specs.declared.cuts.Cut.TheVariants as cuts
use Rattle.row_index.specs.declared.shapes.Shape.{Shape}
use Rattle.row_index.specs.Asks.{Puts, Takes}
use Rattle.row_index.specs.Cuts.{same_cut, same_cuts, cut_of}
use Rattle.row_index.specs.Shapes.{count_in, count_at, rows_of, is_used, AllUsed, ask_of, grown, shrunk, widened, Matches, MatchesAt, Fits, FitsAt, AreAsked, Keeps, Joins, Raises, Leaves, Settles}
use Rattle.row_index.proofs.Among.{among_at, none_found, nowhere}
use Rattle.row_index.proofs.Asking.{AreOrdered}

nat_cases : (a b : ℕ) → (a ≡ b) ⊎ (a ≢ b)
nat_cases a b = grind arith

counted_here : (other place : ℕ) → other ≡ place → ◌≡◌ {A = ℕ} (if eqb other place then 1 else 0) 1
counted_here other place same = subst (λ n. ◌≡◌ {A = ℕ} (if eqb other n then 1 else 0) 1) same (ap (λ b. if b then 1 else 0) (itself other))

not_equal : (a b : ℕ) → a ≢ b → eqb a b ≡ false
not_equal a b differ = grind (arith, nat_tests)

counted_not : (other place : ℕ) → other ≢ place → ◌≡◌ {A = ℕ} (if eqb other place then 1 else 0) 0
counted_not other place differ = ap (λ b. if b then 1 else 0) (not_equal other place differ)

cut_is_same : (a : Cut) → same_cut a a ≡ true
cut_is_same cuts.Nothing = refl
cut_is_same cuts.Whole = refl
cut_is_same (cuts.First a) = itself a
cut_is_same (cuts.Under a) = itself a

pub own_cuts : (xs : List FieldTest) → same_cuts xs xs ≡ true
own_cuts [] = refl
own_cuts (x ∷ xs) = together _ _ (cut_is_same (cut_of x)) (own_cuts xs)

-- bounds that were widened
wide_enough : (b p : ℤ) → int_lt (if int_lt b p then p else b) p ≡ false
wide_enough b p = grind (arith, ints, nat_tests)

still_wide : (b p q : ℤ) → int_lt b p ≡ false → int_lt (if int_lt b q then q else b) p ≡ false
still_wide b p q h = grind (arith, ints, nat_tests)

long_enough : (c l : ℕ) → l ≤ (if nat_lt c l then l else c)
long_enough c l = grind (arith, nat_tests)

still_long : (c l m : ℕ) → l ≤ c → l ≤ (if nat_lt c m then m else c)
still_long c l m h = grind (arith, nat_tests)

fits_widened : (name : EntryName) (shape : Shape) → Matches name shape → Fits name (widened name shape)
fits_widened name shape matches = record {
  table = matches.table;
  cuts = matches.cuts;
  priority = wide_enough shape.priority name.priority;
  prefix = long_enough shape.length (prefix_length name.tests);
}

kept_widened : (other name : EntryName) (shape : Shape) → Fits other shape → Fits other (widened name shape)
kept_widened other name shape fits = record {
  table = fits.table;
  cuts = fits.cuts;
  priority = still_wide shape.priority other.priority name.priority fits.priority;
  prefix = still_long shape.length (prefix_length other.tests) (prefix_length name.tests) fits.prefix;
}

pub kept_grown : (name : EntryName) (shape : Shape) → Fits name shape → Fits name (grown shape)
kept_grown name shape fits = record { table = fits.table; cuts = fits.cuts; priority = fits.priority; prefix = fits.prefix }

kept_shrunk : (name : EntryName) (shape : Shape) → Fits name shape → Fits name (shrunk shape)
kept_shrunk name shape fits = record { table = fits.table; cuts = fits.cuts; priority = fits.priority; prefix = fits.prefix }

-- what is read at a place in range
pub there : (shapes : List Shape) (place : ℕ) (shape : Shape) → place < length shapes → shape ≡ get_or shapes place shape → slice_get shapes place ≡ Some shape
there [] place shape lt e = absurd (omega (arith, lt))
there (x ∷ shapes) zero shape lt e = ap Some (sym e)
there (x ∷ shapes) (suc place) shape lt e = there shapes place shape (omega (arith, lt)) e

get_same : (shapes : List Shape) (place : ℕ) (shape : Shape) → place < length shapes → slice_get (set shapes place shape) place ≡ Some shape
get_same [] place shape lt = absurd (omega (arith, lt))
get_same (x ∷ shapes) zero shape lt = refl
get_same (x ∷ shapes) (suc place) shape lt = get_same shapes place shape (omega (arith, lt))

get_other : (shapes : List Shape) (place other : ℕ) (shape : Shape) → other ≢ place → slice_get (set shapes place shape) other ≡ slice_get shapes other
get_other [] place other shape ne = refl
get_other (x ∷ shapes) zero zero shape ne = absurd (ne refl)
get_other (x ∷ shapes) zero (suc other) shape ne = refl
get_other (x ∷ shapes) (suc place) zero shape ne = refl
get_other (x ∷ shapes) (suc place) (suc other) shape ne = get_other shapes place other shape (λ e. ne (ap suc e))

get_push : (shapes : List Shape) (shape : Shape) → slice_get (shapes ++ shape ∷ []) (length shapes) ≡ Some shape
get_push [] shape = refl
get_push (x ∷ shapes) shape = get_push shapes shape

get_push_other : (shapes : List Shape) (shape : Shape) (other : ℕ) → other ≢ length shapes → slice_get (shapes ++ shape ∷ []) other ≡ slice_get shapes other
get_push_other [] shape zero ne = absurd (ne refl)
get_push_other [] shape (suc other) ne = refl
get_push_other (x ∷ shapes) shape zero ne = refl
get_push_other (x ∷ shapes) shape (suc other) ne = get_push_other shapes shape other (λ e. ne (ap suc e))

at_some : (o : Option Shape) (P : Shape → Type 0) (shape : Shape) → o ≡ Some shape → IsSomeAnd o P → P shape
at_some o P shape e h = rw e at h

to_some : (o : Option Shape) (P : Shape → Type 0) (shape : Shape) → o ≡ Some shape → P shape → IsSomeAnd o P
to_some o P shape e h = rw e h

some_there : (o : Option Shape) (P : Shape → Type 0) → IsSomeAnd o P → (shape : Shape) × (o ≡ Some shape)
some_there None P h = absurd h
some_there (Some shape) P h = (shape, refl)

count_there : (shapes : List Shape) (place : ℕ) (shape : Shape) → slice_get shapes place ≡ Some shape → count_at shapes place ≡ shape.count
count_there shapes place shape e = ap count_in e

-- a shape in place of another
module _ (shapes : List Shape) (place : ℕ) (was now : Shape) (at : slice_get shapes place ≡ Some was) where
  in_range : place < length shapes
  in_range = slice_get_within shapes place was at

  count_same : count_at (set shapes place now) place ≡ now.count
  count_same = count_there (set shapes place now) place now (get_same shapes place now in_range)

  count_other : (other : ℕ) → other ≢ place → count_at (set shapes place now) other ≡ count_at shapes other
  count_other other ne = ap count_in (get_other shapes place other now ne)

  rows_set : rows_of (set shapes place now) + was.count ≡ rows_of shapes + now.count
  rows_set =
      let changed = sum_by-set (λ (shape : Shape). shape.count) shapes place now was in_range in
      let read = ap (λ (shape : Shape). shape.count) (get_or_from_slice_get shapes place was was at) in
      omega (arith, changed, read)

  used_set : count_by is_used (set shapes place now) + cond (is_used was) 1 0 ≡ count_by is_used shapes + cond (is_used now) 1 0
  used_set =
      let changed = sum_by-set (λ (shape : Shape). cond (is_used shape) 1 0) shapes place now was in_range in
      let read = ap {B = ℕ} (λ (shape : Shape). cond (is_used shape) 1 0) (get_or_from_slice_get shapes place was was at) in
      omega (arith, changed, read)

  -- where each row that can have the old shape can have the new one, each row keeps its shape
  keeps_set : ((name : EntryName) → Fits name was → Fits name now) → (other : ℕ) → Keeps (slice_get shapes other) (slice_get (set shapes place now) other)
  keeps_set kept other name had = elim (nat_cases other place) [
    | inl same ↦
        let before : IsSomeAnd (slice_get shapes place) (Fits name) = subst (λ n. IsSomeAnd (slice_get shapes n) (Fits name)) same had in
        let after : IsSomeAnd (slice_get (set shapes place now) place) (Fits name) = to_some _ (Fits name) now (get_same shapes place now in_range) (kept name (at_some _ (Fits name) was at before)) in
        subst (λ n. IsSomeAnd (slice_get (set shapes place now) n) (Fits name)) (sym same) after
    | inr ne ↦ subst (λ (o : Option Shape). IsSomeAnd o (Fits name)) (sym (get_other shapes place other now ne)) had
  ]

  -- what stands at a place of the new list
  stands : (other : ℕ) (shape : Shape) → slice_get (set shapes place now) other ≡ Some shape → ((other ≡ place) × (shape ≡ now)) ⊎ ((other ≢ place) × (slice_get shapes other ≡ Some shape))
  stands other shape e = elim (nat_cases other place) [
    | inl same ↦ inl (same, same_Some shape now (sym (subst (λ n. slice_get (set shapes place now) n ≡ Some shape) same e) ∙ get_same shapes place now in_range))
    | inr ne ↦ inr (ne, sym (get_other shapes place other now ne) ∙ e)
  ]

ask_any : (asks : List Ask) (ask : Ask) (shape : ℕ) → ask.shape ≡ shape → Contains asks ask → Any (λ (ask : Ask). ask.shape ≡ shape) asks
ask_any asks ask shape is has = (has.0, ask, has.1, has.2, is)

-- a used shape has an ask
pub ask_there : (shapes : List Shape) (asks : List Ask) (place : ℕ) (shape : Shape) → AreAsked shapes asks → slice_get shapes place ≡ Some shape → 0 < shape.count → Any (λ (ask : Ask). ask.shape ≡ place) asks
ask_there shapes asks place shape asked at used = ask_any asks (ask_of place shape) place refl (asked.asked place shape at used)

all_from : (P : Ask → Type 0) (asks : List Ask) → ((ask : Ask) → Contains asks ask → P ask) → All P asks
all_from P asks each k d lt = each (get_or asks k d) (Contains-get_or asks k d lt)

within_puts : (old new : List Ask) (ask : Ask) (low high : ℕ) → Puts old new ask → low ≤ high → ask.shape < high → All (λ (ask : Ask). ask.shape < low) old → All (λ (ask : Ask). ask.shape < high) new
within_puts old new ask low high puts le lt all = all_from (λ (ask : Ask). ask.shape < high) new (λ other has. elim (puts.only other has) [
  | inl same ↦ subst (λ (a : Ask). a.shape < high) (sym same) lt
  | inr before ↦ let below : other.shape < low = All-contains (λ (ask : Ask). ask.shape < low) old other all before in omega (arith, below, le)
])

within_takes : (old new : List Ask) (shape high : ℕ) → Takes old new shape → All (λ (ask : Ask). ask.shape < high) old → All (λ (ask : Ask). ask.shape < high) new
within_takes old new shape high takes all = all_from (λ (ask : Ask). ask.shape < high) new (λ other has. All-contains (λ (ask : Ask). ask.shape < high) old other all (takes.only other has))

one_used : (shape : Shape) → 0 < shape.count → ◌≡◌ {A = ℕ} (cond (is_used shape) 1 0) 1
one_used shape lt = ap (λ b. cond b 1 0) (used shape.count lt)
  where
    used : (n : ℕ) → 0 < n → nat_lt 0 n ≡ true
    used n lt = grind (arith, nat_tests)

none_used : (shape : Shape) → shape.count ≡ 0 → ◌≡◌ {A = ℕ} (cond (is_used shape) 1 0) 0
none_used shape e = ap (λ (n : ℕ). cond (nat_lt 0 n) 1 0) e

absurd_zero : {A : Type 0} (n : ℕ) → n ≡ 0 → 0 < n → A
absurd_zero n e lt = absurd (omega (arith, e, lt))

-- the bounds of a shape are widened, and it is asked in its new place
module _ (shapes : List Shape) (asks less more : List Ask) (place : ℕ) (name : EntryName) (was : Shape) (at : slice_get shapes place ≡ Some was) (asked : AreAsked shapes asks) (matches : Matches name was) where
  pub raised : Raises shapes (set shapes place (widened name was)) place name
  raised =
      let now = widened name was in
      record {
        fits = to_some (slice_get (set shapes place now) place) (Fits name) now (get_same shapes place now (in_range shapes place was now at)) (fits_widened name was matches);
        kept = keeps_set shapes place was now at (λ other fits. kept_widened other name was fits);
        counts = λ other. elim (nat_cases other place) [
          | inl same ↦ subst (λ n. count_at (set shapes place now) n ≡ count_at shapes n) (sym same) (count_same shapes place was now at ∙ sym (count_there shapes place was at))
          | inr ne ↦ count_other shapes place was now at other ne
        ];
        rows = let rows = rows_set shapes place was now at in omega (arith, rows);
        len = length-set shapes place now;
      }

  pub raised_asked : Takes asks less place → Puts less more (ask_of place (widened name was)) → AreOrdered more → AreAsked (set shapes place (widened name was)) more
  raised_asked takes puts order =
      let now = widened name was in
      let size = length-set shapes place now in
      let used = used_set shapes place was now at in
      record {
        order = order;
        within = within_puts less more (ask_of place now) (length shapes) (length (set shapes place now)) puts (omega (arith, size)) (let lt = in_range shapes place was now at in omega (arith, size, lt)) (within_takes asks less place (length shapes) takes asked.within);
        asked = λ other shape e used. elim (stands shapes place was now at other shape e) [
          | inl here ↦ subst (λ (s : Shape). Contains more (ask_of other s)) (sym here.1) (subst (λ n. Contains more (ask_of n now)) (sym here.0) puts.has)
          | inr there ↦ puts.kept (ask_of other shape) (takes.kept (ask_of other shape) (asked.asked other shape there.1 used) there.0)
        ];
        each = let taken = takes.len in let put = puts.len in let before = asked.each in omega (arith, taken, put, before, used);
      }

same_raised : (shapes : List Shape) (place : ℕ) (name : EntryName) → FitsAt shapes place name → Raises shapes shapes place name
same_raised shapes place name fits = record { fits = fits; kept = λ other n had. had; counts = λ other. refl; rows = refl; len = refl }

-- a shape whose bounds include the row already
pub within_raised : (shapes : List Shape) (place : ℕ) (name : EntryName) (was : Shape) → slice_get shapes place ≡ Some was → Matches name was → int_lt was.priority name.priority ≡ false → prefix_length name.tests ≤ was.length → Raises shapes shapes place name
within_raised shapes place name was at matches priority prefix =
    same_raised shapes place name (to_some (slice_get shapes place) (Fits name) was at (record { table = matches.table; cuts = matches.cuts; priority = priority; prefix = prefix }))

-- a row more has a shape whose bounds include it
module _ (old shapes : List Shape) (asks : List Ask) (place : ℕ) (name : EntryName) (was : Shape) (at : slice_get shapes place ≡ Some was) (raises : Raises old shapes place name) (used : 0 < was.count) (asked : AreAsked shapes asks) where
  pub grown_joins : Joins old (set shapes place (grown was)) place name
  grown_joins =
      let now = grown was in
      let size = length-set shapes place now in
      let kept = keeps_set shapes place was now at (λ n fits. kept_grown n was fits) in
      record {
        fits = kept place name raises.fits;
        kept = λ other some n had. kept other n (raises.kept other n had);
        counts = λ other. elim (nat_cases other place) [
          | inl same ↦
              let one = counted_here other place same in
              let here = subst (λ n. count_at (set shapes place now) n ≡ was.count + 1) (sym same) (count_same shapes place was now at) in
              let before = subst (λ n. count_at shapes n ≡ was.count) (sym same) (count_there shapes place was at) in
              let first = raises.counts other in
              omega (arith, one, here, before, first)
          | inr ne ↦
              let none = counted_not other place ne in
              let here = count_other shapes place was now at other ne in
              let first = raises.counts other in
              omega (arith, none, here, first)
        ];
        rows = let rows = rows_set shapes place was now at in let first = raises.rows in omega (arith, rows, first);
        len = inl (size ∙ raises.len);
      }

  pub grown_asked : AreAsked (set shapes place (grown was)) asks
  grown_asked =
      let now = grown was in
      let size = length-set shapes place now in
      let weights = used_set shapes place was now at in
      let one = one_used was used in
      let still = one_used now (omega arith) in
      record {
        order = asked.order;
        within = subst (λ n. All (λ (ask : Ask). ask.shape < n) asks) (sym size) asked.within;
        asked = λ other shape e some. elim (stands shapes place was now at other shape e) [
          | inl here ↦ subst (λ (s : Shape). Contains asks (ask_of other s)) (sym here.1) (subst (λ n. Contains asks (ask_of n was)) (sym here.0) (asked.asked place was at used))
          | inr there ↦ asked.asked other shape there.1 some
        ];
        each = let before = asked.each in omega (arith, before, weights, one, still);
      }

-- a row less has a shape
module _ (shapes : List Shape) (asks : List Ask) (place : ℕ) (was : Shape) (at : slice_get shapes place ≡ Some was) (used : 0 < was.count) (asked : AreAsked shapes asks) where
  pub shrunk_leaves : Leaves shapes (set shapes place (shrunk was)) place
  shrunk_leaves =
      let now = shrunk was in
      record {
        kept = keeps_set shapes place was now at (λ n fits. kept_shrunk n was fits);
        counts = λ other. elim (nat_cases other place) [
          | inl same ↦
              let one = counted_here other place same in
              let here = subst (λ n. count_at (set shapes place now) n ≡ was.count - 1) (sym same) (count_same shapes place was now at) in
              let before = subst (λ n. count_at shapes n ≡ was.count) (sym same) (count_there shapes place was at) in
              omega (arith, one, here, before, used)
          | inr ne ↦
              let none = counted_not other place ne in
              let here = count_other shapes place was now at other ne in
              omega (arith, none, here)
        ];
        rows = let rows = rows_set shapes place was now at in omega (arith, rows, used);
        len = length-set shapes place now;
      }

  pub shrunk_asked : 0 < was.count - 1 → AreAsked (set shapes place (shrunk was)) asks
  shrunk_asked more =
      let now = shrunk was in
      let size = length-set shapes place now in
      let weights = used_set shapes place was now at in
      let one = one_used was used in
      let still = one_used now more in
      record {
        order = asked.order;
        within = subst (λ n. All (λ (ask : Ask). ask.shape < n) asks) (sym size) asked.within;
        asked = λ other shape e some. elim (stands shapes place was now at other shape e) [
          | inl here ↦ subst (λ (s : Shape). Contains asks (ask_of other s)) (sym here.1) (subst (λ n. Contains asks (ask_of n was)) (sym here.0) (asked.asked place was at used))
          | inr there ↦ asked.asked other shape there.1 some
        ];
        each = let before = asked.each in omega (arith, before, weights, one, still);
      }

  pub closed_asked : (less : List Ask) → was.count - 1 ≡ 0 → Takes asks less place → AreOrdered less → AreAsked (set shapes place (shrunk was)) less
  closed_asked less gone takes order =
      let now = shrunk was in
      let size = length-set shapes place now in
      let weights = used_set shapes place was now at in
      let one = one_used was used in
      let none = none_used now gone in
      record {
        order = order;
        within = within_takes asks less place (length (set shapes place now)) takes (subst (λ n. All (λ (ask : Ask). ask.shape < n) asks) (sym size) asked.within);
        asked = λ other shape e some. elim (stands shapes place was now at other shape e) [
          | inl here ↦ absurd_zero shape.count (ap (λ (s : Shape). s.count) here.1 ∙ gone) some
          | inr there ↦ takes.kept (ask_of other shape) (asked.asked other shape there.1 some) there.0
        ];
        each = let before = asked.each in let taken = takes.len in omega (arith, before, weights, one, none, taken);
      }

-- a shape in place of one that no row has, or behind all
pub settles_set : (shapes : List Shape) (place : ℕ) (was shape : Shape) → slice_get shapes place ≡ Some was → count_at shapes place ≡ 0 → Settles shapes (set shapes place shape) place shape
settles_set shapes place was shape at free =
    let none : was.count ≡ 0 = sym (count_there shapes place was at) ∙ free in
    let rows = rows_set shapes place was shape at in
    let weights = used_set shapes place was shape at in
    let unused = none_used was none in
    record {
      here = get_same shapes place shape (in_range shapes place was shape at);
      free = free;
      others = λ other ne. get_other shapes place other shape ne;
      rows = omega (arith, rows, none);
      used = omega (arith, weights, unused);
      len = inl (length-set shapes place shape);
    }

pub settles_at : (shapes : List Shape) (place : ℕ) (shape : Shape) → place < length shapes → count_at shapes place ≡ 0 → Settles shapes (set shapes place shape) place shape
settles_at shapes place shape lt free = settles_set shapes place (get_or shapes place shape) shape (slice_get-get_or shapes place shape lt) free

rows_push : (shapes : List Shape) (shape : Shape) → rows_of (shapes ++ shape ∷ []) ≡ rows_of shapes + shape.count
rows_push [] shape = let own = sum_by-cons (λ (s : Shape). s.count) shape [] in omega (arith, own)
rows_push (x ∷ shapes) shape =
    let before = sum_by-cons (λ (s : Shape). s.count) x shapes in
    let after = sum_by-cons (λ (s : Shape). s.count) x (shapes ++ shape ∷ []) in
    let rest = rows_push shapes shape in
    omega (arith, before, after, rest)

used_push : (shapes : List Shape) (shape : Shape) → count_by is_used (shapes ++ shape ∷ []) ≡ count_by is_used shapes + cond (is_used shape) 1 0
used_push [] shape = let own = sum_by-cons (λ (s : Shape). cond (is_used s) 1 0) shape [] in omega (arith, own)
used_push (x ∷ shapes) shape =
    let before = sum_by-cons (λ (s : Shape). cond (is_used s) 1 0) x shapes in
    let after = sum_by-cons (λ (s : Shape). cond (is_used s) 1 0) x (shapes ++ shape ∷ []) in
    let rest = used_push shapes shape in
    omega (arith, before, after, rest)

length_push : (shapes : List Shape) (shape : Shape) → length (shapes ++ shape ∷ []) ≡ length shapes + 1
length_push [] shape = refl
length_push (x ∷ shapes) shape = let rest = length_push shapes shape in omega (arith, rest)

pub settles_push : (shapes : List Shape) (place : ℕ) (shape : Shape) → place ≡ length shapes → AllUsed shapes → Settles shapes (shapes ++ shape ∷ []) place shape
settles_push shapes place shape is all = record {
  here = subst (λ n. slice_get (shapes ++ shape ∷ []) n ≡ Some shape) (sym is) (get_push shapes shape);
  free = ap count_in (slice_get_past shapes place (omega (arith, is)));
  others = λ other ne. get_push_other shapes shape other (λ e. ne (e ∙ sym is));
  rows = rows_push shapes shape;
  used = used_push shapes shape;
  len = inr (all, length_push shapes shape);
}

not_free : (shapes : List Shape) (place other : ℕ) → count_at shapes place ≡ 0 → 0 < count_at shapes other → other ≢ place
not_free shapes place other free some same = let none = subst (λ n. count_at shapes n ≡ 0) (sym same) free in omega (arith, none, some)

longer : (old new : List Shape) → (length new ≡ length old) ⊎ (AllUsed old × (length new ≡ length old + 1)) → length old ≤ length new
longer old new (inl same) = omega (arith, same)
longer old new (inr more) = let grown = more.1 in omega (arith, grown)

-- a shape is opened for a row
module _ (old new : List Shape) (asks more : List Ask) (place : ℕ) (shape : Shape) (name : EntryName) (settles : Settles old new place shape) (fits : Fits name shape) (one : shape.count ≡ 1) where
  pub opened_joins : Joins old new place name
  opened_joins = record {
    fits = to_some (slice_get new place) (Fits name) shape settles.here fits;
    kept = λ other some n had. subst (λ (o : Option Shape). IsSomeAnd o (Fits n)) (sym (settles.others other (not_free old place other settles.free some))) had;
    counts = λ other. elim (nat_cases other place) [
      | inl same ↦
          let own = counted_here other place same in
          let here = subst (λ n. count_at new n ≡ shape.count) (sym same) (count_there new place shape settles.here) in
          let before = subst (λ n. count_at old n ≡ 0) (sym same) settles.free in
          omega (arith, own, here, before, one)
      | inr ne ↦
          let none = counted_not other place ne in
          let here = ap count_in (settles.others other ne) in
          omega (arith, none, here)
    ];
    rows = let rows = settles.rows in omega (arith, rows, one);
    len = settles.len;
  }

  pub opened_asked : AreAsked old asks → Puts asks more (ask_of place shape) → AreOrdered more → AreAsked new more
  opened_asked asked puts order =
      let lt = slice_get_within new place shape settles.here in
      let least = longer old new settles.len in
      let own = one_used shape (omega (arith, one)) in
      record {
        order = order;
        within = within_puts asks more (ask_of place shape) (length old) (length new) puts least lt asked.within;
        asked = λ other found e some. elim (nat_cases other place) [
          | inl same ↦
              let is : found ≡ shape = same_Some found shape (sym (subst (λ n. slice_get new n ≡ Some found) same e) ∙ settles.here) in
              subst (λ (s : Shape). Contains more (ask_of other s)) (sym is) (subst (λ n. Contains more (ask_of n shape)) (sym same) puts.has)
          | inr ne ↦ puts.kept (ask_of other found) (asked.asked other found (sym (settles.others other ne) ∙ e) some)
        ];
        each = let before = asked.each in let put = puts.len in let used = settles.used in omega (arith, before, put, used, own);
      }

weight_at_most : (b : Bool) → cond b 1 0 ≤ 1
weight_at_most true = omega arith
weight_at_most false = omega arith

used_at_most : (shapes : List Shape) → count_by is_used shapes ≤ length shapes
used_at_most [] = omega arith
used_at_most (x ∷ shapes) =
    let sum = sum_by-cons (λ (s : Shape). cond (is_used s) 1 0) x shapes in
    let one = weight_at_most (is_used x) in
    let rest = used_at_most shapes in
    omega (arith, sum, one, rest)

used_count : (n : ℕ) → 1 ≤ cond (nat_lt 0 n) 1 0 → 0 < n
used_count zero e = absurd (omega (arith, e))
used_count (suc n) e = omega arith

each_used : (shapes : List Shape) → length shapes ≤ count_by is_used shapes → AllUsed shapes
each_used [] le place lt = absurd (omega (arith, lt))
each_used (x ∷ shapes) le zero lt =
    let sum = sum_by-cons (λ (s : Shape). cond (is_used s) 1 0) x shapes in
    let rest = used_at_most shapes in
    used_count x.count (omega (arith, sum, rest, le))
each_used (x ∷ shapes) le (suc place) lt =
    let sum = sum_by-cons (λ (s : Shape). cond (is_used s) 1 0) x shapes in
    let one = weight_at_most (is_used x) in
    each_used shapes (omega (arith, sum, one, le)) place (omega (arith, lt))

-- where there are as many asks as shapes each shape has a row
pub all_asked : (shapes : List Shape) (asks : List Ask) → AreAsked shapes asks → length asks ≡ length shapes → AllUsed shapes
all_asked shapes asks asked same = each_used shapes (let each = asked.each in omega (arith, each, same))

not_below : (p : ℤ) → int_lt p p ≡ false
not_below p = grind (arith, ints, nat_tests)

-- a row fits the shape that is opened for it
pub own_fits : (name : EntryName) (count : ℕ) → Fits name (record { table = name.table; tests = name.tests; count = count; priority = name.priority; length = prefix_length name.tests })
own_fits name count = record { table = refl; cuts = own_cuts name.tests; priority = not_below name.priority; prefix = omega arith }

-- a shape that matches stands there
pub matches_within : (shapes : List Shape) (place : ℕ) (name : EntryName) → MatchesAt shapes place name → place < length shapes
matches_within shapes place name matches = let found = some_there (slice_get shapes place) (Matches name) matches in slice_get_within shapes place found.0 found.1

pub count_within : (shapes : List Shape) (place : ℕ) → 0 < count_at shapes place → place < length shapes
count_within [] place lt = absurd (omega (arith, lt))
count_within (x ∷ shapes) zero lt = omega arith
count_within (x ∷ shapes) (suc place) lt = let rest = count_within shapes place lt in omega (arith, rest)

pub count_is : (shapes : List Shape) (place : ℕ) (shape : Shape) → slice_get shapes place ≡ Some shape → count_at shapes place ≡ shape.count
count_is shapes place shape at = count_there shapes place shape at

pub matches_used : (shapes : List Shape) (place : ℕ) (name : EntryName) → MatchesAt shapes place name → 0 < count_at shapes place
matches_used shapes place name matches = some_used (slice_get shapes place) matches
  where
    some_used : (o : Option Shape) → IsSomeAnd o (Matches name) → 0 < count_in o
    some_used None h = absurd h
    some_used (Some shape) h = h.used

pub left_over : (b : Bool) (n : ℕ) → (n ≡ 0 → b ≡ true) → b ≡ false → 0 < n
left_over b zero empty h = let t : b ≡ true = empty refl in absurd (let c : ⊥ = cc in c)
left_over b (suc n) empty h = omega arith

-- a shape that no row has
unused_one : Shape
unused_one = record { table = 0; tests = []; count = 0; priority = pos 0; length = 0 }

count_read : (shapes : List Shape) (place : ℕ) (d : Shape) → place < length shapes → count_at shapes place ≡ (get_or shapes place d).count
count_read [] place d lt = absurd (omega (arith, lt))
count_read (x ∷ shapes) zero d lt = refl
count_read (x ∷ shapes) (suc place) d lt = count_read shapes place d (omega (arith, lt))

-- a place that was found is that of a shape that no row has
pub unused_there : (shapes : List Shape) (place : ℕ) → position (λ (shape : Shape). eqb shape.count 0) shapes ≡ Some place → (place < length shapes) × (count_at shapes place ≡ 0)
unused_there shapes place found =
    let first = position-Some (λ (shape : Shape). eqb shape.count 0) shapes place unused_one found in
    (first.0, count_read shapes place unused_one first.0 ∙ eqb-true (get_or shapes place unused_one).count 0 first.1)

positive : (n : ℕ) → eqb n 0 ≡ false → 0 < n
positive n h = grind (arith, nat_tests)

-- where none was found each shape has a row
pub none_unused : (shapes : List Shape) → position (λ (shape : Shape). eqb shape.count 0) shapes ≡ None → AllUsed shapes
none_unused shapes none place lt =
    let count = count_read shapes place unused_one lt in
    let used = positive (get_or shapes place unused_one).count (none_found (λ (shape : Shape). eqb shape.count 0) shapes (get_or shapes place unused_one) (nowhere (λ (shape : Shape). eqb shape.count 0) shapes none) (among_at shapes place unused_one lt)) in
    omega (arith, count, used)
