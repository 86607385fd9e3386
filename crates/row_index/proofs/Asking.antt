-- Asks in order.
use Rattle.std.proofs.Common.{◌≡◌, ◌≢◌, ℕ, zero, suc, ◌+◌, ◌-◌, ◌<◌, ◌≤◌, ℤ, ◌⊎◌, inl, inr, ◌∙◌, Bool, true, false, List, [], ◌∷◌, length, get_or, eqb, Some, None, refl, sym, ap, subst, arith}
use Rattle.std.specs.Prelude.{nat_lt, int_lt, if◌then◌else◌, pos}
use Rattle.std.specs.List.{AllPairs, Any, Contains, insert, remove, position}
use lib.Signed.{◌<ℤ◌}
use Rattle.std.proofs.lemmas.Bool.{eqb-true}
use Rattle.std.proofs.lemmas.List.Quantifiers.{position-Some, all_pairs_remove}
use Rattle.plane_spec.proofs.Names.{itself}
use Rattle.std.proofs.lemmas.Bool.Decides.{nat_tests}
use Rattle.std.proofs.lemmas.Int.{ints}
use Rattle.std.proofs.lemmas.List.Edits.{length-insert, get_or-insert_below, get_or-insert_at, get_or-insert_above, length-remove}
use Rattle.std.proofs.lemmas.List.Elements.{Contains-append_cases, Contains-append_right}
use Rattle.std.proofs.lemmas.List.Sorted.{IsPermutation-insert, IsPermutation-remove, IsPermutation-sym, Contains-permutation}
use Rattle.row_index.specs.declared.asks.Ask.{Ask}
use Rattle.row_index.specs.Asks.{is_before, Puts, Takes, IsAround}
use Rattle.row_index.proofs.Among.{among, none_found, nowhere}

-- `is_before` on what it compares: tables, priorities, lengths of prefixes
abbrev first : ℕ → ℕ → ℤ → ℤ → ℕ → ℕ → Bool
first t u p q l m = if nat_lt t u then true else if nat_lt u t then false else if int_lt q p then true else if int_lt p q then false else nat_lt m l

-- the first ask comes no earlier
abbrev Later : ℕ → ℕ → ℤ → ℤ → ℕ → ℕ → Type 0
Later t u p q l m = (u < t) ⊎ ((t ≡ u) × ((p <ℤ q) ⊎ ((p ≡ q) × (l ≤ m))))

later : (t u : ℕ) (p q : ℤ) (l m : ℕ) → first t u p q l m ≡ false → Later t u p q l m
later t u p q l m h = grind (arith, ints, nat_tests)

not_first : (t u : ℕ) (p q : ℤ) (l m : ℕ) → Later t u p q l m → first t u p q l m ≡ false
not_first t u p q l m (inl less) = grind (arith, ints, nat_tests)
not_first t u p q l m (inr (same, inl less)) = grind (arith, ints, nat_tests)
not_first t u p q l m (inr (same, inr (equal, shorter))) = grind (arith, ints, nat_tests)

chained : (t u v : ℕ) (p q r : ℤ) (l m n : ℕ) → Later t u p q l m → Later u v q r m n → Later t v p r l n
chained t u v p q r l m n (inl a) (inl b) = inl (omega arith)
chained t u v p q r l m n (inl a) (inr (b, c)) = inl (omega arith)
chained t u v p q r l m n (inr (a, c)) (inl b) = inl (omega arith)
chained t u v p q r l m n (inr (a, inl c)) (inr (b, inl d)) = inr (a ∙ b, inl (omega (arith, ints)))
chained t u v p q r l m n (inr (a, inl c)) (inr (b, inr (d, e))) = inr (a ∙ b, inl (omega (arith, ints)))
chained t u v p q r l m n (inr (a, inr (c, f))) (inr (b, inl d)) = inr (a ∙ b, inl (omega (arith, ints)))
chained t u v p q r l m n (inr (a, inr (c, f))) (inr (b, inr (d, e))) = inr (a ∙ b, inr (c ∙ d, omega arith))

first_one_way : (t u : ℕ) (p q : ℤ) (l m : ℕ) → first t u p q l m ≡ true → first u t q p m l ≡ false
first_one_way t u p q l m h = grind (arith, ints, nat_tests)

first_itself : (t : ℕ) (p : ℤ) (l : ℕ) → first t t p p l l ≡ false
first_itself t p l = grind (arith, ints, nat_tests)

before_chain : (a b c : Ask) → is_before a b ≡ false → is_before b c ≡ false → is_before a c ≡ false
before_chain a b c h k =
    not_first a.table c.table a.priority c.priority a.length c.length
    (chained a.table b.table c.table a.priority b.priority c.priority a.length b.length c.length (later a.table b.table a.priority b.priority a.length b.length h) (later b.table c.table b.priority c.priority b.length c.length k))

before_one_way : (a b : Ask) → is_before a b ≡ true → is_before b a ≡ false
before_one_way a b h = first_one_way a.table b.table a.priority b.priority a.length b.length h

-- the asks are in order
abbrev pub AreOrdered : List Ask → Type 0
AreOrdered asks = AllPairs (λ a b. is_before b a ≡ false) asks

same_or_below : (i j : ℕ) → i ≤ j → (i ≡ j) ⊎ (i < j)
same_or_below i j le = grind arith

pub no_later : (asks : List Ask) (i j : ℕ) (d : Ask) → AreOrdered asks → i ≤ j → j < length asks → is_before (get_or asks j d) (get_or asks i d) ≡ false
no_later asks i j d order le lt = elim (same_or_below i j le) [
  | inl same ↦
      let a : Ask = get_or asks j d in
      subst (λ k. is_before a (get_or asks k d) ≡ false) (sym same) (first_itself a.table a.priority a.length)
  | inr below ↦ order i j d below lt
]

rises : (t u : ℕ) (p q : ℤ) (l m : ℕ) → Later t u p q l m → u ≤ t
rises t u p q l m (inl less) = omega arith
rises t u p q l m (inr (same, rest)) = omega arith

-- tables rise
pub tables_rise : (asks : List Ask) (i j : ℕ) (d : Ask) → AreOrdered asks → i ≤ j → j < length asks → (get_or asks i d).table ≤ (get_or asks j d).table
tables_rise asks i j d order le lt =
    let a : Ask = get_or asks i d in
    let b : Ask = get_or asks j d in
    rises b.table a.table b.priority a.priority b.length a.length (later b.table a.table b.priority a.priority b.length a.length (no_later asks i j d order le lt))

get_or_same : (asks : List Ask) (i : ℕ) (d e : Ask) → i < length asks → get_or asks i d ≡ get_or asks i e
get_or_same [] i d e lt = absurd (omega arith)
get_or_same (x ∷ xs) zero d e lt = refl
get_or_same (x ∷ xs) (suc i) d e lt = get_or_same xs i d e (omega arith)

-- what stands from an ask on that the new one precedes, the new one precedes
pub all_behind : (asks : List Ask) (ask d e : Ask) (place k : ℕ) → AreOrdered asks → is_before ask (get_or asks place e) ≡ true → place ≤ k → k < length asks → is_before (get_or asks k d) ask ≡ false
all_behind asks ask d e place k order h le lt =
    let here : is_before ask (get_or asks place d) ≡ true = subst (λ (a : Ask). is_before ask a ≡ true) (get_or_same asks place e d (omega (arith, le, lt))) h in
    before_chain (get_or asks k d) (get_or asks place d) ask (no_later asks place k d order le lt) (before_one_way ask (get_or asks place d) here)

-- one ask more that the new one does not precede
pub none_behind : (asks : List Ask) (ask e : Ask) (place : ℕ) → place < length asks → ((k : ℕ) (d : Ask) → k < place → is_before ask (get_or asks k d) ≡ false) → is_before ask (get_or asks place e) ≡ false
    → (k : ℕ) (d : Ask) → k < place + 1 → is_before ask (get_or asks k d) ≡ false
none_behind asks ask e place in_range below h k d lt = elim (same_or_below k place (omega (arith, lt))) [
  | inl same ↦ subst (λ n. is_before ask (get_or asks n d) ≡ false) (sym same) (subst (λ (a : Ask). is_before ask a ≡ false) (get_or_same asks place e d in_range) h)
  | inr low ↦ below k d low
]

-- a search by halves
pub around_right : (asks : List Ask) (table low high middle : ℕ) (d : Ask) → AreOrdered asks → IsAround asks table low high → middle < high → (get_or asks middle d).table < table → IsAround asks table (middle + 1) high
around_right asks table low high middle d order around lt less = record {
  ordered = omega (arith, lt);
  within = around.within;
  below = λ k e before.
      let same = get_or_same asks middle d e (omega (arith, lt, around.within)) in
      let least : (get_or asks middle e).table < table = subst (λ (a : Ask). a.table < table) same less in
      let up = tables_rise asks k middle e order (omega (arith, before)) (omega (arith, lt, around.within)) in
      omega (arith, least, up);
  above = around.above;
}

pub around_left : (asks : List Ask) (table low high middle : ℕ) (d : Ask) → AreOrdered asks → IsAround asks table low high → low ≤ middle → middle < high → table ≤ (get_or asks middle d).table → IsAround asks table low middle
around_left asks table low high middle d order around le lt least = record {
  ordered = le;
  within = omega (arith, lt, around.within);
  below = around.below;
  above = λ k e after in_range.
      let same = get_or_same asks middle d e (omega (arith, lt, around.within)) in
      let here : table ≤ (get_or asks middle e).table = subst (λ (a : Ask). table ≤ a.table) same least in
      let up = tables_rise asks middle k e order after in_range in
      omega (arith, here, up);
}

cases : (a b : ℕ) → (a < b) ⊎ ((a ≡ b) ⊎ (b < a))
cases a b = grind arith

module _ (asks : List Ask) (place : ℕ) (ask : Ask) (in_range : place ≤ length asks) where
  at_below : (k : ℕ) (d : Ask) → k < place → get_or (insert asks place ask) k d ≡ get_or asks k d
  at_below k d lt = get_or-insert_below asks place ask d k lt in_range

  at_here : (k : ℕ) (d : Ask) → k ≡ place → get_or (insert asks place ask) k d ≡ ask
  at_here k d same = subst (λ n. get_or (insert asks place ask) n d ≡ ask) (sym same) (get_or-insert_at asks place ask d in_range)

  at_above : (k : ℕ) (d : Ask) → place < k → get_or (insert asks place ask) k d ≡ get_or asks (k - 1) d
  at_above k d lt =
      let same : k - 1 + 1 ≡ k = omega (arith, lt) in
      subst (λ n. get_or (insert asks place ask) n d ≡ get_or asks (k - 1) d) same (get_or-insert_above asks place ask d (k - 1) (omega (arith, lt)) in_range)

  -- an ask is put between those that are not behind it and those that are not before it
  pub ordered_insert : AreOrdered asks → ((k : ℕ) (d : Ask) → k < place → is_before ask (get_or asks k d) ≡ false) → ((k : ℕ) (d : Ask) → place ≤ k → k < length asks → is_before (get_or asks k d) ask ≡ false) → AreOrdered (insert asks place ask)
  ordered_insert order below above i j d lt within =
      let len = length-insert asks place ask in_range in
      elim (cases j place) [
        | inl low ↦ rw (at_below j d low, at_below i d (omega (arith, lt, low))) (order i j d lt (omega (arith, low, in_range)))
        | inr (inl here) ↦ rw (at_here j d here, at_below i d (omega (arith, lt, here))) (below i d (omega (arith, lt, here)))
        | inr (inr high) ↦ elim (cases i place) [
          | inl low ↦ rw (at_above j d high, at_below i d low) (order i (j - 1) d (omega (arith, low, high)) (omega (arith, within, len, high)))
          | inr (inl here) ↦ rw (at_above j d high, at_here i d here) (above (j - 1) d (omega (arith, high)) (omega (arith, within, len, high)))
          | inr (inr up) ↦ rw (at_above j d high, at_above i d up) (order (i - 1) (j - 1) d (omega (arith, lt, up)) (omega (arith, within, len, high)))
        ]
      ]

one_alone : (x other : Ask) (k : ℕ) → k < 1 → get_or (x ∷ []) k other ≡ other → other ≡ x
one_alone x other zero lt e = sym e
one_alone x other (suc k) lt e = absurd (omega (arith, lt))

first_or_rest : (x other : Ask) (rest : List Ask) → Contains (x ∷ rest) other → (other ≡ x) ⊎ Contains rest other
first_or_rest x other rest has = elim (Contains-append_cases (x ∷ []) rest other has) [
  | inl here ↦ inl (one_alone x other here.0 here.1 here.2)
  | inr behind ↦ inr behind
]

pub puts_insert : (asks : List Ask) (place : ℕ) (ask : Ask) → place ≤ length asks → Puts asks (insert asks place ask) ask
puts_insert asks place ask in_range =
    let moved = IsPermutation-insert asks place ask in
    record {
      has = Contains-permutation (ask ∷ asks) (insert asks place ask) ask moved (0, omega arith, refl);
      kept = λ other has. Contains-permutation (ask ∷ asks) (insert asks place ask) other moved (Contains-append_right (ask ∷ []) asks other has);
      only = λ other has. first_or_rest ask other asks (Contains-permutation (insert asks place ask) (ask ∷ asks) other (IsPermutation-sym (ask ∷ asks) (insert asks place ask) moved) has);
      len = length-insert asks place ask in_range;
    }

another : (shape : ℕ) (x other : Ask) → x.shape ≡ shape → other.shape ≢ shape → other ≡ x → ⊥
another shape x other is differ same = differ (ap (λ (a : Ask). a.shape) same ∙ is)

rest_alone : (x other : Ask) (rest : List Ask) → (other ≡ x → ⊥) → (other ≡ x) ⊎ Contains rest other → Contains rest other
rest_alone x other rest differ (inl same) = absurd (differ same)
rest_alone x other rest differ (inr has) = has

pub takes_remove : (asks : List Ask) (place shape : ℕ) (x : Ask) → place < length asks → x ≡ get_or asks place x → x.shape ≡ shape → Takes asks (remove asks place) shape
takes_remove asks place shape x in_range read is =
    let moved = IsPermutation-remove asks place x in_range read in
    record {
      kept = λ other has differ. rest_alone x other (remove asks place) (another shape x other is differ) (first_or_rest x other (remove asks place) (Contains-permutation asks (x ∷ remove asks place) other moved has));
      only = λ other has. Contains-permutation (x ∷ remove asks place) asks other (IsPermutation-sym asks (x ∷ remove asks place) moved) (Contains-append_right (x ∷ []) (remove asks place) other has);
      len = length-remove asks place in_range;
    }

-- an ask that is there has a place
pub placed_any : (asks : List Ask) (shape : ℕ) → Any (λ (ask : Ask). ask.shape ≡ shape) asks → position (λ (ask : Ask). eqb ask.shape shape) asks ≡ None → ⊥
placed_any asks shape any none =
    let missed = none_found (λ (ask : Ask). eqb ask.shape shape) asks any.1 (nowhere (λ (ask : Ask). eqb ask.shape shape) asks none) (among asks any.1 (any.0, any.2, any.3)) in
    clash (eqb any.1.shape shape) (subst (λ n. eqb any.1.shape n ≡ true) any.4 (itself any.1.shape)) missed
  where
    clash : (b : Bool) → b ≡ true → b ≡ false → ⊥
    clash b h k = cc

-- the ask of a place that was found is taken away
pub takes_at : (asks : List Ask) (place shape : ℕ) (d : Ask) → position (λ (ask : Ask). eqb ask.shape shape) asks ≡ Some place → Takes asks (remove asks place) shape
takes_at asks place shape d found =
    let first = position-Some (λ (ask : Ask). eqb ask.shape shape) asks place d found in
    takes_remove asks place shape (get_or asks place d) first.0 (get_or_own asks place d first.0) (eqb-true (get_or asks place d).shape shape first.1)
  where
    get_or_own : (asks : List Ask) (i : ℕ) (d : Ask) → i < length asks → get_or asks i d ≡ get_or asks i (get_or asks i d)
    get_or_own [] i d lt = absurd (omega (arith, lt))
    get_or_own (x ∷ xs) zero d lt = refl
    get_or_own (x ∷ xs) (suc i) d lt = get_or_own xs i d (omega (arith, lt))

pub ordered_remove : (asks : List Ask) (place : ℕ) → place < length asks → AreOrdered asks → AreOrdered (remove asks place)
ordered_remove asks place lt order = all_pairs_remove (λ (a b : Ask). is_before b a ≡ false) asks place lt order

pub found_within : (asks : List Ask) (place shape : ℕ) → position (λ (ask : Ask). eqb ask.shape shape) asks ≡ Some place → place < length asks
found_within asks place shape found = (position-Some (λ (ask : Ask). eqb ask.shape shape) asks place (record { table = 0; priority = pos 0; length = 0; shape = 0 }) found).0
