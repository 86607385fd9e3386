-- What is found among rows in order, by the parts before and behind a key.
use Rattle.std.proofs.Common.{◌≡◌, ℕ, ◌+◌, Bool, true, false, cond, List, [], ◌∷◌, ◌++◌, Option, Some, None, refl, sym, ap, subst, ◌∙◌, arith}
use Rattle.std.specs.Prelude.{find}
use Rattle.std.specs.List.{AllByRecursion}
use Rattle.std.specs.declared.cmp.Ordering.{Ordering}
use Rattle.plane_spec.proofs.Lists.{All-weaken}
use Rattle.profile_store.specs.Order.{AreInOrder}
use Rattle.profile_store.proofs.Keys.{IsOrder}

-- a row, or none, as a list
abbrev pub as_list : {X : Type 0} → Option X → List X
as_list None = []
as_list (Some x) = x ∷ []

pub each_append : {X : Type 0} (P : X → Type 0) (xs ys : List X) → AllByRecursion P xs → AllByRecursion P ys → AllByRecursion P (xs ++ ys)
each_append P [] ys h k = k
each_append P (x ∷ xs) ys h k = (h.0, each_append P xs ys h.1 k)

pub each_front : {X : Type 0} (P : X → Type 0) (xs ys : List X) → AllByRecursion P (xs ++ ys) → AllByRecursion P xs
each_front P [] ys h = tt
each_front P (x ∷ xs) ys h = (h.0, each_front P xs ys h.1)

pub each_back : {X : Type 0} (P : X → Type 0) (xs ys : List X) → AllByRecursion P (xs ++ ys) → AllByRecursion P ys
each_back P [] ys h = h
each_back P (x ∷ xs) ys h = each_back P xs ys h.1

none_found : {X : Type 0} (p : X → Bool) (xs : List X) → AllByRecursion (λ x. p x ≡ false) xs → find p xs ≡ None
none_found p [] h = refl
none_found p (x ∷ xs) h = rw h.0 (none_found p xs h.1)

passed_over : {X : Type 0} (p : X → Bool) (before rest : List X) → AllByRecursion (λ x. p x ≡ false) before → find p (before ++ rest) ≡ find p rest
passed_over p [] rest h = refl
passed_over p (x ∷ before) rest h = rw h.0 (passed_over p before rest h.1)

left_out : {X : Type 0} (p : X → Bool) (x : X) (before after : List X) → p x ≡ false → find p (before ++ x ∷ after) ≡ find p (before ++ after)
left_out p x [] after h = rw h refl
left_out p x (y ∷ before) after h = ap (λ r. cond (p y) (Some y) r) (left_out p x before after h)

-- all rows before are of lower keys, all behind of higher ones
pub record Splits {X K : Type 0} (lower : K → K → Bool) (key : X → K) (at : K) (before after : List X) : Type 0 where
  pub below : AllByRecursion (λ x. lower (key x) at ≡ true) before
  pub above : AllByRecursion (λ x. lower at (key x) ≡ true) after

module _ {X K : Type 0} (cmp : K → K → Ordering) (lower same : K → K → Bool) (order : IsOrder cmp lower same) (key : X → K) where
  -- the row, if there is one, has the key
  abbrev pub HasKey : K → Option X → Type 0
  HasKey at None = Unit {0}
  HasKey at (Some x) = key x ≡ at

  pub before_differ : (at : K) (before : List X) → AllByRecursion (λ x. lower (key x) at ≡ true) before → AllByRecursion (λ x. same at (key x) ≡ false) before
  before_differ at before below = All-weaken (λ x. lower (key x) at ≡ true) (λ x. same at (key x) ≡ false) (λ x h. order.higher_differs (key x) at h) before below

  pub after_differ : (at : K) (after : List X) → AllByRecursion (λ x. lower at (key x) ≡ true) after → AllByRecursion (λ x. same at (key x) ≡ false) after
  after_differ at after above = All-weaken (λ x. lower at (key x) ≡ true) (λ x. same at (key x) ≡ false) (λ x h. order.lower_differs at (key x) h) after above

  found_here : (at : K) (before after : List X) → Splits lower key at before after → (o : Option X) → HasKey at o → find (λ x. same at (key x)) (before ++ (as_list o ++ after)) ≡ o
  found_here at before after s None has =
      passed_over (λ x. same at (key x)) before after (before_differ at before s.below) ∙ none_found (λ x. same at (key x)) after (after_differ at after s.above)
  found_here at before after s (Some x) has =
      let is : same at (key x) ≡ true = subst (λ k. same at k ≡ true) (sym has) (order.itself at) in
      passed_over (λ x. same at (key x)) before (x ∷ after) (before_differ at before s.below) ∙ rw is refl

  found_beside : (at to : K) (before after : List X) → same to at ≡ false → (o : Option X) → HasKey at o → find (λ x. same to (key x)) (before ++ (as_list o ++ after)) ≡ find (λ x. same to (key x)) (before ++ after)
  found_beside at to before after other None has = refl
  found_beside at to before after other (Some x) has = left_out (λ x. same to (key x)) x before after (subst (λ k. same to k ≡ false) (sym has) other)

  found_by : (at to : K) (before after : List X) → Splits lower key at before after → (o : Option X) → HasKey at o → (b : Bool) → same to at ≡ b
      → find (λ x. same to (key x)) (before ++ (as_list o ++ after)) ≡ cond b o (find (λ x. same to (key x)) (before ++ after))
  found_by at to before after s o has true is =
      subst (λ k. find (λ x. same k (key x)) (before ++ (as_list o ++ after)) ≡ o) (sym (order.one to at is)) (found_here at before after s o has)
  found_by at to before after s o has false is = found_beside at to before after is o has

  -- the row of the key is found by it, and changes nothing for others
  pub found : (at to : K) (before after : List X) → Splits lower key at before after → (o : Option X) → HasKey at o
      → find (λ x. same to (key x)) (before ++ (as_list o ++ after)) ≡ cond (same to at) o (find (λ x. same to (key x)) (before ++ after))
  found at to before after s o has = found_by at to before after s o has (same to at) refl

  pub found_own : (at : K) (before after : List X) → Splits lower key at before after → (o : Option X) → HasKey at o → find (λ x. same at (key x)) (before ++ (as_list o ++ after)) ≡ o
  found_own at before after s o has = found_here at before after s o has

  -- what is counted of the rows that are found changes for the key alone
  balanced_by : (count : Option X → ℕ) (b : Bool) (o n rest : Option X) (u v : ℕ) → count n + u ≡ count o + v → count (cond b n rest) + cond b u 0 ≡ count (cond b o rest) + cond b v 0
  balanced_by count true o n rest u v h = h
  balanced_by count false o n rest u v h = refl

  pub balanced : (count : Option X → ℕ) (at to : K) (before after : List X) → Splits lower key at before after → (o n : Option X) → HasKey at o → HasKey at n → (u v : ℕ) → count n + u ≡ count o + v
      → count (find (λ x. same to (key x)) (before ++ (as_list n ++ after))) + cond (same to at) u 0 ≡ count (find (λ x. same to (key x)) (before ++ (as_list o ++ after))) + cond (same to at) v 0
  balanced count at to before after s o n has_o has_n u v h =
      let new : count (find (λ x. same to (key x)) (before ++ (as_list n ++ after))) ≡ count (cond (same to at) n (find (λ x. same to (key x)) (before ++ after))) = ap count (found at to before after s n has_n) in
      let old : count (find (λ x. same to (key x)) (before ++ (as_list o ++ after))) ≡ count (cond (same to at) o (find (λ x. same to (key x)) (before ++ after))) = ap count (found at to before after s o has_o) in
      let both = balanced_by count (same to at) o n (find (λ x. same to (key x)) (before ++ after)) u v h in
      omega (arith, new, old, both)

  -- the rows stand in order with a row of the key and without it
  pub with_one : (at : K) (x : X) → key x ≡ at → (before after : List X) → Splits lower key at before after → AreInOrder lower key (before ++ after) → AreInOrder lower key (before ++ x ∷ after)
  with_one at x is [] after s are = (subst (λ k. AllByRecursion (λ y. lower k (key y) ≡ true) after) (sym is) s.above, are)
  with_one at x is (y ∷ before) after s are = (
    each_append (λ z. lower (key y) (key z) ≡ true) before (x ∷ after) (each_front (λ z. lower (key y) (key z) ≡ true) before after are.0)
        (subst (λ k. lower (key y) k ≡ true) (sym is) s.below.0, each_back (λ z. lower (key y) (key z) ≡ true) before after are.0),
    with_one at x is before after (record { below = s.below.1; above = s.above }) are.1,
  )

  pub without_one : (x : X) (before after : List X) → AreInOrder lower key (before ++ x ∷ after) → AreInOrder lower key (before ++ after)
  without_one x [] after are = are.1
  without_one x (y ∷ before) after are = (
    each_append (λ z. lower (key y) (key z) ≡ true) before after (each_front (λ z. lower (key y) (key z) ≡ true) before (x ∷ after) are.0) (each_back (λ z. lower (key y) (key z) ≡ true) before (x ∷ after) are.0).1,
    without_one x before after are.1,
  )
