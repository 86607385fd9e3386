-- How many rows a profile has, by the places where it begins and ends.
use Rattle.std.proofs.Common.{◌≡◌, ℕ, suc, zero, ◌+◌, ◌<◌, ◌≤◌, Bool, true, false, cond, eqb, ltb, leb, List, [], ◌∷◌, length, get_or, refl, ap, ◌∙◌, sym, arith}
use Rattle.std.specs.Prelude.{map, count_by}
use Rattle.std.specs.List.{AllByRecursion, AllWithin}
use Rattle.std.specs.List.Sorted.{IsNonDecreasingBy, IsPartitionPoint}
use Rattle.std.proofs.lemmas.Bool.Decides.{nat_tests}
use Rattle.std.proofs.lemmas.List.Elements.{All-from_recursion}
use Rattle.std.proofs.lemmas.List.Sums.{sum_by-cons}
use Rattle.plane_spec.specs.Profiles.{stands_before}
use Rattle.profile_store.specs.Order.{AreInOrder, key_before}

no_lower : (p i q j : ℕ) → stands_before p i q j ≡ true → p ≤ q
no_lower p i q j h = grind (arith, nat_tests)

module _ {X : Type 0} (key : X → ℕ × ℕ) where
  first_rises : (x : X) (xs : List X) → AllByRecursion (λ y. key_before (key x) (key y) ≡ true) xs → IsNonDecreasingBy (λ y. (key y).0) xs → (i j : ℕ) (d : X) → i ≤ j → j < length (x ∷ xs)
      → (key (get_or (x ∷ xs) i d)).0 ≤ (key (get_or (x ∷ xs) j d)).0
  first_rises x xs above rise zero zero d le in_range = omega arith
  first_rises x xs above rise zero (suc j) d le in_range =
      no_lower (key x).0 (key x).1 (key (get_or xs j d)).0 (key (get_or xs j d)).1 (All-from_recursion (λ y. key_before (key x) (key y) ≡ true) xs above j d (omega arith))
  first_rises x xs above rise (suc i) zero d le in_range = absurd (omega arith)
  first_rises x xs above rise (suc i) (suc j) d le in_range = rise i j d (omega arith) (omega arith)

  pub profiles_rise : (xs : List X) → AreInOrder key_before key xs → IsNonDecreasingBy (λ x. (key x).0) xs
  profiles_rise [] are = λ i j d le in_range. absurd (omega arith)
  profiles_rise (x ∷ xs) are = first_rises x xs are.0 (profiles_rise xs are.1)

count_cons : {X : Type 0} (p : X → Bool) (x : X) (xs : List X) → count_by p (x ∷ xs) ≡ cond (p x) 1 0 + count_by p xs
count_cons p x xs = sum_by-cons (λ y. cond (p y) 1 0) x xs

count_parted : {X : Type 0} (p : X → Bool) (xs : List X) (i : ℕ) → i ≤ length xs → AllWithin (λ y. p y ≡ true) xs 0 i → AllWithin (λ y. p y ≡ false) xs i (length xs) → count_by p xs ≡ i
count_parted p [] i in_range passes fails = omega arith
count_parted p (x ∷ xs) zero in_range passes fails =
    let here : p x ≡ false = fails 0 x (omega arith) (omega arith) in
    let rest = count_parted p xs zero (omega arith) (λ k d low high. absurd (omega arith)) (λ k d low high. fails (suc k) d (omega arith) (omega arith)) in
    count_cons p x xs ∙ rw here (omega (arith, rest))
count_parted p (x ∷ xs) (suc i) in_range passes fails =
    let here : p x ≡ true = passes 0 x (omega arith) (omega arith) in
    let rest = count_parted p xs i (omega arith) (λ k d low high. passes (suc k) d (omega arith) (omega arith)) (λ k d low high. fails (suc k) d (omega arith) (omega arith)) in
    count_cons p x xs ∙ rw (here, rest) (omega arith)

one_more : (n t : ℕ) → cond (ltb n t) 1 0 + cond (eqb n t) 1 0 ≡ cond (leb n t) 1 0
one_more n t = grind (arith, nat_tests)

count_three : {X : Type 0} (n : X → ℕ) (t : ℕ) (xs : List X) → count_by (λ x. ltb (n x) t) xs + count_by (λ x. eqb (n x) t) xs ≡ count_by (λ x. leb (n x) t) xs
count_three n t [] = refl
count_three n t (x ∷ xs) =
    omega (arith, count_three n t xs, one_more (n x) t, count_cons (λ y. ltb (n y) t) x xs, count_cons (λ y. eqb (n y) t) x xs, count_cons (λ y. leb (n y) t) x xs)

count_map : {X Y : Type 0} (p : Y → Bool) (f : X → Y) (xs : List X) → count_by p (map f xs) ≡ count_by (λ x. p (f x)) xs
count_map p f [] = refl
count_map p f (x ∷ xs) = count_cons p (f x) (map f xs) ∙ ap (λ n. cond (p (f x)) 1 0 + n) (count_map p f xs) ∙ sym (count_cons (λ y. p (f y)) x xs)

-- those of a profile stand from the first place to the second
pub counted : {X Y : Type 0} (n : Y → ℕ) (f : X → Y) (t : ℕ) (xs : List X) (start end : ℕ) → start ≤ length xs → end ≤ length xs
    → IsPartitionPoint (λ x. ltb (n (f x)) t ≡ true) (λ x. ltb (n (f x)) t ≡ false) xs start → IsPartitionPoint (λ x. leb (n (f x)) t ≡ true) (λ x. leb (n (f x)) t ≡ false) xs end
    → start + count_by (λ y. eqb (n y) t) (map f xs) ≡ end
counted n f t xs start end start_in end_in first last =
    let low = count_parted (λ x. ltb (n (f x)) t) xs start start_in first.0 first.1 in
    let high = count_parted (λ x. leb (n (f x)) t) xs end end_in last.0 last.1 in
    omega (arith, low, high, count_three (λ x. n (f x)) t xs, count_map (λ y. eqb (n y) t) f xs)
