-- What is used of an order of keys, and the two orders that the rows have.
use Rattle.std.proofs.Common.{◌≡◌, ℕ, ◌≤◌, Bool, true, false, arith}
use Rattle.std.specs.Prelude.{nat_lt, ◌==◌}
use Rattle.std.specs.Ordering.{nat_cmp, ordering_then, ordering_index}
use Rattle.std.specs.declared.cmp.Ordering.{Ordering}
use Rattle.std.specs.declared.cmp.Ordering.TheVariants.{Less, Equal, Greater}
use Rattle.std.proofs.lemmas.Bool.Decides.{nat_tests}
use Rattle.plane_spec.specs.Profiles.{same_id, stands_before}
use Rattle.profile_store.specs.Order.{key_before}

-- a comparison, whether a key is lower, and whether two are the same, agree
pub record IsOrder {K : Type 0} (cmp : K → K → Ordering) (lower same : K → K → Bool) : Type 0 where
  pub less : (a b : K) → cmp a b ≡ Less → lower a b ≡ true
  pub equal : (a b : K) → cmp a b ≡ Equal → a ≡ b
  pub greater : (a b : K) → cmp a b ≡ Greater → lower b a ≡ true
  pub rises : (a b t : K) → lower a b ≡ true → ordering_index (cmp a t) ≤ ordering_index (cmp b t)
  pub one : (a b : K) → same a b ≡ true → a ≡ b
  pub itself : (a : K) → same a a ≡ true
  pub lower_differs : (a b : K) → lower a b ≡ true → same a b ≡ false
  pub higher_differs : (a b : K) → lower a b ≡ true → same b a ≡ false
  pub one_way : (a b : K) → lower a b ≡ true → lower b a ≡ false
  pub across : (a b c : K) → lower a b ≡ true → lower b c ≡ true → lower a c ≡ true

-- numbers
abbrev pub same_number : ℕ → ℕ → Bool
same_number a b = b == a

number_less : (a b : ℕ) → nat_cmp a b ≡ Less → nat_lt a b ≡ true
number_less a b h = grind (arith, nat_tests)

number_equal : (a b : ℕ) → nat_cmp a b ≡ Equal → a ≡ b
number_equal a b h = grind (arith, nat_tests)

number_greater : (a b : ℕ) → nat_cmp a b ≡ Greater → nat_lt b a ≡ true
number_greater a b h = grind (arith, nat_tests)

number_rises : (a b t : ℕ) → nat_lt a b ≡ true → ordering_index (nat_cmp a t) ≤ ordering_index (nat_cmp b t)
number_rises a b t h = grind (arith, nat_tests)

number_one : (a b : ℕ) → (b == a) ≡ true → a ≡ b
number_one a b h = grind (arith, nat_tests)

number_itself : (a : ℕ) → (a == a) ≡ true
number_itself a = grind (arith, nat_tests)

number_differs : (a b : ℕ) → nat_lt a b ≡ true → (b == a) ≡ false
number_differs a b h = grind (arith, nat_tests)

number_differs_too : (a b : ℕ) → nat_lt a b ≡ true → (a == b) ≡ false
number_differs_too a b h = grind (arith, nat_tests)

number_one_way : (a b : ℕ) → nat_lt a b ≡ true → nat_lt b a ≡ false
number_one_way a b h = grind (arith, nat_tests)

number_across : (a b c : ℕ) → nat_lt a b ≡ true → nat_lt b c ≡ true → nat_lt a c ≡ true
number_across a b c h k = grind (arith, nat_tests)

pub numbers : IsOrder nat_cmp nat_lt same_number
numbers = record {
  less = number_less;
  equal = number_equal;
  greater = number_greater;
  rises = number_rises;
  one = number_one;
  itself = number_itself;
  lower_differs = number_differs;
  higher_differs = number_differs_too;
  one_way = number_one_way;
  across = number_across;
}

-- profiles with ids
abbrev pub pair_cmp : ℕ × ℕ → ℕ × ℕ → Ordering
pair_cmp a b = ordering_then (nat_cmp a.0 b.0) (nat_cmp a.1 b.1)

abbrev pub same_pair : ℕ × ℕ → ℕ × ℕ → Bool
same_pair a b = same_id a.0 a.1 b.0 b.1

pair : (p i q j : ℕ) → p ≡ q → i ≡ j → ◌≡◌ {A = ℕ × ℕ} (p, i) (q, j)
pair p i q j h k = cc

pair_less : (p i q j : ℕ) → ordering_then (nat_cmp p q) (nat_cmp i j) ≡ Less → stands_before p i q j ≡ true
pair_less p i q j h = grind (arith, nat_tests)

pair_equal : (p i q j : ℕ) → ordering_then (nat_cmp p q) (nat_cmp i j) ≡ Equal → (p ≡ q) × (i ≡ j)
pair_equal p i q j h = (grind (arith, nat_tests), grind (arith, nat_tests))

pair_greater : (p i q j : ℕ) → ordering_then (nat_cmp p q) (nat_cmp i j) ≡ Greater → stands_before q j p i ≡ true
pair_greater p i q j h = grind (arith, nat_tests)

pair_rises : (p i q j r k : ℕ) → stands_before p i q j ≡ true → ordering_index (ordering_then (nat_cmp p r) (nat_cmp i k)) ≤ ordering_index (ordering_then (nat_cmp q r) (nat_cmp j k))
pair_rises p i q j r k h = grind (arith, nat_tests)

pair_one : (p i q j : ℕ) → same_id p i q j ≡ true → (p ≡ q) × (i ≡ j)
pair_one p i q j h = (grind (arith, nat_tests), grind (arith, nat_tests))

pair_itself : (p i : ℕ) → same_id p i p i ≡ true
pair_itself p i = grind (arith, nat_tests)

pair_differs : (p i q j : ℕ) → stands_before p i q j ≡ true → same_id p i q j ≡ false
pair_differs p i q j h = grind (arith, nat_tests)

pair_differs_too : (p i q j : ℕ) → stands_before p i q j ≡ true → same_id q j p i ≡ false
pair_differs_too p i q j h = grind (arith, nat_tests)

pair_one_way : (p i q j : ℕ) → stands_before p i q j ≡ true → stands_before q j p i ≡ false
pair_one_way p i q j h = grind (arith, nat_tests)

pair_across : (p i q j r k : ℕ) → stands_before p i q j ≡ true → stands_before q j r k ≡ true → stands_before p i r k ≡ true
pair_across p i q j r k h l = grind (arith, nat_tests)

pub pairs : IsOrder pair_cmp key_before same_pair
pairs = record {
  less = λ a b. pair_less a.0 a.1 b.0 b.1;
  equal = λ a b h. (let e = pair_equal a.0 a.1 b.0 b.1 h in pair a.0 a.1 b.0 b.1 e.0 e.1);
  greater = λ a b. pair_greater a.0 a.1 b.0 b.1;
  rises = λ a b t. pair_rises a.0 a.1 b.0 b.1 t.0 t.1;
  one = λ a b h. (let e = pair_one a.0 a.1 b.0 b.1 h in pair a.0 a.1 b.0 b.1 e.0 e.1);
  itself = λ a. pair_itself a.0 a.1;
  lower_differs = λ a b. pair_differs a.0 a.1 b.0 b.1;
  higher_differs = λ a b. pair_differs_too a.0 a.1 b.0 b.1;
  one_way = λ a b. pair_one_way a.0 a.1 b.0 b.1;
  across = λ a b c. pair_across a.0 a.1 b.0 b.1 c.0 c.1;
}
