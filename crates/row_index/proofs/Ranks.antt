-- Which of two rows wins is an order.
use Rattle.std.proofs.Common.{◌≡◌, ℕ, ◌<◌, ◌≤◌, ℤ, ◌⊎◌, inl, inr, ◌∙◌, true, false, not, ◌||◌, ◌&&◌, arith}
use Rattle.std.specs.Prelude.{nat_lt, int_lt}
use Rattle.std.specs.Ordering.{int_eq}
use lib.Signed.{◌<ℤ◌}
use Rattle.std.proofs.lemmas.Bool.Decides.{nat_tests}
use Rattle.std.proofs.lemmas.Int.{ints}
use Rattle.row_index.specs.Best.{wins}

pub wins_one_way : (p q : ℤ) (l m s t : ℕ) → wins p q l m s t ≡ true → wins q p m l t s ≡ false
wins_one_way p q l m s t h = grind (arith, ints, nat_tests)

pub wins_not_itself : (p : ℤ) (l s : ℕ) → wins p p l l s s ≡ false
wins_not_itself p l s = grind (arith, ints, nat_tests)

-- the first row's rank is no higher
abbrev Lower : ℤ → ℤ → ℕ → ℕ → ℕ → ℕ → Type 0
Lower p q l m s t = (p <ℤ q) ⊎ ((p ≡ q) × ((l < m) ⊎ ((l ≡ m) × (t ≤ s))))

lower : (p q : ℤ) (l m s t : ℕ) → wins p q l m s t ≡ false → Lower p q l m s t
lower p q l m s t h = grind (arith, ints, nat_tests)

not_wins : (p q : ℤ) (l m s t : ℕ) → Lower p q l m s t → wins p q l m s t ≡ false
not_wins p q l m s t (inl less) = grind (arith, ints, nat_tests)
not_wins p q l m s t (inr (same, inl less)) = grind (arith, ints, nat_tests)
not_wins p q l m s t (inr (same, inr (equal, later))) = grind (arith, ints, nat_tests)

chained : (p q r : ℤ) (l m n s t u : ℕ) → Lower p q l m s t → Lower q r m n t u → Lower p r l n s u
chained p q r l m n s t u (inl a) (inl b) = inl (omega (arith, ints))
chained p q r l m n s t u (inl a) (inr (b, c)) = inl (omega (arith, ints))
chained p q r l m n s t u (inr (a, c)) (inl b) = inl (omega (arith, ints))
chained p q r l m n s t u (inr (a, inl c)) (inr (b, inl d)) = inr (a ∙ b, inl (omega arith))
chained p q r l m n s t u (inr (a, inl c)) (inr (b, inr (d, e))) = inr (a ∙ b, inl (omega arith))
chained p q r l m n s t u (inr (a, inr (c, f))) (inr (b, inl d)) = inr (a ∙ b, inl (omega arith))
chained p q r l m n s t u (inr (a, inr (c, f))) (inr (b, inr (d, e))) = inr (a ∙ b, inr (c ∙ d, omega arith))

pub wins_chain : (p q r : ℤ) (l m n s t u : ℕ) → wins p q l m s t ≡ false → wins q r m n t u ≡ false → wins p r l n s u ≡ false
wins_chain p q r l m n s t u h k = not_wins p r l n s u (chained p q r l m n s t u (lower p q l m s t h) (lower q r m n t u k))

equal_ranks : (p q : ℤ) (l m s t : ℕ) → Lower p q l m s t → Lower q p m l t s → s ≡ t
equal_ranks p q l m s t (inl a) (inl b) = omega (arith, ints)
equal_ranks p q l m s t (inl a) (inr (b, c)) = omega (arith, ints)
equal_ranks p q l m s t (inr (a, c)) (inl b) = omega (arith, ints)
equal_ranks p q l m s t (inr (a, inl c)) (inr (b, inl d)) = omega arith
equal_ranks p q l m s t (inr (a, inl c)) (inr (b, inr (d, e))) = omega arith
equal_ranks p q l m s t (inr (a, inr (c, f))) (inr (b, inl d)) = omega arith
equal_ranks p q l m s t (inr (a, inr (c, f))) (inr (b, inr (d, e))) = omega arith

-- two rows of which neither wins have one sequence number
pub wins_neither : (p q : ℤ) (l m s t : ℕ) → wins p q l m s t ≡ false → wins q p m l t s ≡ false → s ≡ t
wins_neither p q l m s t h k = equal_ranks p q l m s t (lower p q l m s t h) (lower q p m l t s k)

-- what bounds that cannot win include does not win: a row of priority p and prefix l, within the bounds b and c, against q and m
pub bounded : (p b q : ℤ) (l c m s t : ℕ) → int_lt b p ≡ false → l ≤ c → (int_lt q b || (int_eq b q && not (nat_lt c m))) ≡ false → wins p q l m s t ≡ false
bounded p b q l c m s t h k f = grind (arith, ints, nat_tests)
