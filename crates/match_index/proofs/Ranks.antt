-- Which of two entries wins is an order.
use Rattle.std.proofs.Common.{◌≡◌, ◌≢◌, ℕ, ◌<◌, ◌≤◌, ℤ, ◌⊎◌, inl, inr, ◌∙◌, Bool, true, false, if◌then◌else◌, refl, arith}
use Rattle.std.specs.Prelude.{nat_lt, int_lt}
use lib.Signed.{◌<ℤ◌}
use Rattle.std.specs.Cmp.{IsStrictWeakOrder}
use Rattle.std.proofs.lemmas.Bool.Decides.{nat_tests}
use Rattle.std.proofs.lemmas.Int.{ints}
use Rattle.p4_types.specs.declared.table.Entry.{Entry}
use Rattle.plane_spec.specs.Entries.{beats, prefix_length}

-- `beats` on what it compares: priorities, lengths of prefixes, sequence numbers
abbrev wins : ℤ → ℤ → ℕ → ℕ → ℕ → ℕ → Bool
wins p q l m s t = if int_lt q p then true else if int_lt p q then false else if nat_lt m l then true else if nat_lt l m then false else nat_lt s t

wins_one_way : (p q : ℤ) (l m s t : ℕ) → wins p q l m s t ≡ true → wins q p m l t s ≡ false
wins_one_way p q l m s t h = grind (arith, ints, nat_tests)

-- the first entry's rank is no higher
abbrev Lower : ℤ → ℤ → ℕ → ℕ → ℕ → ℕ → Type 0
Lower p q l m s t = (p <ℤ q) ⊎ ((p ≡ q) × ((l < m) ⊎ ((l ≡ m) × (t ≤ s))))

lower : (p q : ℤ) (l m s t : ℕ) → wins p q l m s t ≡ false → Lower p q l m s t
lower p q l m s t h = grind (arith, ints, nat_tests)

not_wins : (p q : ℤ) (l m s t : ℕ) → Lower p q l m s t → wins p q l m s t ≡ false
not_wins p q l m s t (inl less) = grind (arith, ints, nat_tests)
not_wins p q l m s t (inr (same, inl less)) = grind (arith, ints, nat_tests)
not_wins p q l m s t (inr (same, inr (equal, later))) = grind (arith, ints, nat_tests)

chained : (p q r : ℤ) (l m n s t u : ℕ) → Lower p q l m s t → Lower q r m n t u → Lower p r l n s u
chained p q r l m n s t u (inl a) (inl b) = inl (omega (arith, ints))
chained p q r l m n s t u (inl a) (inr (b, c)) = inl (omega (arith, ints))
chained p q r l m n s t u (inr (a, c)) (inl b) = inl (omega (arith, ints))
chained p q r l m n s t u (inr (a, inl c)) (inr (b, inl d)) = inr (a ∙ b, inl (omega arith))
chained p q r l m n s t u (inr (a, inl c)) (inr (b, inr (d, e))) = inr (a ∙ b, inl (omega arith))
chained p q r l m n s t u (inr (a, inr (c, f))) (inr (b, inl d)) = inr (a ∙ b, inl (omega arith))
chained p q r l m n s t u (inr (a, inr (c, f))) (inr (b, inr (d, e))) = inr (a ∙ b, inr (c ∙ d, omega arith))

wins_chain : (p q r : ℤ) (l m n s t u : ℕ) → wins p q l m s t ≡ false → wins q r m n t u ≡ false → wins p r l n s u ≡ false
wins_chain p q r l m n s t u h k = not_wins p r l n s u (chained p q r l m n s t u (lower p q l m s t h) (lower q r m n t u k))

pub beats_ranks : IsStrictWeakOrder beats
beats_ranks = record {
  one_way = λ a b h. wins_one_way a.name.priority b.name.priority (prefix_length a.name.tests) (prefix_length b.name.tests) a.seq b.seq h;
  chain = λ a b c h k. wins_chain a.name.priority b.name.priority c.name.priority (prefix_length a.name.tests) (prefix_length b.name.tests) (prefix_length c.name.tests) a.seq b.seq c.seq h k;
}

equal_ranks : (p q : ℤ) (l m s t : ℕ) → Lower p q l m s t → Lower q p m l t s → s ≡ t
equal_ranks p q l m s t (inl a) (inl b) = omega (arith, ints)
equal_ranks p q l m s t (inl a) (inr (b, c)) = omega (arith, ints)
equal_ranks p q l m s t (inr (a, c)) (inl b) = omega (arith, ints)
equal_ranks p q l m s t (inr (a, inl c)) (inr (b, inl d)) = omega arith
equal_ranks p q l m s t (inr (a, inl c)) (inr (b, inr (d, e))) = omega arith
equal_ranks p q l m s t (inr (a, inr (c, f))) (inr (b, inl d)) = omega arith
equal_ranks p q l m s t (inr (a, inr (c, f))) (inr (b, inr (d, e))) = omega arith

other_wins : (p q : ℤ) (l m s t : ℕ) (b : Bool) → wins q p m l t s ≡ b → s ≢ t → wins p q l m s t ≡ false → b ≡ true
other_wins p q l m s t true h differ k = refl
other_wins p q l m s t false h differ k = absurd (differ (equal_ranks p q l m s t (lower p q l m s t k) (lower q p m l t s h)))

-- of two entries with different sequence numbers one wins
pub one_beats_other : (a b : Entry) → a.seq ≢ b.seq → beats a b ≡ false → beats b a ≡ true
one_beats_other a b differ loses = other_wins a.name.priority b.name.priority (prefix_length a.name.tests) (prefix_length b.name.tests) a.seq b.seq (beats b a) refl differ loses
