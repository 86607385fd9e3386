-- Operators over 128 bits agree with those over whole numbers.
use Rattle.std.proofs.Common.{◌≡◌, ℕ, ◌+◌, ◌-◌, ◌*◌, ◌/◌, ◌%◌, ◌^◌, ◌<◌, Bool, true, false, refl, ◌∙◌, arith, ◌⊎◌, inl, inr}
use Rattle.std.proofs.lemmas.Nat.{mul-mod_second, shr_le}
use Rattle.std.proofs.Math.Nat.{mod-eq_of_lt}
use Rattle.std.specs.Prelude.{◌&&◌, ◌||◌, if◌then◌else◌, ℤ, pos, ◌+ℤ◌, ◌-ℤ◌, ◌*ℤ◌, nat_abs, bit_and, bit_or, bit_xor}
use Rattle.bm_expr.specs.Whole.{lowest, int_not, int_and, int_or, int_xor, int_right}
use Rattle.bm_expr.proofs.Lowest.{lowest-lt, lowest-add, lowest-subtract, lowest-times, lowest-not, lowest-and, lowest-or, lowest-xor, and_word, word_and}

-- `value` is the lowest 128 bits of `whole`, and the same number where it is settled
pub record Agrees (settled : Bool) (whole : ℤ) (value : ℕ) : Type 0 where
  pub cut : lowest whole ≡ value
  pub exact : settled ≡ true → whole ≡ pos value

pub both : (a b : Bool) → (a && b) ≡ true → (a ≡ true) × (b ≡ true)
both true b e = (refl, e)
both false b e = absurd cc

pub either : (a b : Bool) → (a || b) ≡ true → (a ≡ true) ⊎ (b ≡ true)
either true b e = inl refl
either false b e = inr e

pub value-lt : {s : Bool} {x : ℤ} {v : ℕ} → Agrees s x v → v < 2 ^ 128
value-lt {x = x} a = rw (← a.cut) (lowest-lt x)

pub word_agrees : (s : Bool) (n : ℕ) → n < 2 ^ 128 → Agrees s (pos n) n
word_agrees s n lt = record { cut = mod-eq_of_lt lt; exact = λ e. refl }

pub add_agrees : {s t : Bool} {x y : ℤ} {v w : ℕ} → Agrees s x v → Agrees t y w → Agrees false (x +ℤ y) ((v + w) % 2 ^ 128)
add_agrees {x = x} {y = y} a b = record { cut = rw (← a.cut, ← b.cut) (lowest-add x y); exact = λ e. absurd cc }

pub subtract_agrees : {s t : Bool} {x y : ℤ} {v w : ℕ} → Agrees s x v → Agrees t y w → Agrees false (x -ℤ y) ((v + 2 ^ 128 - w) % 2 ^ 128)
subtract_agrees {x = x} {y = y} a b = record { cut = rw (← a.cut, ← b.cut) (lowest-subtract x y); exact = λ e. absurd cc }

pub multiply_agrees : {s t : Bool} {x y : ℤ} {v w : ℕ} → Agrees s x v → Agrees t y w → Agrees false (x *ℤ y) ((v * w) % 2 ^ 128)
multiply_agrees {x = x} {y = y} a b = record { cut = rw (← a.cut, ← b.cut) (lowest-times x y); exact = λ e. absurd cc }

pub left_agrees : {s : Bool} {x y : ℤ} {v w : ℕ} → Agrees s x v → y ≡ pos w → Agrees false (x *ℤ pos (2 ^ nat_abs y)) ((v * 2 ^ w) % 2 ^ 128)
left_agrees {x = x} {w = w} a e = record {
  cut = rw (e, ← a.cut) (lowest-times x (pos (2 ^ w)) ∙ mul-mod_second (lowest x) (2 ^ w) (2 ^ 128));
  exact = λ e. absurd cc;
}

pub right_agrees : {x y : ℤ} {v w : ℕ} (s : Bool) → v < 2 ^ 128 → x ≡ pos v → y ≡ pos w → Agrees s (int_right x (nat_abs y)) (v / 2 ^ w)
right_agrees {v = v} {w = w} s lt d e = rw (d, e) (word_agrees s (v / 2 ^ w) (omega (arith, shr_le v w)))

word_left : {x : ℤ} (y : ℤ) {v w : ℕ} → v < 2 ^ 128 → x ≡ pos v → lowest y ≡ w → int_and x y ≡ pos (bit_and v w)
word_left y {v = v} lt e low = rw (e, ← low) (word_and y v lt)

word_right : (x : ℤ) {y : ℤ} {v w : ℕ} → w < 2 ^ 128 → y ≡ pos w → lowest x ≡ v → int_and x y ≡ pos (bit_and v w)
word_right x {w = w} lt e low = rw (e, ← low) (and_word x w lt)

pub and_agrees : {s t l m : Bool} {x y : ℤ} {v w : ℕ} → (l ≡ true → s ≡ true) → (m ≡ true → t ≡ true) → Agrees s x v → Agrees t y w
    → Agrees ((s && t) || l || m) (int_and x y) (bit_and v w)
and_agrees {s = s} {t = t} {l = l} {m = m} {x = x} {y = y} {v = v} {w = w} ls mt a b = record {
  cut = rw (← a.cut, ← b.cut) (lowest-and x y);
  exact = λ e. elim (either (s && t || l) m e) [
    | inl q ↦ elim (either (s && t) l q) [
      | inl p ↦ word_left y (value-lt a) (a.exact (both s t p).0) b.cut
      | inr p ↦ word_left y (value-lt a) (a.exact (ls p)) b.cut
    ]
    | inr p ↦ word_right x (value-lt b) (b.exact (mt p)) a.cut
  ];
}

pub or_agrees : {s t : Bool} {x y : ℤ} {v w : ℕ} → Agrees s x v → Agrees t y w → Agrees (s && t) (int_or x y) (bit_or v w)
or_agrees {s = s} {t = t} {x = x} {y = y} a b = record {
  cut = rw (← a.cut, ← b.cut) (lowest-or x y);
  exact = λ e. let p = both s t e in rw (a.exact p.0, b.exact p.1) refl;
}

pub xor_agrees : {s t : Bool} {x y : ℤ} {v w : ℕ} → Agrees s x v → Agrees t y w → Agrees (s && t) (int_xor x y) (bit_xor v w)
xor_agrees {s = s} {t = t} {x = x} {y = y} a b = record {
  cut = rw (← a.cut, ← b.cut) (lowest-xor x y);
  exact = λ e. let p = both s t e in rw (a.exact p.0, b.exact p.1) refl;
}

pub not_agrees : {s : Bool} {x : ℤ} {v : ℕ} → Agrees s x v → Agrees false (int_not x) (2 ^ 128 - 1 - v)
not_agrees {x = x} a = record { cut = rw (← a.cut) (lowest-not x); exact = λ e. absurd cc }

pub choose_agrees : {s t b c : Bool} {x y : ℤ} {v w : ℕ} → c ≡ b → Agrees s x v → Agrees t y w → Agrees (s && t) (if b then x else y) (if c then v else w)
choose_agrees {s = s} {t = t} {b = true} e p q = rw e (record { cut = p.cut; exact = λ d. p.exact (both s t d).0 })
choose_agrees {s = s} {t = t} {b = false} e p q = rw e (record { cut = q.cut; exact = λ d. q.exact (both s t d).1 })

pub truth_agrees : {b c : Bool} → c ≡ b → Agrees true (if b then pos 1 else pos 0) (if c then 1 else 0)
truth_agrees {b = true} e = rw e (word_agrees true 1 (omega arith))
truth_agrees {b = false} e = rw e (word_agrees true 0 (omega arith))
