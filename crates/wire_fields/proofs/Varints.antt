-- What is read as a varint is one, and a varint is read again.
use Rattle.std.proofs.Common.{◌≡◌, ℕ, zero, suc, ◌+◌, ◌*◌, ◌%◌, ◌^◌, ◌<◌, ◌≤◌, ltb, List, [], ◌∷◌, ◌++◌, length, Ok, refl, ap, subst, arith, inl, inr}
use Rattle.std.proofs.lemmas.Bool.{ltb-true, ltb-false, lt-ltb, le-ltb}
use Rattle.std.proofs.Math.Nat.{pow-suc, one-le-pow, mod-eq_of_lt}
use Rattle.wire_fields.specs.declared.wire.WireFault.TheVariants.{VarintLong}
use Rattle.wire_fields.specs.Fields.{EndsAtLast, sevens, IsVarint}
use Rattle.list_types.specs.Results.{◌>>=◌}
use Rattle.wire_fields.specs.Reading.{varint_in, varint_at}
use Rattle.wire_fields.proofs.Steps.{IsBytes, bind_ok, guard_ok, chosen, ok_is}

-- the digits of a varint stand at the front, at most so many before a tenth
pub record HasDigits (more : ℕ) (bytes : List ℕ) (value : ℕ) (rest : List ℕ) : Type 0 where
  pub front : List ℕ
  pub ends : EndsAtLast front
  pub short : length front ≤ suc more
  pub value_is : value ≡ sevens front
  pub fits : value < 2 * 128 ^ more
  pub bytes_are : bytes ≡ front ++ rest

one_digit : (more b : ℕ) (bytes : List ℕ) → b < 128 → b < 2 * 128 ^ more → HasDigits more (b ∷ bytes) b bytes
one_digit more b bytes lt fits = record {
  front = b ∷ [];
  ends = lt;
  short = omega arith;
  value_is = omega (arith, mod-eq_of_lt lt);
  fits = fits;
  bytes_are = refl;
}

pub EndsAtLast-cons : (b : ℕ) (front : List ℕ) → 128 ≤ b → b < 256 → EndsAtLast front → EndsAtLast (b ∷ front)
EndsAtLast-cons b [] le lt ends = absurd ends
EndsAtLast-cons b (c ∷ front) le lt ends = (le, lt, ends)

more_digits : (more b : ℕ) (bytes : List ℕ) (high : ℕ) (rest : List ℕ) → 128 ≤ b → b < 256 → HasDigits more bytes high rest → HasDigits (suc more) (b ∷ bytes) (b % 128 + 128 * high) rest
more_digits more b bytes high rest le lt digits = record {
  front = b ∷ digits.front;
  ends = EndsAtLast-cons b digits.front le lt digits.ends;
  short = omega (arith, digits.short);
  value_is = ap (λ x. b % 128 + 128 * x) digits.value_is;
  fits = omega (arith, digits.fits, pow-suc 128 more);
  bytes_are = ap (λ x. b ∷ x) digits.bytes_are;
}

pub has_digits : (more : ℕ) (bytes : List ℕ) (value : ℕ) (rest : List ℕ) → IsBytes bytes → varint_in more bytes ≡ Ok (value, rest) → HasDigits more bytes value rest
unfolding varint_in
has_digits zero [] value rest fits e = absurd cc
has_digits zero (b ∷ bytes) value rest fits e =
    let g = guard_ok (ltb 1 b) VarintLong (b, bytes) (value, rest) e in
    let le : b ≤ 1 = ltb-false 1 b g.0 in
    subst (λ (x : ℕ × List ℕ). HasDigits 0 (b ∷ bytes) x.0 x.1) g.1 (one_digit 0 b bytes (omega arith) (omega arith))
has_digits (suc more) [] value rest fits e = absurd cc
has_digits (suc more) (b ∷ bytes) value rest fits e =
    elim (chosen (ltb b 128) (Ok (b, bytes)) (varint_in more bytes >>= λ high. Ok (b % 128 + 128 * high.0, high.1)) (Ok (value, rest)) e) [
      | inl h ↦
          let lt : b < 128 = ltb-true b 128 h.0 in
          subst (λ (x : ℕ × List ℕ). HasDigits (suc more) (b ∷ bytes) x.0 x.1) (ok_is (b, bytes) (value, rest) h.1)
          (one_digit (suc more) b bytes lt (omega (arith, pow-suc 128 more, one-le-pow more 128 (omega arith))))
      | inr h ↦
          let le : 128 ≤ b = ltb-false b 128 h.0 in
          let high = bind_ok (varint_in more bytes) (λ high. Ok (b % 128 + 128 * high.0, high.1)) (value, rest) h.1 in
          let digits = has_digits more bytes high.0.0 high.0.1 (λ i. fits (suc i)) high.1 in
          subst (λ (x : ℕ × List ℕ). HasDigits (suc more) (b ∷ bytes) x.0 x.1) (ok_is (b % 128 + 128 * high.0.0, high.0.1) (value, rest) high.2)
          (more_digits more b bytes high.0.0 high.0.1 le (fits 0) digits)
    ]

-- the varint at the front of bytes, and what comes after it
pub record HasVarint (bytes : List ℕ) (value : ℕ) (rest : List ℕ) : Type 0 where
  pub front : List ℕ
  pub is_varint : IsVarint front value
  pub bytes_are : bytes ≡ front ++ rest

pub has_varint : (bytes : List ℕ) (value : ℕ) (rest : List ℕ) → IsBytes bytes → varint_at bytes ≡ Ok (value, rest) → HasVarint bytes value rest
has_varint bytes value rest fits e =
    let digits = has_digits 9 bytes value rest fits e in
    record {
      front = digits.front;
      is_varint = record { ends = digits.ends; short = digits.short; value_is = digits.value_is; fits = digits.fits };
      bytes_are = digits.bytes_are;
    }

digits_again : (more : ℕ) (front rest : List ℕ) → EndsAtLast front → length front ≤ suc more → sevens front < 2 * 128 ^ more → varint_in more (front ++ rest) ≡ Ok (sevens front, rest)
unfolding varint_in
digits_again more [] rest ends short fits = absurd ends
digits_again zero (b ∷ []) rest ends short fits =
    let value_is : b ≡ b % 128 + 128 * 0 = omega (arith, mod-eq_of_lt ends) in
    rw (le-ltb 1 b (omega arith)) (ap (λ x. Ok (x, rest)) value_is)
digits_again (suc more) (b ∷ []) rest ends short fits =
    let value_is : b ≡ b % 128 + 128 * 0 = omega (arith, mod-eq_of_lt ends) in
    rw (lt-ltb b 128 ends) (ap (λ x. Ok (x, rest)) value_is)
digits_again zero (b ∷ c ∷ front) rest ends short fits = absurd (omega arith)
digits_again (suc more) (b ∷ c ∷ front) rest ends short fits =
    rw (le-ltb b 128 ends.0, digits_again more (c ∷ front) rest ends.2 (omega arith) (omega (arith, pow-suc 128 more))) refl

pub varint_again : (front rest : List ℕ) (value : ℕ) → IsVarint front value → varint_at (front ++ rest) ≡ Ok (value, rest)
varint_again front rest value is = rw is.value_is (digits_again 9 front rest is.ends is.short (rw (← is.value_is) is.fits))

shorter_in : (more : ℕ) (bytes : List ℕ) (value : ℕ) (rest : List ℕ) → varint_in more bytes ≡ Ok (value, rest) → length rest < length bytes
unfolding varint_in
shorter_in zero [] value rest e = absurd cc
shorter_in zero (b ∷ bytes) value rest e =
    let g = guard_ok (ltb 1 b) VarintLong (b, bytes) (value, rest) e in
    subst (λ (x : ℕ × List ℕ). length x.1 < length (b ∷ bytes)) g.1 (omega arith)
shorter_in (suc more) [] value rest e = absurd cc
shorter_in (suc more) (b ∷ bytes) value rest e =
    elim (chosen (ltb b 128) (Ok (b, bytes)) (varint_in more bytes >>= λ high. Ok (b % 128 + 128 * high.0, high.1)) (Ok (value, rest)) e) [
      | inl h ↦ subst (λ (x : ℕ × List ℕ). length x.1 < length (b ∷ bytes)) (ok_is (b, bytes) (value, rest) h.1) (omega arith)
      | inr h ↦
          let high = bind_ok (varint_in more bytes) (λ high. Ok (b % 128 + 128 * high.0, high.1)) (value, rest) h.1 in
          let shorter = shorter_in more bytes high.0.0 high.0.1 high.1 in
          subst (λ (x : ℕ × List ℕ). length x.1 < length (b ∷ bytes)) (ok_is (b % 128 + 128 * high.0.0, high.0.1) (value, rest) high.2) (omega arith)
    ]

-- a varint takes a byte at least
pub varint_shorter : (bytes : List ℕ) (value : ℕ) (rest : List ℕ) → varint_at bytes ≡ Ok (value, rest) → length rest < length bytes
varint_shorter bytes value rest e = shorter_in 9 bytes value rest e
