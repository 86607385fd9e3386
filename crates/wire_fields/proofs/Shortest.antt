-- The shortest varint of a number is a varint of it, and is written byte by byte.
use Rattle.std.proofs.Common.{◌≡◌, ℕ, zero, suc, ◌+◌, ◌/◌, ◌%◌, ◌^◌, ◌<◌, ◌≤◌, List, [], ◌∷◌, ◌++◌, length, take, sym, ap, ◌∙◌, append_assoc, arith, inl, inr}
use Rattle.std.proofs.lemmas.Bool.{cases_lt}
use Rattle.std.proofs.lemmas.List.{length-take, take-append-le}
use Rattle.std.proofs.Math.Nat.{mod-eq_of_lt}
use Rattle.canon_bytes.proofs.Base128Steps.{one_byte, more_bytes, quotient_below, same_bytes}
use Rattle.wire_fields.specs.Fields.{EndsAtLast, sevens, IsVarint}
use Rattle.canon_bytes.specs.Base128.{base_128}
use Rattle.wire_fields.specs.Spelling.{varint}
use Rattle.wire_fields.proofs.Varints.{EndsAtLast-cons}

record IsDigits (k value : ℕ) (bytes : List ℕ) : Type 0 where
  pub ends : EndsAtLast bytes
  pub short : length bytes ≤ suc k
  pub value_is : value ≡ sevens bytes

is_byte : (k value : ℕ) → value < 128 → IsDigits k value (base_128 (suc k) value)
is_byte k value lt = rw (one_byte k value lt) (record { ends = lt; short = omega arith; value_is = omega (arith, mod-eq_of_lt lt) })

is_digits : (k value : ℕ) → value < 128 ^ suc k → IsDigits k value (base_128 (suc k) value)
is_digits zero value lt = is_byte 0 value (omega arith)
is_digits (suc k) value lt =
    elim (cases_lt value 128) [
      | inl below ↦ is_byte (suc k) value below
      | inr le ↦
          let high = is_digits k (value / 128) (quotient_below k value lt) in
          let low : (value % 128 + 128) % 128 ≡ value % 128 = omega arith in
          rw (more_bytes (suc k) value le)
          (record {
            ends = EndsAtLast-cons (value % 128 + 128) (base_128 (suc k) (value / 128)) (omega arith) (omega arith) high.ends;
            short = omega (arith, high.short);
            value_is = omega (arith, high.value_is);
          })
    ]

pub is_varint : (value : ℕ) → value < 2 ^ 64 → IsVarint (varint value) value
is_varint value lt =
    let digits = is_digits 9 value (omega arith) in
    record { ends = digits.ends; short = digits.short; value_is = digits.value_is; fits = lt }

-- ---- a number that is written byte by byte, of which left is still to be written

pub record IsWriting (old : List ℕ) (value : ℕ) (now : List ℕ) (left : ℕ) : Type 0 where
  pub so_far : now ++ varint left ≡ old ++ varint value
  pub kept : take (length old) now ≡ old
  pub fits : left < 2 ^ 64

-- what follows a list does not change its front
pub kept_more : (old now more : List ℕ) → take (length old) now ≡ old → take (length old) (now ++ more) ≡ old
kept_more old now more kept =
    let fits : length old ≤ length now = omega (arith, length-take (length old) now, ap length kept) in
    rw (take-append-le (length old) now more fits) kept

pub goes_on : (old : List ℕ) (value : ℕ) (now : List ℕ) (left : ℕ) → 128 ≤ left → IsWriting old value now left → IsWriting old value (now ++ (left % 128 + 128) ∷ []) (left / 128)
goes_on old value now left le w =
    let below : left / 128 < 128 ^ 9 = omega (arith, w.fits) in
    let split : varint left ≡ (left % 128 + 128) ∷ varint (left / 128) = more_bytes 9 left le ∙ ap (λ x. (left % 128 + 128) ∷ x) (same_bytes 8 (left / 128) below) in
    record {
      so_far = append_assoc now ((left % 128 + 128) ∷ []) (varint (left / 128)) ∙ ap (λ x. now ++ x) (sym split) ∙ w.so_far;
      kept = kept_more old now _ w.kept;
      fits = omega (arith, w.fits);
    }

pub is_done : (old : List ℕ) (value : ℕ) (now : List ℕ) (left : ℕ) → left < 128 → IsWriting old value now left → now ++ left ∷ [] ≡ old ++ varint value
is_done old value now left lt w = ap (λ x. now ++ x) (sym (one_byte 9 left lt)) ∙ w.so_far
