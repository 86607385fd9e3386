-- The bytes that an integer goes on with.
use Rattle.std.proofs.Common.{◌≡◌, ℕ, ◌+◌, ◌/◌, ◌%◌, ◌^◌, ◌<◌, ◌≤◌, List, [], ◌∷◌, ◌++◌, sym, ap, ◌∙◌, append_assoc, arith}
use Rattle.canon_bytes.specs.Base128.{base_128}
use Rattle.canon_bytes.proofs.Base128Steps.{one_byte, more_bytes, same_bytes}

-- a number is written byte by byte, of which left is still to be written
pub record IsWriting (old : List ℕ) (value : ℕ) (now : List ℕ) (left : ℕ) : Type 0 where
  pub so_far : now ++ base_128 10 left ≡ old ++ base_128 10 value
  pub fits : left < 2 ^ 64

pub goes_on : (old : List ℕ) (value : ℕ) (now : List ℕ) (left : ℕ) → 128 ≤ left → IsWriting old value now left → IsWriting old value (now ++ (left % 128 + 128) ∷ []) (left / 128)
goes_on old value now left le w =
    let below : left / 128 < 128 ^ 9 = omega (arith, w.fits) in
    let split : base_128 10 left ≡ (left % 128 + 128) ∷ base_128 10 (left / 128) = more_bytes 9 left le ∙ ap (λ x. (left % 128 + 128) ∷ x) (same_bytes 8 (left / 128) below) in
    record {
      so_far = append_assoc now ((left % 128 + 128) ∷ []) (base_128 10 (left / 128)) ∙ ap (λ x. now ++ x) (sym split) ∙ w.so_far;
      fits = omega (arith, w.fits);
    }

pub is_done : (old : List ℕ) (value : ℕ) (now : List ℕ) (left : ℕ) → left < 128 → IsWriting old value now left → now ++ left ∷ [] ≡ old ++ base_128 10 value
is_done old value now left lt w = ap (λ x. now ++ x) (sym (one_byte 9 left lt)) ∙ w.so_far
