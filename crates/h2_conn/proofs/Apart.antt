-- Bytes of a frame in their parts.
use Rattle.std.proofs.Common.{◌≡◌, ℕ, zero, suc, ◌+◌, ◌-◌, ◌<◌, ◌≤◌, ◌⊎◌, List, ◌∷◌, ◌++◌, Option, Some, None, length, take, drop, refl, sym, ap, ◌∙◌, inl, inr, arith}
use Rattle.std.proofs.lemmas.List.{length-append}
use Rattle.std.proofs.Math.Seq.{drop-append_seam}
use Rattle.h2_conn.specs.Apart.{IsApart, padding_byte}

-- the head is whole where as many bytes have come
pub whole_head : (head : List ℕ) (padding : Option ℕ) (payload : List ℕ) → IsApart head padding payload → 9 ≤ length (head ++ (padding_byte padding ++ payload)) → length head ≡ 9
whole_head head None payload (inl nine) le = nine
whole_head head None payload (inr both) le = omega (arith, both.0, le, length-append head payload, ap length both.1)
whole_head head (Some padding) payload h le = h.0

-- what stands behind it
pub behind_head : (head rest : List ℕ) → length head ≡ 9 → drop 9 (head ++ rest) ≡ rest
behind_head head rest nine = ap (λ n. drop n (head ++ rest)) (sym nine) ∙ drop-append_seam head rest

-- ---- a frame that is whole

first_apart : (count padding : ℕ) (payload : List ℕ) → 0 < count → take count (padding ∷ payload) ≡ padding ∷ take (count - 1) payload
first_apart zero padding payload lt = absurd (omega (arith, lt))
first_apart (suc more) padding payload lt = let e : suc more - 1 ≡ more = omega arith in rw e refl

-- its payload, whose first byte stands apart
pub padded_whole : (head payload rest bytes : List ℕ) (padding : Option ℕ) (first count : ℕ) → IsApart head padding payload → padding ≡ Some first → head ++ (padding_byte padding ++ payload) ≡ bytes → 0 < count → rest ≡ take (count - 1) payload
    → take count (drop 9 bytes) ≡ first ∷ rest
padded_whole head payload rest bytes None first count apart some view lt left = absurd cc
padded_whole head payload rest bytes (Some padding) first count apart some view lt left =
    let same : padding ≡ first = cc in
    ap (λ x. take count (drop 9 x)) (sym view) ∙ ap (λ x. take count x) (behind_head head (padding ∷ payload) apart.0) ∙ first_apart count padding payload lt ∙ rw (same, left) refl

-- its payload, of which no byte stands apart, or which has none
pub plain_whole : (head payload bytes : List ℕ) (padding : Option ℕ) (count : ℕ) → IsApart head padding payload → head ++ (padding_byte padding ++ payload) ≡ bytes → 9 + count ≤ length bytes → (padding ≡ None) ⊎ (count ≡ 0)
    → take count payload ≡ take count (drop 9 bytes)
plain_whole head payload bytes None count apart view le none =
    let nine : length head ≡ 9 = whole_head head None payload apart (omega (arith, le, ap length view)) in
    ap (λ x. take count x) (sym (behind_head head payload nine)) ∙ ap (λ x. take count (drop 9 x)) view
plain_whole head payload bytes (Some padding) count apart view le (inl none) = absurd cc
plain_whole head payload bytes (Some padding) count apart view le (inr none) = rw none refl
