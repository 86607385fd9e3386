-- Frames one after another.
use Rattle.std.proofs.Common.{◌≡◌, ℕ, zero, suc, ◌+◌, ◌-◌, ◌≤◌, ◌⊎◌, true, List, [], ◌∷◌, ◌++◌, length, take, drop, refl, sym, ap, ◌∙◌, append_assoc, inl, inr, arith}
use Rattle.std.specs.List.{flat_map}
use Rattle.std.proofs.lemmas.Bool.{cases_lt, lt-ltb, le-ltb}
use Rattle.std.proofs.lemmas.List.Elements.{All-cons, All-nil}
use Rattle.std.proofs.lemmas.List.{length-append, length-drop, length-take-le, take-append-le, drop-append-le, take-append-drop}
use Rattle.h2_frames.specs.Reading.{head_at}
use Rattle.h2_frames.specs.Sequence.{Framed, framed_bytes, payload_length, is_part, first_of, behind_first, onto, split_in, frames_of, IsFramed, AreFrames, FramesJoined, LaterFrames}

-- ---- one frame at the front, or none

part_or_whole : (bytes : List ℕ) → (is_part bytes ≡ true) ⊎ ((9 ≤ length bytes) × (9 + payload_length bytes ≤ length bytes))
part_or_whole bytes =
    elim (cases_lt (length bytes) 9) [
      | inl lt ↦ inl (rw (lt-ltb (length bytes) 9 lt) refl)
      | inr ge ↦ elim (cases_lt (length bytes) (9 + payload_length bytes)) [
        | inl short ↦ inl (rw (le-ltb (length bytes) 9 ge, lt-ltb (length bytes) (9 + payload_length bytes) short) refl)
        | inr whole ↦ inr (ge, whole)
      ]
    ]

part : (n : ℕ) (bytes : List ℕ) → is_part bytes ≡ true → ◌≡◌ {A = List Framed × List ℕ} (split_in n bytes) ([], bytes)
unfolding split_in
part zero bytes e = refl
part (suc n) bytes e = rw e refl

next : (n : ℕ) (bytes : List ℕ) → 9 ≤ length bytes → 9 + payload_length bytes ≤ length bytes → ◌≡◌ {A = List Framed × List ℕ} (split_in (suc n) bytes) (onto (first_of bytes ∷ []) (split_in n (behind_first bytes)))
unfolding split_in
next n bytes ge whole = rw (le-ltb (length bytes) 9 ge, le-ltb (length bytes) (9 + payload_length bytes) whole) refl

shorter : (bytes : List ℕ) → length (behind_first bytes) ≡ length bytes - 9 - payload_length bytes
shorter bytes = length-drop (payload_length bytes) (drop 9 bytes) ∙ ap (λ n. n - payload_length bytes) (length-drop 9 bytes)

no_bytes : (bytes : List ℕ) → length bytes ≤ 0 → is_part bytes ≡ true
no_bytes bytes le = rw (lt-ltb (length bytes) 9 (omega arith)) refl

-- ---- how many frames there may be at most does not count, if it is enough

same : (m n : ℕ) (bytes : List ℕ) → length bytes ≤ m → length bytes ≤ n → ◌≡◌ {A = List Framed × List ℕ} (split_in m bytes) (split_in n bytes)
same zero n bytes lm ln = part zero bytes (no_bytes bytes lm) ∙ sym (part n bytes (no_bytes bytes lm))
same (suc m) zero bytes lm ln = part (suc m) bytes (no_bytes bytes ln) ∙ sym (part zero bytes (no_bytes bytes ln))
same (suc m) (suc n) bytes lm ln =
    elim (part_or_whole bytes) [
      | inl e ↦ part (suc m) bytes e ∙ sym (part (suc n) bytes e)
      | inr both ↦
          let fewer = shorter bytes in
          next m bytes both.0 both.1 ∙ ap (onto (first_of bytes ∷ [])) (same m n (behind_first bytes) (omega (arith, fewer)) (omega (arith, fewer))) ∙ sym (next n bytes both.0 both.1)
    ]

-- ---- bytes that come later

head_same : (first later : List ℕ) → 9 ≤ length first → payload_length (first ++ later) ≡ payload_length first
head_same first later ge = ap (λ h. (head_at h).length) (take-append-le 9 first later ge)

first_same : (first later : List ℕ) → 9 ≤ length first → 9 + payload_length first ≤ length first → first_of (first ++ later) ≡ first_of first
first_same first later ge whole =
    let dropped : drop 9 (first ++ later) ≡ drop 9 first ++ later = drop-append-le 9 first later ge in
    let long = length-drop 9 first in
    let payload : take (payload_length (first ++ later)) (drop 9 (first ++ later)) ≡ take (payload_length first) (drop 9 first) =
    ap (λ n. take n (drop 9 (first ++ later))) (head_same first later ge) ∙ ap (take (payload_length first)) dropped ∙ take-append-le (payload_length first) (drop 9 first) later (omega (arith, long)) in
    let made : List ℕ → List ℕ → Framed = λ h p. record { head = h; payload = p } in
    ap (λ h. made h (take (payload_length (first ++ later)) (drop 9 (first ++ later)))) (take-append-le 9 first later ge) ∙ ap (made (take 9 first)) payload

behind_same : (first later : List ℕ) → 9 ≤ length first → 9 + payload_length first ≤ length first → behind_first (first ++ later) ≡ behind_first first ++ later
behind_same first later ge whole =
    let long = length-drop 9 first in
    ap (λ n. drop n (drop 9 (first ++ later))) (head_same first later ge) ∙ ap (drop (payload_length first)) (drop-append-le 9 first later ge) ∙ drop-append-le (payload_length first) (drop 9 first) later (omega (arith, long))

later_part : (m k : ℕ) (first later : List ℕ) (split : List Framed × List ℕ) → ◌≡◌ {A = List Framed × List ℕ} split ([], first) → length (first ++ later) ≤ m → length (split.1 ++ later) ≤ k
    → ◌≡◌ {A = List Framed × List ℕ} (split_in m (first ++ later)) (onto split.0 (split_in k (split.1 ++ later)))
later_part m k first later split e lm lk =
    let few = rw e at lk in
    rw e (same m k (first ++ later) lm few)

later_frames : (n m k : ℕ) (first later : List ℕ) → length first ≤ n → length (first ++ later) ≤ m → length ((split_in n first).1 ++ later) ≤ k
    → ◌≡◌ {A = List Framed × List ℕ} (split_in m (first ++ later)) (onto (split_in n first).0 (split_in k ((split_in n first).1 ++ later)))
later_frames zero m k first later ln lm lk = later_part m k first later (split_in zero first) (part zero first (no_bytes first ln)) lm lk
later_frames (suc n) zero k first later ln lm lk =
    let sum = length-append first later in
    later_part zero k first later (split_in (suc n) first) (part (suc n) first (no_bytes first (omega (arith, sum)))) lm lk
later_frames (suc n) (suc m) k first later ln lm lk =
    elim (part_or_whole first) [
      | inl e ↦ later_part (suc m) k first later (split_in (suc n) first) (part (suc n) first e) lm lk
      | inr both ↦
          let sum = length-append first later in
          let here = next n first both.0 both.1 in
          let few = rw here at lk in
          let same_length = head_same first later both.0 in
          let there = next m (first ++ later) (omega (arith, sum)) (omega (arith, sum, same_length)) in
          let fewer = shorter first in
          let behind = behind_same first later both.0 both.1 in
          let rest = later_frames n m k (behind_first first) later (omega (arith, fewer)) (omega (arith, fewer, sum, length-append (behind_first first) later)) few in
          rw here (there ∙ ap (λ f. onto (f ∷ []) (split_in m (behind_first (first ++ later)))) (first_same first later both.0 both.1) ∙ ap (λ b. onto (first_of first ∷ []) (split_in m b)) behind ∙ ap (onto (first_of first ∷ [])) rest)
    ]

pub later : LaterFrames
later first more = later_frames (length first) (length (first ++ more)) (length ((frames_of first).1 ++ more)) first more (omega arith) (omega arith) (omega arith)

-- ---- the bytes are their frames and their rest

whole_first : (bytes : List ℕ) → framed_bytes (first_of bytes) ++ behind_first bytes ≡ bytes
whole_first bytes =
    append_assoc (take 9 bytes) (take (payload_length bytes) (drop 9 bytes)) (behind_first bytes) ∙ ap (λ b. take 9 bytes ++ b) (take-append-drop (payload_length bytes) (drop 9 bytes)) ∙ take-append-drop 9 bytes

is_framed : (bytes : List ℕ) → 9 ≤ length bytes → 9 + payload_length bytes ≤ length bytes → IsFramed (first_of bytes)
is_framed bytes ge whole =
    let long = length-drop 9 bytes in
    record { nine = length-take-le 9 bytes ge; whole = length-take-le (payload_length bytes) (drop 9 bytes) (omega (arith, long)) }

with_first : (bytes : List ℕ) (split : List Framed × List ℕ) → 9 ≤ length bytes → 9 + payload_length bytes ≤ length bytes → AreFrames (behind_first bytes) split → AreFrames bytes (onto (first_of bytes ∷ []) split)
with_first bytes split ge whole are = record {
  joined = append_assoc (framed_bytes (first_of bytes)) (flat_map framed_bytes split.0) split.1 ∙ ap (λ b. framed_bytes (first_of bytes) ++ b) are.joined ∙ whole_first bytes;
  each = All-cons IsFramed (first_of bytes) split.0 (is_framed bytes ge whole) are.each;
  rest = are.rest;
}

alone : (bytes : List ℕ) → is_part bytes ≡ true → AreFrames bytes ([], bytes)
alone bytes e = record { joined = refl; each = All-nil IsFramed; rest = e }

joined_in : (n : ℕ) (bytes : List ℕ) → length bytes ≤ n → AreFrames bytes (split_in n bytes)
joined_in zero bytes le = rw (part zero bytes (no_bytes bytes le)) (alone bytes (no_bytes bytes le))
joined_in (suc n) bytes le =
    elim (part_or_whole bytes) [
      | inl e ↦ rw (part (suc n) bytes e) (alone bytes e)
      | inr both ↦ let fewer = shorter bytes in rw (next n bytes both.0 both.1) (with_first bytes (split_in n (behind_first bytes)) both.0 both.1 (joined_in n (behind_first bytes) (omega (arith, fewer))))
    ]

pub joined : FramesJoined
joined bytes = joined_in (length bytes) bytes (omega arith)
