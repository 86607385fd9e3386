-- The number that the bits of bytes spell is that of the bytes as digits.
use Rattle.std.proofs.Common.{◌≡◌, ℕ, ◌+◌, ◌*◌, ◌%◌, ◌<◌, ◌≤◌, List, [], ◌∷◌, ◌++◌, length, get_or, take, drop, refl, sym, ap, ◌∙◌, arith}
use Rattle.std.proofs.lemmas.List.{take_more, take-append-drop}
use Rattle.std.proofs.lemmas.Grind.{flat_map-append}
use Rattle.std.proofs.lemmas.Int.Digits.{number_after_append, number_after_ge}
use Rattle.std.proofs.Math.Nat.{mod-eq_of_lt}
use Rattle.std.specs.List.{flat_map}
use Rattle.std.specs.Int.Digits.{number_from_digits_after, number_from_digits, AllBelowBase}
use Rattle.canon_bytes.specs.Bits.{byte_bits, bits, num}

-- a byte's bits after others
byte_after : (n b : ℕ) → number_from_digits_after 2 n (byte_bits b) ≡ n * 256 + b % 256
byte_after n b = omega arith

pub bits-append : (xs ys : List ℕ) → bits (xs ++ ys) ≡ bits xs ++ bits ys
unfolding bits
bits-append xs ys = flat_map-append byte_bits xs ys

number_bits : (n : ℕ) (bytes : List ℕ) → AllBelowBase 256 bytes → number_from_digits_after 2 n (flat_map byte_bits bytes) ≡ number_from_digits_after 256 n bytes
number_bits n [] all = refl
number_bits n (b ∷ bytes) all =
    number_after_append 2 n (byte_bits b) (flat_map byte_bits bytes)
    ∙ ap (λ x. number_from_digits_after 2 x (flat_map byte_bits bytes)) (byte_after n b ∙ ap (λ x. n * 256 + x) (mod-eq_of_lt all.0))
    ∙ number_bits (n * 256 + b) bytes all.1

pub num-bits : (bytes : List ℕ) → AllBelowBase 256 bytes → num (bits bytes) ≡ number_from_digits 256 bytes
unfolding bits num
num-bits bytes all = number_bits 0 bytes all

pub num_none : num (bits []) ≡ 0
unfolding bits num
num_none = refl

num_push : (bytes : List ℕ) (b : ℕ) → num (bits (bytes ++ b ∷ [])) ≡ num (bits bytes) * 256 + b % 256
unfolding bits num
num_push bytes b =
    ap (number_from_digits 2) (flat_map-append byte_bits bytes (b ∷ []))
    ∙ number_after_append 2 0 (flat_map byte_bits bytes) (byte_bits b)
    ∙ byte_after (num (bits bytes)) b

-- one more byte is read
pub num_more : (bytes : List ℕ) (i : ℕ) → i < length bytes → num (bits (take (i + 1) bytes)) ≡ num (bits (take i bytes)) * 256 + get_or bytes i 0 % 256
num_more bytes i lt = ap (λ x. num (bits x)) (take_more bytes i 0 lt) ∙ num_push (take i bytes) (get_or bytes i 0)

-- further bytes make a number no smaller
pub num-take-le : (bytes : List ℕ) (i : ℕ) → num (bits (take i bytes)) ≤ num (bits bytes)
unfolding num
num-take-le bytes i =
    let whole : num (bits bytes) ≡ number_from_digits_after 2 (num (bits (take i bytes))) (bits (drop i bytes)) =
    ap (λ x. num (bits x)) (sym (take-append-drop i bytes)) ∙ ap num (bits-append (take i bytes) (drop i bytes)) ∙ number_after_append 2 0 (bits (take i bytes)) (bits (drop i bytes)) in
    rw whole (number_after_ge 2 (num (bits (take i bytes))) (bits (drop i bytes)) (omega arith))
