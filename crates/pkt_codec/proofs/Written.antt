-- The bytes of bits.
use Rattle.std.proofs.Common.{◌≡◌, ℕ, zero, suc, ◌+◌, ◌-◌, ◌*◌, ◌/◌, ◌%◌, ◌<◌, List, [], ◌∷◌, ◌++◌, length, get_or, drop, replicate, refl, ap, ◌∙◌, arith}
use Rattle.std.proofs.lemmas.List.{length-append, length-replicate}
use Rattle.canon_bytes.specs.Bits.{byte_bits, bits, num}
use Rattle.pkt_bits.proofs.Low.{number-low}
use Rattle.pkt_bits.proofs.Pieces.{length-bits}
use Rattle.program_spec.specs.Numbers.{words, padded, bytes_of}

-- the number of a byte's bits
byte_number : (b : ℕ) → b < 256 → num (byte_bits b) ≡ b
unfolding num
byte_number b lt = number-low 0 8 b ∙ omega arith

-- the bytes that bits are of
words_of_bits : (xs : List ℕ) → ((i : ℕ) → get_or xs i 0 < 256) → words 8 (length xs) (bits xs) ≡ xs
unfolding bits
words_of_bits [] small = refl
words_of_bits (x ∷ xs) small =
    ap (λ n. n ∷ words 8 (length xs) (bits xs)) (byte_number x (small 0)) ∙ ap (λ ys. x ∷ ys) (words_of_bits xs (λ i. small (suc i)))

append-nil : (xs : List ℕ) → xs ++ [] ≡ xs
append-nil [] = refl
append-nil (x ∷ xs) = ap (λ ys. x ∷ ys) (append-nil xs)

pub bytes_of_bits : (xs : List ℕ) → ((i : ℕ) → get_or xs i 0 < 256) → bytes_of (bits xs) ≡ xs
bytes_of_bits xs small =
    let none : (8 - length (bits xs) % 8) % 8 ≡ 0 = omega (arith, length-bits xs) in
    let whole : padded 8 (bits xs) ≡ bits xs = ap (λ n. bits xs ++ replicate n 0) none ∙ append-nil (bits xs) in
    let number : length (padded 8 (bits xs)) / 8 ≡ length xs = ap (λ ys. length ys / 8) whole ∙ omega (arith, length-bits xs) in
    ap (λ ys. words 8 (length (padded 8 (bits xs)) / 8) ys) whole ∙ ap (λ n. words 8 n (bits xs)) number ∙ words_of_bits xs small

length-words : (width number : ℕ) (xs : List ℕ) → length (words width number xs) ≡ number
length-words width zero xs = refl
length-words width (suc number) xs = ap suc (length-words width number (drop width xs))

-- more bits than those of so many bytes are those of more bytes
pub more_bytes : (xs : List ℕ) (n : ℕ) → 8 * n < length xs → n < length (bytes_of xs)
more_bytes xs n lt =
    let long : length (padded 8 xs) ≡ length xs + (8 - length xs % 8) % 8 =
    length-append xs (replicate ((8 - length xs % 8) % 8) 0) ∙ ap (λ k. length xs + k) (length-replicate ((8 - length xs % 8) % 8) 0) in
    omega (arith, length-words 8 (length (padded 8 xs) / 8) (padded 8 xs), long)
