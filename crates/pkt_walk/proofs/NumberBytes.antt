-- The bytes of a number, most significant first.
use Rattle.std.proofs.Common.{◌≡◌, ◌∙◌, ℕ, suc, ◌+◌, ◌-◌, ◌*◌, ◌/◌, ◌%◌, ◌^◌, ◌∷◌, ◌++◌, length, take, drop, replicate, fold, sym, ap, arith}
use Rattle.std.proofs.lemmas.List.{append-nil}
use Rattle.canon_bytes.specs.Bits.{num}
use Rattle.packet_spec.specs.Choosing.{hashed}
use Rattle.pkt_bits.proofs.Low.{drop-low, take-low, number-low, length-low}
use Rattle.pkt_bits.specs.Field.{number_bits}
use Rattle.program_spec.specs.Numbers.{words, padded, bytes_of}

-- whole bytes are filled up with nothing
whole_bytes_of : (count number : ℕ) → bytes_of (number_bits (8 * count) number) ≡ words 8 count (number_bits (8 * count) number)
whole_bytes_of count number =
    let xs = number_bits (8 * count) number in
    let long : length xs ≡ 8 * count = length-low (8 * count) number in
    let none : (8 - length xs % 8) % 8 ≡ 0 = omega (arith, long) in
    let whole : padded 8 xs ≡ xs = ap (λ n. xs ++ replicate n 0) none ∙ append-nil xs in
    let so_many : length (padded 8 xs) / 8 ≡ count = ap (λ ys. length ys / 8) whole ∙ omega (arith, long) in
    ap (λ ys. words 8 (length (padded 8 xs) / 8) ys) whole ∙ ap (λ n. words 8 n xs) so_many

first_byte : (count number : ℕ) → num (take 8 (number_bits (8 * (count + 1)) number)) ≡ number / 2 ^ (8 * count) % 256
unfolding num
first_byte count number =
    ap num (take-low 8 (8 * count) (8 * (count + 1)) number (omega arith)) ∙ number-low 0 8 (number / 2 ^ (8 * count)) ∙ omega arith

-- a number's bytes are its first one and those behind it
pub next_byte : (count number : ℕ) → bytes_of (number_bits (8 * (count + 1)) number) ≡ (number / 2 ^ (8 * count) % 256) ∷ bytes_of (number_bits (8 * count) number)
next_byte count number =
    let more : count + 1 ≡ suc count = omega arith in
    whole_bytes_of (count + 1) number
    ∙ ap (λ n. words 8 n (number_bits (8 * (count + 1)) number)) more
    ∙ ap (λ byte. byte ∷ words 8 count (drop 8 (number_bits (8 * (count + 1)) number))) (first_byte count number)
    ∙ ap (λ xs. (number / 2 ^ (8 * count) % 256) ∷ words 8 count xs) (drop-low 8 (8 * count) (8 * (count + 1)) number (omega arith))
    ∙ ap (λ xs. (number / 2 ^ (8 * count) % 256) ∷ xs) (sym (whole_bytes_of count number))

-- the hash of a number's bytes is that of its first one and then of those behind it
pub hash_on : (hash count number byte next whole : ℕ) → byte ≡ number / 2 ^ (8 * count) % 256 → next ≡ hashed hash byte
    → fold hashed hash (bytes_of (number_bits (8 * (count + 1)) number)) ≡ whole → fold hashed next (bytes_of (number_bits (8 * count) number)) ≡ whole
hash_on hash count number byte next whole byte_is next_is so_far =
    let rest = bytes_of (number_bits (8 * count) number) in
    ap (λ n. fold hashed n rest) (next_is ∙ ap (hashed hash) byte_is) ∙ ap (fold hashed hash) (sym (next_byte count number)) ∙ so_far
