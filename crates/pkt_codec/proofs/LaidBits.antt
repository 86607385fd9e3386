-- Bits that are laid end to end, and words that are written for them.
use Rattle.std.proofs.Common.{◌≡◌, ℕ, zero, suc, ◌+◌, ◌*◌, ◌/◌, ◌%◌, ◌^◌, ◌<◌, ◌≤◌, List, ◌∷◌, ◌++◌, length, take, drop, refl, sym, ap, ◌∙◌, arith, append_assoc}
use Rattle.std.proofs.lemmas.List.{length-append, length-take-le, take-append-drop}
use Rattle.std.proofs.lemmas.Nat.{shl_whole, div-mul-add, mul-add-lt, mod_below, pow_pos, pow-add}
use Rattle.std.proofs.Math.Seq.{take-append_seam}
use Rattle.std.specs.Int.{bytes_high_first, byte_at}
use Rattle.std.specs.List.{splice}
use Rattle.canon_bytes.specs.Bits.{bits}
use Rattle.pkt_bits.specs.Field.{number_bits}
use Rattle.pkt_bits.proofs.Low.{low-cat}
use Rattle.pkt_bits.proofs.Pieces.{length-bits, drop-bits}
use Rattle.pkt_codec.proofs.Runs.{bits-append, bits_of_cut}
use Rattle.pkt_codec.proofs.Weights.{bits_split}

-- ---- a number behind others in a word

pub word_whole : (word filled width : ℕ) → word < 2 ^ filled → filled + width ≤ 64 → word * 2 ^ width % 2 ^ 64 ≡ word * 2 ^ width
word_whole word filled width fits room = shl_whole word filled width 64 fits room

pub word_fits : (word filled width low : ℕ) → word < 2 ^ filled → low < 2 ^ width → word * 2 ^ width + low < 2 ^ (filled + width)
word_fits word filled width low fits small = omega (arith, mul-add-lt word (2 ^ width) low (2 ^ filled) fits small, swapped)
  where
    swapped : 2 ^ (filled + width) ≡ 2 ^ width * 2 ^ filled
    swapped = pow-add 2 filled width ∙ omega arith

pub word_bits : (word filled width number low : ℕ) → low ≡ number % 2 ^ width → number_bits (filled + width) (word * 2 ^ width + low) ≡ number_bits filled word ++ number_bits width number
word_bits word filled width number low low_is =
    let n = word * 2 ^ width + low in
    let small : low < 2 ^ width = rw low_is (mod_below number (2 ^ width) (pow_pos width)) in
    let high : n / 2 ^ width ≡ word = div-mul-add word (2 ^ width) low small in
    let lowest : number_bits width n ≡ number_bits width number = low-cat width width word low (omega arith) ∙ ap (number_bits width) low_is ∙ bits_of_cut width number in
    bits_split filled width n ∙ ap (λ w. number_bits filled w ++ number_bits width n) high ∙ ap (λ xs. number_bits filled word ++ xs) lowest

-- ---- a word that is written

byte_is : (k n : ℕ) → byte_at k n ≡ n / 2 ^ (k * 8) % 2 ^ 8
byte_is zero n = omega arith
byte_is (suc k) n = ap (λ m. n / m % 256) (powers (suc k))
  where
    powers : (i : ℕ) → 256 ^ i ≡ 2 ^ (i * 8)
    powers zero = refl
    powers (suc i) =
        let next : suc i * 8 ≡ 8 + i * 8 = omega arith in
        omega (arith, powers i, pow-add 2 8 (i * 8), ap (λ n. 2 ^ n) next)

bits-cons : (b : ℕ) (bytes : List ℕ) → bits (b ∷ bytes) ≡ number_bits 8 b ++ bits bytes
unfolding bits
bits-cons b bytes = refl

-- the bits of a number's bytes are those of the number
bytes_bits : (k n : ℕ) → bits (bytes_high_first k n) ≡ number_bits (k * 8) n
unfolding bits
bytes_bits zero n = refl
bytes_bits (suc k) n =
    let whole : 8 + k * 8 ≡ suc k * 8 = omega arith in
    bits-cons (byte_at k n) (bytes_high_first k n)
    ∙ ap (λ b. number_bits 8 b ++ bits (bytes_high_first k n)) (byte_is k n)
    ∙ ap (λ xs. xs ++ bits (bytes_high_first k n)) (bits_of_cut 8 (n / 2 ^ (k * 8)))
    ∙ ap (λ xs. number_bits 8 (n / 2 ^ (k * 8)) ++ xs) (bytes_bits k n)
    ∙ sym (bits_split 8 (k * 8) n)
    ∙ ap (λ m. number_bits m n) whole

take-bits : (i : ℕ) (bytes : List ℕ) → i ≤ length bytes → bits (take i bytes) ≡ take (i * 8) (bits bytes)
take-bits i bytes le =
    let front = bits (take i bytes) in
    let long : length front ≡ i * 8 = length-bits (take i bytes) ∙ ap (λ n. n * 8) (length-take-le i bytes le) in
    sym (take-append_seam front (bits (drop i bytes))) ∙ ap (λ n. take n (front ++ bits (drop i bytes))) long
    ∙ ap (take (i * 8)) (sym (bits-append (take i bytes) (drop i bytes)) ∙ ap bits (take-append-drop i bytes))

-- eight bytes that take the place of others
pub eight_put : (bytes new ys : List ℕ) (place word : ℕ) → place + 8 ≤ length bytes → take (place + 8) new ≡ take place bytes ++ ys → drop (place + 8) new ≡ drop (place + 8) bytes
    → ys ≡ bytes_high_first 8 word → bits new ≡ splice (bits bytes) (place * 8) (place * 8 + 64) (number_bits 64 word)
eight_put bytes new ys place word le front back is =
    let end : (place + 8) * 8 ≡ place * 8 + 64 = omega arith in
    let rest : bits (drop (place + 8) bytes) ≡ drop (place * 8 + 64) (bits bytes) = sym (drop-bits (place + 8) bytes) ∙ ap (λ n. drop n (bits bytes)) end in
    ap bits (sym (take-append-drop (place + 8) new) ∙ ap (λ xs. xs ++ drop (place + 8) new) front ∙ ap (λ xs. (take place bytes ++ ys) ++ xs) back)
    ∙ bits-append (take place bytes ++ ys) (drop (place + 8) bytes)
    ∙ ap (λ xs. xs ++ bits (drop (place + 8) bytes)) (bits-append (take place bytes) ys)
    ∙ append_assoc (bits (take place bytes)) (bits ys) (bits (drop (place + 8) bytes))
    ∙ ap (λ xs. xs ++ (bits ys ++ bits (drop (place + 8) bytes))) (take-bits place bytes (omega arith))
    ∙ ap (λ xs. take (place * 8) (bits bytes) ++ (xs ++ bits (drop (place + 8) bytes))) (ap bits is ∙ bytes_bits 8 word)
    ∙ ap (λ xs. take (place * 8) (bits bytes) ++ (number_bits 64 word ++ xs)) rest

-- ---- what is written so far

pub spliced : (old ys : List ℕ) (at n : ℕ) → length ys ≡ n → at ≤ length old → take (at + n) (splice old at (at + n) ys) ≡ take at old ++ ys
spliced old ys at n long le =
    let front = take at old ++ ys in
    let end : length front ≡ at + n = length-append (take at old) ys ∙ ap (λ m. m + length ys) (length-take-le at old le) ∙ omega (arith, long) in
    ap (take (at + n)) (sym (append_assoc (take at old) ys (drop (at + n) old))) ∙ ap (λ m. take m (front ++ drop (at + n) old)) (sym end) ∙ take-append_seam front (drop (at + n) old)
