-- Runs of the bits of bytes: those within one byte, and one run after another.
use Rattle.std.proofs.Common.{◌≡◌, ℕ, zero, suc, ◌+◌, ◌-◌, ◌*◌, ◌/◌, ◌%◌, ◌^◌, ◌<◌, ◌≤◌, List, [], ◌∷◌, ◌++◌, length, get_or, set, take, drop, refl, sym, ap, ◌∙◌, arith, lit<, drop-drop}
use Rattle.std.proofs.lemmas.List.{take-append-drop, drop_more, take-append-le, drop-append-le, length-drop, length-take-le, take-set, drop-set-lt, drop-take, take-take, length-take, get_or-set_same, length-set}
use Rattle.std.proofs.lemmas.Nat.{shr_high, mod_low, shr_split, shr_below, mul-add-lt, pow-add, mod_below, pow_pos, one_shl, and_mask, or_shifted, shl_whole, shr-shr}
use Rattle.std.proofs.lemmas.Int.Digits.{number_after_append, number_lt}
use Rattle.std.proofs.Math.Seq.{drop-append-add, take-append-add, take-add}
use Rattle.std.specs.Int.Bits.{bit_and, bit_or}
use Rattle.std.specs.List.{splice}
use Rattle.std.specs.Int.Digits.{number_from_digits_after, AllBelowBase}
use Rattle.canon_bytes.specs.Bits.{bits, num}
use Rattle.pkt_bits.specs.Field.{field, SameOutside}
use Rattle.pkt_bits.specs.Field.{number_bits as low}
use Rattle.pkt_bits.proofs.Low.{drop-low, take-low, number-low, low-cat, length-low, below-low, below-append, below-drop, below-take, number_behind}
use Rattle.std.proofs.Math.Nat.{mul_comm, mod-eq_of_lt, div-eq_of_lt, pow-le-pow_right}

-- ---- bits of bytes

bits-cons : (b : ℕ) (bytes : List ℕ) → bits (b ∷ bytes) ≡ low 8 b ++ bits bytes
unfolding bits
bits-cons b bytes = refl

bits-nil : bits [] ≡ []
unfolding bits
bits-nil = refl

pub length-bits : (bytes : List ℕ) → length (bits bytes) ≡ length bytes * 8
length-bits [] = rw bits-nil refl
length-bits (b ∷ bytes) = rw bits-cons (omega (arith, length-bits bytes))

drop-none : (n : ℕ) → drop {A = ℕ} n [] ≡ []
drop-none zero = refl
drop-none (suc n) = refl

pub drop-bits : (i : ℕ) (bytes : List ℕ) → drop (i * 8) (bits bytes) ≡ bits (drop i bytes)
drop-bits zero bytes = refl
drop-bits (suc i) [] = rw bits-nil (drop-none _)
drop-bits (suc i) (b ∷ bytes) =
    let next : suc i * 8 ≡ 8 + i * 8 = omega arith in
    ap (λ n. drop n (bits (b ∷ bytes))) next ∙ ap (drop (8 + i * 8)) (bits-cons b bytes)
    ∙ drop-append-add (low 8 b) (bits bytes) (i * 8) ∙ drop-bits i bytes

take-none : (n : ℕ) → take {A = ℕ} n [] ≡ []
take-none zero = refl
take-none (suc n) = refl

take-bits : (i : ℕ) (bytes : List ℕ) → take (i * 8) (bits bytes) ≡ bits (take i bytes)
take-bits zero bytes = sym bits-nil
take-bits (suc i) [] = rw bits-nil (take-none _)
take-bits (suc i) (b ∷ bytes) =
    let next : suc i * 8 ≡ 8 + i * 8 = omega arith in
    ap (λ n. take n (bits (b ∷ bytes))) next ∙ ap (take (8 + i * 8)) (bits-cons b bytes)
    ∙ take-append-add (low 8 b) (bits bytes) (i * 8) ∙ ap (λ x. low 8 b ++ x) (take-bits i bytes) ∙ sym (bits-cons b (take i bytes))

-- the bits from a byte's on
from_byte : (i : ℕ) (bytes : List ℕ) → i < length bytes → drop (i * 8) (bits bytes) ≡ low 8 (get_or bytes i 0) ++ bits (drop (i + 1) bytes)
from_byte i bytes lt = drop-bits i bytes ∙ ap bits (drop_more bytes i 0 lt) ∙ bits-cons _ _

-- the bits from one within a byte on
from_bit : (i off k : ℕ) (bytes : List ℕ) → i < length bytes → off + k ≡ 8
    → drop (i * 8 + off) (bits bytes) ≡ low k (get_or bytes i 0) ++ bits (drop (i + 1) bytes)
from_bit i off k bytes lt e =
    let short : off ≤ length (low 8 (get_or bytes i 0)) = omega (arith, length-low 8 (get_or bytes i 0)) in
    sym (drop-drop off (i * 8) (bits bytes)) ∙ ap (drop off) (from_byte i bytes lt)
    ∙ drop-append-le off (low 8 (get_or bytes i 0)) (bits (drop (i + 1) bytes)) short
    ∙ ap (λ x. x ++ bits (drop (i + 1) bytes)) (drop-low off k 8 (get_or bytes i 0) e)

-- the bits of a field within a byte
within : (i off n r : ℕ) (bytes : List ℕ) → i < length bytes → off + n + r ≡ 8
    → take n (drop (i * 8 + off) (bits bytes)) ≡ low n (get_or bytes i 0 / 2 ^ r)
within i off n r bytes lt e =
    let short : n ≤ length (low (n + r) (get_or bytes i 0)) = omega (arith, length-low (n + r) (get_or bytes i 0)) in
    ap (take n) (from_bit i off (n + r) bytes lt (omega arith))
    ∙ take-append-le n (low (n + r) (get_or bytes i 0)) (bits (drop (i + 1) bytes)) short
    ∙ take-low n r (n + r) (get_or bytes i 0) refl

-- the number of a field within a byte
pub field_in_byte : (at i off n r : ℕ) (bytes : List ℕ) → at ≡ i * 8 + off → i < length bytes → off + n + r ≡ 8
    → field bytes at n ≡ get_or bytes i 0 / 2 ^ r % 2 ^ n
unfolding field num
field_in_byte at i off n r bytes place lt e =
    ap (λ x. num (take n (drop x (bits bytes)))) place ∙ ap num (within i off n r bytes lt e)
    ∙ number-low 0 n (get_or bytes i 0 / 2 ^ r) ∙ omega arith

-- ---- one byte written

-- the bits before one within a byte
before_bit : (i off k : ℕ) (bytes : List ℕ) → i < length bytes → off + k ≡ 8
    → take (i * 8 + off) (bits bytes) ≡ bits (take i bytes) ++ low off (get_or bytes i 0 / 2 ^ k)
before_bit i off k bytes lt e =
    let short : off ≤ length (low 8 (get_or bytes i 0)) = omega (arith, length-low 8 (get_or bytes i 0)) in
    take-add (i * 8) off (bits bytes)
    ∙ ap (λ x. x ++ take off (drop (i * 8) (bits bytes))) (take-bits i bytes)
    ∙ ap (λ x. bits (take i bytes) ++ x)
    (ap (take off) (from_byte i bytes lt)
    ∙ take-append-le off (low 8 (get_or bytes i 0)) (bits (drop (i + 1) bytes)) short
    ∙ take-low off k 8 (get_or bytes i 0) e)

-- `high` above, `value` in the field and `rest` below, as one number
abbrev pub made : ℕ → ℕ → ℕ → ℕ → ℕ → ℕ
made high n value r rest = high * 2 ^ (n + r) + (value * 2 ^ r + rest)

field_below : (n value r rest : ℕ) → value < 2 ^ n → rest < 2 ^ r → value * 2 ^ r + rest < 2 ^ (n + r)
field_below n value r rest fits small = omega (arith, mul-add-lt value (2 ^ r) rest (2 ^ n) fits small, pow-add 2 n r, mul_comm (2 ^ r) (2 ^ n))

regroup : (high n value r rest : ℕ) → made high n value r rest ≡ (high * 2 ^ n + value) * 2 ^ r + rest
regroup high n value r rest =
    ap (λ x. high * x + (value * 2 ^ r + rest)) (pow-add 2 n r) ∙ spread high (2 ^ n) value (2 ^ r) rest
  where
    spread : (a b c d e : ℕ) → a * (b * d) + (c * d + e) ≡ (a * b + c) * d + e
    spread a b c d e = omega arith

pub made_fits : (off n r value old : ℕ) → off + n + r ≡ 8 → value < 2 ^ n → old < 256 → made (old / 2 ^ (n + r)) n value r (old % 2 ^ r) < 256
made_fits off n r value old e fits small =
    let rest : old % 2 ^ r < 2 ^ r = mod_below old (2 ^ r) (pow_pos r) in
    let two : old < 2 ^ (off + (n + r)) = (let e : off + (n + r) ≡ 8 = omega arith in rw e small) in
    let high : old / 2 ^ (n + r) < 2 ^ off = shr_below old off (n + r) two in
    let all : 2 ^ (n + r) * 2 ^ off ≡ 256 = sym (pow-add 2 (n + r) off) ∙ (let e : n + r + off ≡ 8 = omega arith in ap (λ x. 2 ^ x) e) in
    omega (arith, mul-add-lt (old / 2 ^ (n + r)) (2 ^ (n + r)) (value * 2 ^ r + old % 2 ^ r) (2 ^ off) high (field_below n value r (old % 2 ^ r) fits rest), all)

-- ---- one byte written

field_written : (at i off n r value high rest : ℕ) (bytes : List ℕ) → at ≡ i * 8 + off → i < length bytes → off + n + r ≡ 8 → value < 2 ^ n → rest < 2 ^ r
    → field (set bytes i (made high n value r rest)) at n ≡ value
field_written at i off n r value high rest bytes place lt e fits small =
    let b = made high n value r rest in
    field_in_byte at i off n r (set bytes i b) place (rw (length-set bytes i b) lt) e
    ∙ ap (λ x. x / 2 ^ r % 2 ^ n) (get_or-set_same bytes i b 0 lt ∙ regroup high n value r rest)
    ∙ ap (λ x. x % 2 ^ n) (shr_high (high * 2 ^ n + value) r rest small) ∙ mod_low high n value fits

before_written : (i off n r b : ℕ) (bytes : List ℕ) → i < length bytes → off + n + r ≡ 8 → b / 2 ^ (n + r) ≡ get_or bytes i 0 / 2 ^ (n + r)
    → take (i * 8 + off) (bits (set bytes i b)) ≡ take (i * 8 + off) (bits bytes)
before_written i off n r b bytes lt e same =
    before_bit i off (n + r) (set bytes i b) (rw (length-set bytes i b) lt) (omega arith)
    ∙ ap (λ x. bits x ++ low off (get_or (set bytes i b) i 0 / 2 ^ (n + r))) (take-set bytes i b)
    ∙ ap (λ x. bits (take i bytes) ++ low off x) (ap (λ x. x / 2 ^ (n + r)) (get_or-set_same bytes i b 0 lt) ∙ same)
    ∙ sym (before_bit i off (n + r) bytes lt (omega arith))

after_written : (i off r b : ℕ) (bytes : List ℕ) → i < length bytes → off + r ≡ 8 → low r b ≡ low r (get_or bytes i 0)
    → drop (i * 8 + off) (bits (set bytes i b)) ≡ drop (i * 8 + off) (bits bytes)
after_written i off r b bytes lt e same =
    from_bit i off r (set bytes i b) (rw (length-set bytes i b) lt) e
    ∙ ap (λ x. low r x ++ bits (drop (i + 1) (set bytes i b))) (get_or-set_same bytes i b 0 lt)
    ∙ ap (λ x. x ++ bits (drop (i + 1) (set bytes i b))) same
    ∙ ap (λ x. low r (get_or bytes i 0) ++ bits x) (drop-set-lt (i + 1) bytes i b (omega arith))
    ∙ sym (from_bit i off r bytes lt e)

low_rest : (n r value high old : ℕ) → low r (made high n value r (old % 2 ^ r)) ≡ low r old
low_rest n r value high old =
    ap (low r) (regroup high n value r (old % 2 ^ r)) ∙ low-cat r r (high * 2 ^ n + value) (old % 2 ^ r) (omega arith)
    ∙ sym (low-cat r r (old / 2 ^ r) (old % 2 ^ r) (omega arith)) ∙ ap (low r) (shr_split old r)

-- The byte at `i` gets `value` in the field, and keeps its other bits.
pub written : (at i off n r value : ℕ) (bytes : List ℕ) → at ≡ i * 8 + off → i < length bytes → off + n + r ≡ 8 → value < 2 ^ n
    → (b : ℕ) → b ≡ made (get_or bytes i 0 / 2 ^ (n + r)) n value r (get_or bytes i 0 % 2 ^ r)
    → (field (set bytes i b) at n ≡ value) × SameOutside bytes (set bytes i b) at n
written at i off n r value bytes place lt e fits b b_is =
    let old = get_or bytes i 0 in
    let small : old % 2 ^ r < 2 ^ r = mod_below old (2 ^ r) (pow_pos r) in
    let top : b / 2 ^ (n + r) ≡ old / 2 ^ (n + r) =
    ap (λ x. x / 2 ^ (n + r)) b_is ∙ shr_high (old / 2 ^ (n + r)) (n + r) (value * 2 ^ r + old % 2 ^ r) (field_below n value r (old % 2 ^ r) fits small) in
    let bottom : low r b ≡ low r old = ap (low r) b_is ∙ low_rest n r value (old / 2 ^ (n + r)) old in
    let next : at + n ≡ i * 8 + (off + n) = omega arith in (
      ap (λ x. field (set bytes i x) at n) b_is ∙ field_written at i off n r value (old / 2 ^ (n + r)) (old % 2 ^ r) bytes place lt e fits small,
      record {
        as_long = length-set bytes i b;
        before = rw place (before_written i off n r b bytes lt e top);
        after = rw next (after_written i (off + n) r b bytes lt e bottom);
      },
    )

-- ---- one field after another

below_bits : (bytes : List ℕ) → AllBelowBase 2 (bits bytes)
below_bits [] = rw bits-nil tt
below_bits (b ∷ bytes) = rw bits-cons (below-append (low 8 b) (bits bytes) (below-low 8 b) (below_bits bytes))

pub field-lt : (bytes : List ℕ) (bit n : ℕ) → field bytes bit n < 2 ^ n
unfolding field num
field-lt bytes bit n =
    let few : length (take n (drop bit (bits bytes))) ≤ n = omega (arith, length-take n (drop bit (bits bytes))) in
    omega (
      arith,
      number_lt 2 (take n (drop bit (bits bytes))) (below-take n _ (below-drop bit _ (below_bits bytes))),
      pow-le-pow_right {n = 2} (lit< tt) {i = length (take n (drop bit (bits bytes)))} {j = n} few,
    )

pub field_none : (bytes : List ℕ) (bit : ℕ) → field bytes bit 0 ≡ 0
unfolding field num
field_none bytes bit = refl

-- a field is its first bits and the rest
pub field_more : (bytes : List ℕ) (bit a at n : ℕ) → at ≡ bit + a → at + n ≤ 8 * length bytes → field bytes bit (a + n) ≡ field bytes bit a * 2 ^ n + field bytes at n
unfolding field num
field_more bytes bit a at n place le =
    let rest = drop bit (bits bytes) in
    let here : drop a rest ≡ drop at (bits bytes) = drop-drop a bit (bits bytes) ∙ ap (λ x. drop x (bits bytes)) (sym place) in
    let long : length (take n (drop at (bits bytes))) ≡ n = length-take-le n (drop at (bits bytes)) (omega (arith, length-drop at (bits bytes), length-bits bytes)) in
    ap (number_from_digits_after 2 0) (take-add a n rest)
    ∙ number_after_append 2 0 (take a rest) (take n (drop a rest))
    ∙ ap (λ x. number_from_digits_after 2 (number_from_digits_after 2 0 (take a rest)) (take n x)) here
    ∙ number_behind (number_from_digits_after 2 0 (take a rest)) (take n (drop at (bits bytes)))
    ∙ ap (λ x. number_from_digits_after 2 0 (take a rest) * 2 ^ x + number_from_digits_after 2 0 (take n (drop at (bits bytes)))) long

-- ---- what the code computes

-- a byte without its `r` low bits, cut to `n` bits
pub chunk_is : (old n r : ℕ) → n ≤ 8 → bit_and (old / 2 ^ r) (1 * 2 ^ n % 4294967296 - 1) ≡ old / 2 ^ r % 2 ^ n
chunk_is old n r le = ap (λ x. bit_and (old / 2 ^ r) (x - 1)) (one_shl n 32 (omega arith)) ∙ and_mask (old / 2 ^ r) n

pub made_byte : (off n r k value old : ℕ) → k ≡ n + r → off + n + r ≡ 8 → value < 2 ^ n → old < 256 → old / 2 ^ k * 2 ^ k + (value * 2 ^ r + old % 2 ^ r) < 256
made_byte off n r k value old e whole fits small = rw e (made_fits off n r value old whole fits small)

-- the byte that is written
pub with_chunk_is : (old off n r k value : ℕ) → k ≡ n + r → off + n + r ≡ 8 → old < 256 → value < 2 ^ n
    → bit_or (bit_or (old / 2 ^ k * 2 ^ k % 4294967296) (value * 2 ^ r % 4294967296)) (bit_and old (1 * 2 ^ r % 4294967296 - 1))
    ≡ old / 2 ^ k * 2 ^ k + (value * 2 ^ r + old % 2 ^ r)
with_chunk_is old off n r k value turned e small fits =
    let fit : old / 2 ^ k * 2 ^ k + (value * 2 ^ r + old % 2 ^ r) < 256 = made_byte off n r k value old turned e fits small in
    let rest : old % 2 ^ r < 2 ^ r = mod_below old (2 ^ r) (pow_pos r) in
    let field_fits : value * 2 ^ r + old % 2 ^ r < 2 ^ k = rw turned (field_below n value r (old % 2 ^ r) fits rest) in
    let value_fits : value * 2 ^ r < 2 ^ k = omega arith in
    let high : old / 2 ^ k * 2 ^ k % 4294967296 ≡ old / 2 ^ k * 2 ^ k = mod-eq_of_lt (omega arith) in
    let mid : value * 2 ^ r % 4294967296 ≡ value * 2 ^ r = mod-eq_of_lt (omega arith) in
    let one : bit_and old (1 * 2 ^ r % 4294967296 - 1) ≡ old % 2 ^ r =
    ap (λ x. bit_and old (x - 1)) (one_shl r 32 (omega arith)) ∙ and_mask old r in
    let upper : old / 2 ^ k * 2 ^ k + value * 2 ^ r ≡ (old / 2 ^ k * 2 ^ n + value) * 2 ^ r =
    ap (λ x. old / 2 ^ k * x + value * 2 ^ r) (ap (λ x. 2 ^ x) turned ∙ pow-add 2 n r) ∙ spread (old / 2 ^ k) (2 ^ n) value (2 ^ r) in
    ap (λ x. bit_or (bit_or x (value * 2 ^ r % 4294967296)) (bit_and old (1 * 2 ^ r % 4294967296 - 1))) high
    ∙ ap (λ x. bit_or (bit_or (old / 2 ^ k * 2 ^ k) x) (bit_and old (1 * 2 ^ r % 4294967296 - 1))) mid
    ∙ ap (λ x. bit_or (bit_or (old / 2 ^ k * 2 ^ k) (value * 2 ^ r)) x) one
    ∙ ap (λ x. bit_or x (old % 2 ^ r)) (or_shifted (old / 2 ^ k) k (value * 2 ^ r) value_fits ∙ upper)
    ∙ or_shifted (old / 2 ^ k * 2 ^ n + value) r (old % 2 ^ r) rest
    ∙ ap (λ x. x + old % 2 ^ r) (sym upper) ∙ omega arith
  where
    spread : (a b c d : ℕ) → a * (b * d) + c * d ≡ (a * b + c) * d
    spread a b c d = omega arith

-- the next bits of a value, and the value as far as they reach
pub part_is : (value size bits : ℕ) → size < bits → bit_and value (1 * 2 ^ size % 2 ^ bits - 1) ≡ value % 2 ^ size
part_is value size bits lt = ap (λ x. bit_and value (x - 1)) (one_shl size bits lt) ∙ and_mask value size

pub part_more : (value left size : ℕ) → size ≤ left → value / 2 ^ left * 2 ^ size + value / 2 ^ (left - size) % 2 ^ size ≡ value / 2 ^ (left - size)
part_more value left size le =
    let whole : left - size + size ≡ left = omega arith in
    ap (λ x. x * 2 ^ size + value / 2 ^ (left - size) % 2 ^ size) (sym (shr-shr value (left - size) size ∙ ap (λ x. value / 2 ^ x) whole))
    ∙ shr_split (value / 2 ^ (left - size)) size

-- one chunk more of a number is written
pub put_more : (old new : List ℕ) (bit a at n : ℕ) → at ≡ bit + a → at + n ≤ 8 * length new → SameOutside old new at n → field new bit (a + n) ≡ field old bit a * 2 ^ n + field new at n
unfolding field
put_more old new bit a at n place le same =
    let here : take a (drop bit (bits new)) ≡ take a (drop bit (bits old)) =
    sym (drop-take bit a (bits new)) ∙ ap (λ x. drop bit (take x (bits new))) (sym place) ∙ ap (drop bit) same.before
    ∙ ap (λ x. drop bit (take x (bits old))) place ∙ drop-take bit a (bits old) in
    field_more new bit a at n place le ∙ ap (λ x. num x * 2 ^ n + num (take n (drop at (bits new)))) here

pub same_more : (old new newer : List ℕ) (bit a at n : ℕ) → at ≡ bit + a → SameOutside old new bit a → SameOutside new newer at n → SameOutside old newer bit (a + n)
same_more old new newer bit a at n place first then = record {
  as_long = then.as_long ∙ first.as_long;
  before =
      sym (take-take bit at (bits newer) (omega arith)) ∙ ap (take bit) then.before ∙ take-take bit at (bits new) (omega arith) ∙ first.before;
  after =
      let end : bit + (a + n) ≡ at + n = omega arith in
      let next : at + n ≡ bit + a + n = omega arith in
      ap (λ x. drop x (bits newer)) end ∙ then.after ∙ ap (λ x. drop x (bits new)) next
      ∙ sym (drop-drop n (bit + a) (bits new)) ∙ ap (drop n) first.after ∙ drop-drop n (bit + a) (bits old)
      ∙ ap (λ x. drop x (bits old)) (sym next ∙ sym end);
}

pub same_none : (old : List ℕ) (bit : ℕ) → SameOutside old old bit 0
same_none old bit = record { as_long = refl; before = refl; after = refl }

-- ---- one turn of each loop

-- a whole byte more
pub byte_more : (bytes : List ℕ) (place bit a next : ℕ) → place * 8 ≡ bit + a → place < length bytes → next ≡ get_or bytes place 0 / 2 ^ 0 % 2 ^ 8
    → field bytes bit a * 256 + next ≡ field bytes bit (a + 8)
byte_more bytes place bit a next here lt next_is =
    let chunk : field bytes (bit + a) 8 ≡ next = field_in_byte (bit + a) place 0 8 0 bytes (omega arith) lt refl ∙ sym next_is in
    ap (λ x. field bytes bit a * 256 + x) (sym chunk) ∙ sym (field_more bytes bit a (bit + a) 8 refl (omega arith))

-- the first bits of a field
pub field_first : (bytes : List ℕ) (bit a n : ℕ) → bit + a + n ≤ 8 * length bytes → field bytes bit (a + n) / 2 ^ n ≡ field bytes bit a
field_first bytes bit a n le =
    ap (λ x. x / 2 ^ n) (field_more bytes bit a (bit + a) n refl le) ∙ shr_high (field bytes bit a) n (field bytes (bit + a) n) (field-lt bytes (bit + a) n)

-- what `take` has read, with one piece more
pub take_turn : (bytes : List ℕ) (bit width left size next : ℕ) → size ≤ left → left ≤ width → width ≤ 128 → bit + width ≤ 8 * length bytes
    → next ≡ field bytes (bit + (width - left)) size
    → field bytes bit (width - left) * 2 ^ size % 340282366920938463463374607431768211456 + next ≡ field bytes bit (width - (left - size))
take_turn bytes bit width left size next le few wide range next_is =
    let far : width - left + size ≡ width - (left - size) = omega arith in
    ap (λ x. x + next) (shl_whole (field bytes bit (width - left)) (width - left) size 128 (field-lt bytes bit (width - left)) (omega arith))
    ∙ ap (λ x. field bytes bit (width - left) * 2 ^ size + x) next_is
    ∙ sym (field_more bytes bit (width - left) (bit + (width - left)) size refl (omega arith))
    ∙ ap (field bytes bit) far

-- what `put` has written, with one piece more
pub put_piece : (first bytes newer : List ℕ) (bit width left size value part : ℕ) → size ≤ left → left ≤ width → bit + width ≤ 8 * length bytes
    → part ≡ value / 2 ^ (left - size) % 2 ^ size
    → field newer (bit + (width - left)) size ≡ part → SameOutside bytes newer (bit + (width - left)) size
    → field bytes bit (width - left) ≡ value / 2 ^ left → SameOutside first bytes bit (width - left)
    → (field newer bit (width - (left - size)) ≡ value / 2 ^ (left - size)) × SameOutside first newer bit (width - (left - size))
put_piece first bytes newer bit width left size value part le few range part_is is others so_far same =
    let at = bit + (width - left) in
    let far : width - left + size ≡ width - (left - size) = omega arith in
    let number : field newer bit (width - left + size) ≡ value / 2 ^ (left - size) =
    put_more bytes newer bit (width - left) at size refl (omega (arith, others.as_long)) others
    ∙ ap (λ x. x * 2 ^ size + field newer at size) so_far
    ∙ ap (λ x. value / 2 ^ left * 2 ^ size + x) (is ∙ part_is)
    ∙ part_more value left size le in (
      ap (field newer bit) (sym far) ∙ number,
      rw (← far) (same_more first bytes newer bit (width - left) at size refl same others),
    )

-- what `put` has written, with one chunk more
pub put_turn : (first bytes : List ℕ) (place off bit width left size value part b : ℕ) → off + size ≤ 8 → 1 ≤ size → size ≤ left → left ≤ width
    → place * 8 + off ≡ bit + (width - left) → bit + width ≤ 8 * length bytes
    → part ≡ value / 2 ^ (left - size) % 2 ^ size
    → b ≡ get_or bytes place 0 / 2 ^ (8 - off) * 2 ^ (8 - off) + (part * 2 ^ (8 - off - size) + get_or bytes place 0 % 2 ^ (8 - off - size))
    → field bytes bit (width - left) ≡ value / 2 ^ left → SameOutside first bytes bit (width - left)
    → (field (set bytes place b) bit (width - (left - size)) ≡ value / 2 ^ (left - size)) × SameOutside first (set bytes place b) bit (width - (left - size))
put_turn first bytes place off bit width left size value part b one_byte some le few here range part_is b_is so_far same =
    let r = 8 - off - size in
    let at = bit + (width - left) in
    let old = get_or bytes place 0 in
    let fits : part < 2 ^ size = rw part_is (mod_below (value / 2 ^ (left - size)) (2 ^ size) (pow_pos size)) in
    let turned : 8 - off ≡ size + r = omega arith in
    let done = written at place off size r part bytes (sym here) (omega arith) (omega arith) fits b (b_is ∙ ap (λ k. old / 2 ^ k * 2 ^ k + (part * 2 ^ r + old % 2 ^ r)) turned) in
    put_piece first bytes (set bytes place b) bit width left size value part le few (omega (arith, same.as_long)) part_is done.0 done.1 so_far same

pub field_fits : (bytes : List ℕ) (bit n : ℕ) → n ≤ 128 → field bytes bit n < 2 ^ 128
field_fits bytes bit n le = omega (arith, field-lt bytes bit n, pow-le-pow_right {n = 2} (lit< tt) {i = n} {j = 128} le)

-- at the start nothing is read or written
pub field_start : (bytes : List ℕ) (bit width : ℕ) → field bytes bit (width - width) ≡ 0
field_start bytes bit width = let none : width - width ≡ 0 = omega arith in rw none (field_none bytes bit)

pub same_start : (bytes : List ℕ) (bit width : ℕ) → SameOutside bytes bytes bit (width - width)
same_start bytes bit width = let none : width - width ≡ 0 = omega arith in rw none (same_none bytes bit)

pub value_start : (value width : ℕ) → value < 2 ^ width → value / 2 ^ width ≡ 0
value_start value width fits = div-eq_of_lt fits

-- ---- a field as a part of the list of bits

-- bits are the lowest bits of the number that they spell
low-number : (xs : List ℕ) → AllBelowBase 2 xs → low (length xs) (number_from_digits_after 2 0 xs) ≡ xs
low-number [] p = refl
low-number (x ∷ xs) p =
    let k = length xs in
    let n = number_from_digits_after 2 0 xs in
    let small : n < 2 ^ k = number_lt 2 xs p.1 in
    let alone : 0 * 2 + x ≡ x = omega arith in
    let whole : number_from_digits_after 2 0 (x ∷ xs) ≡ x * 2 ^ k + n = number_behind (0 * 2 + x) xs ∙ ap (λ y. y * 2 ^ k + n) alone in
    let top : (x * 2 ^ k + n) / 2 ^ k % 2 ≡ x = ap (λ y. y % 2) (shr_high x k n small) ∙ mod-eq_of_lt p.0 in
    let rest : low k (x * 2 ^ k + n) ≡ xs = low-cat k k x n (omega arith) ∙ low-number xs p.1 in
    ap (low (suc k)) whole ∙ ap (λ y. y ∷ low k (x * 2 ^ k + n)) top ∙ ap (λ y. x ∷ y) rest

field_bits : (bytes : List ℕ) (bit width value : ℕ) → bit + width ≤ 8 * length bytes → field bytes bit width ≡ value → take width (drop bit (bits bytes)) ≡ low width value
unfolding field num
field_bits bytes bit width value within is =
    let xs = take width (drop bit (bits bytes)) in
    let long : length xs ≡ width = length-take-le width (drop bit (bits bytes)) (omega (arith, length-drop bit (bits bytes), length-bits bytes)) in
    let below : AllBelowBase 2 xs = below-take width (drop bit (bits bytes)) (below-drop bit (bits bytes) (below_bits bytes)) in
    sym (low-number xs below) ∙ ap (λ n. low n (number_from_digits_after 2 0 xs)) long ∙ ap (low width) is

-- a number that is put stands in the place of the field's bits
pub put_spliced : (old new : List ℕ) (bit width value : ℕ) → bit + width ≤ 8 * length old → field new bit width ≡ value → SameOutside old new bit width
    → bits new ≡ splice (bits old) bit (bit + width) (low width value)
put_spliced old new bit width value within is same =
    let inside : bit + width ≤ 8 * length new = omega (arith, within, same.as_long) in
    sym (take-append-drop bit (bits new)) ∙ ap (λ x. x ++ drop bit (bits new)) same.before
    ∙ ap (λ x. take bit (bits old) ++ x)
    (sym (take-append-drop width (drop bit (bits new)))
    ∙ ap (λ x. x ++ drop width (drop bit (bits new))) (field_bits new bit width value inside is)
    ∙ ap (λ x. low width value ++ x) (drop-drop width bit (bits new) ∙ same.after))
