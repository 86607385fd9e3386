-- A varint that is read byte by byte.
use Rattle.std.proofs.Common.{◌≡◌, ℕ, zero, suc, ◌+◌, ◌*◌, ◌%◌, ◌^◌, ◌<◌, ◌≤◌, List, Result, Ok, Err, refl, sym, ap, ◌∙◌, arith}
use Rattle.std.proofs.lemmas.Bool.{lt-ltb, le-ltb}
use Rattle.std.proofs.Math.Nat.{pow-suc, one-le-pow, mul-le-mul_left, mul-le-mul_right, mod-eq_of_lt}
use Rattle.wire_fields.specs.declared.wire.WireFault.{WireFault}
use Rattle.wire_fields.specs.declared.wire.WireFault.TheVariants.{VarintLong}
use Rattle.list_types.specs.Results.{◌>>=◌}
use Rattle.wire_fields.specs.Reading.{byte_at, varint_in}

-- a number that is read further on, above what was read so far
abbrev pub above : ℕ → ℕ → Result (ℕ × List ℕ) WireFault → Result (ℕ × List ℕ) WireFault
above value unit read = read >>= λ high. Ok (value + unit * high.0, high.1)

-- some bytes of a varint are read, and at most so many may come before the tenth
pub record IsPart (value unit more : ℕ) (rest : List ℕ) (whole : Result (ℕ × List ℕ) WireFault) : Type 0 where
  pub so_far : above value unit (varint_in more rest) ≡ whole
  pub below : value < unit
  pub unit_is : unit * 128 ^ more ≡ 2 ^ 63

next_unit : (unit more : ℕ) → unit * 128 ^ suc more ≡ 2 ^ 63 → unit * 128 * 128 ^ more ≡ 2 ^ 63
next_unit unit more e = let split : unit * (128 ^ more * 128) ≡ 2 ^ 63 = ap (λ x. unit * x) (sym (pow-suc 128 more)) ∙ e in omega arith

pub unit_fits : (value unit n : ℕ) (rest : List ℕ) (whole : Result (ℕ × List ℕ) WireFault) → 0 < n → IsPart value unit n rest whole → unit * 128 ≤ 2 ^ 63
unit_fits value unit zero rest whole lt p = absurd (omega arith)
unit_fits value unit (suc more) rest whole lt p =
    let e = next_unit unit more p.unit_is in
    let one : 1 ≤ 128 ^ more = one-le-pow more 128 (omega arith) in
    omega (arith, mul-le-mul_left (unit * 128) one)

pub digit_fits : (value unit d : ℕ) → value < unit → d < 128 → value + d * unit < unit * 128
digit_fits value unit d below lt =
    let le : d ≤ 127 = omega arith in
    omega (arith, mul-le-mul_right unit le)

pub no_byte : (value unit n : ℕ) (rest : List ℕ) (whole : Result (ℕ × List ℕ) WireFault) (fault : WireFault) → IsPart value unit n rest whole → byte_at rest ≡ Err fault → whole ≡ Err fault
unfolding varint_in
no_byte value unit zero rest whole fault p e = sym p.so_far ∙ rw e refl
no_byte value unit (suc more) rest whole fault p e = sym p.so_far ∙ rw e refl

pub is_last : (value unit n digit d : ℕ) (rest after : List ℕ) (whole : Result (ℕ × List ℕ) WireFault) → 0 < n → IsPart value unit n rest whole
    → byte_at rest ≡ Ok (digit, after) → digit < 128 → d ≡ digit % 128 → whole ≡ Ok (value + d * unit, after)
unfolding varint_in
is_last value unit zero digit d rest after whole pos p e lt d-is = absurd (omega arith)
is_last value unit (suc more) digit d rest after whole pos p e lt d-is =
    let small : value + unit * digit ≡ value + d * unit = omega (arith, ap (λ x. x * unit) (d-is ∙ mod-eq_of_lt lt)) in
    sym p.so_far ∙ rw (e, lt-ltb digit 128 lt) (ap (λ x. Ok (x, after)) small)

-- a digit between what was read so far and the rest
regrouped : (value unit d digit : ℕ) (read : Result (ℕ × List ℕ) WireFault) → ((high : ℕ) → value + unit * (digit % 128 + 128 * high) ≡ value + d * unit + unit * 128 * high)
    → above (value + d * unit) (unit * 128) read ≡ above value unit (read >>= λ high. Ok (digit % 128 + 128 * high.0, high.1))
regrouped value unit d digit (Ok high) split = ap (λ x. Ok (x, high.1)) (sym (split high.0))
regrouped value unit d digit (Err fault) split = refl

pub goes_on : (value unit n more digit d : ℕ) (rest after : List ℕ) (whole : Result (ℕ × List ℕ) WireFault) → n ≡ suc more → IsPart value unit n rest whole
    → byte_at rest ≡ Ok (digit, after) → 128 ≤ digit → d ≡ digit % 128 → IsPart (value + d * unit) (unit * 128) more after whole
unfolding varint_in
goes_on value unit n more digit d rest after whole n-is p e le d-is =
    let below : d < 128 = omega arith in
    let split : (high : ℕ) → value + unit * (digit % 128 + 128 * high) ≡ value + d * unit + unit * 128 * high = λ high. rw (← d-is) (omega arith) in
    let read : above value unit (varint_in (suc more) rest) ≡ whole = rw n-is at p.so_far in
    record {
      so_far = regrouped value unit d digit (varint_in more after) split ∙ sym (rw (e, le-ltb digit 128 le) refl) ∙ read;
      below = digit_fits value unit d p.below below;
      unit_is = next_unit unit more (rw n-is at p.unit_is);
    }

pub is_tenth : (value unit n last : ℕ) (rest after : List ℕ) (whole : Result (ℕ × List ℕ) WireFault) → n ≡ 0 → IsPart value unit n rest whole
    → byte_at rest ≡ Ok (last, after) → last ≤ 1 → whole ≡ Ok (value + last * unit, after)
unfolding varint_in
is_tenth value unit n last rest after whole n-is p e le =
    let read : above value unit (varint_in 0 rest) ≡ whole = rw n-is at p.so_far in
    let turned : value + unit * last ≡ value + last * unit = omega arith in
    sym read ∙ rw (e, le-ltb 1 last le) (ap (λ x. Ok (x, after)) turned)

pub is_long : (value unit n last : ℕ) (rest after : List ℕ) (whole : Result (ℕ × List ℕ) WireFault) → n ≡ 0 → IsPart value unit n rest whole
    → byte_at rest ≡ Ok (last, after) → 1 < last → whole ≡ Err VarintLong
unfolding varint_in
is_long value unit n last rest after whole n-is p e lt =
    let read : above value unit (varint_in 0 rest) ≡ whole = rw n-is at p.so_far in
    sym read ∙ rw (e, lt-ltb 1 last lt) refl
