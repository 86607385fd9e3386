-- An integer that is read byte by byte.
use Rattle.std.proofs.Common.{◌≡◌, ℕ, ◌+◌, ◌-◌, ◌*◌, ◌%◌, ◌^◌, ◌<◌, ◌≤◌, cond, nat_lt, List, [], ◌∷◌, length, Result, Ok, Err, refl, sym, ap, ◌∙◌, arith, inl, inr}
use Rattle.std.proofs.lemmas.Bool.{lt-ltb, le-ltb, cases_lt}
use Rattle.std.proofs.Math.Nat.{mul-le-mul_right}
use Rattle.hpack_tables.specs.declared.fault.HpackFault.{HpackFault}
use Rattle.list_types.specs.Results.{unless}
use Rattle.hpack_tables.specs.Reading.{byte_at}
use Rattle.hpack_tables.specs.Integers.{integer_from}

-- an integer is read so far
pub record IsPart (fault : HpackFault) (value unit : ℕ) (rest : List ℕ) (whole : Result (ℕ × List ℕ) HpackFault) : Type 0 where
  pub so_far : integer_from fault value unit rest ≡ whole
  pub fits : value < 2 ^ 32
  pub unit_fits : unit ≤ 2 ^ 39

passes : (value d unit : ℕ) → 0 < d → 2 ^ 32 ≤ unit → 2 ^ 32 - 1 < value + d * unit
passes value d unit some large = let le : 1 ≤ d = omega arith in omega (arith, mul-le-mul_right unit le)

-- past the greatest number, how much a bit counts makes no difference
same_past : (fault : HpackFault) (bytes : List ℕ) (value unit other : ℕ) → 2 ^ 32 ≤ unit → 2 ^ 32 ≤ other → integer_from fault value unit bytes ≡ integer_from fault value other bytes
unfolding integer_from
same_past fault [] value unit other large as_large = refl
same_past fault (byte ∷ rest) value unit other large as_large =
    elim (cases_lt 0 (byte % 128)) [
      | inl some ↦ rw (lt-ltb _ _ (passes value (byte % 128) unit some large), lt-ltb _ _ (passes value (byte % 128) other some as_large)) refl
      | inr none ↦
          let is_zero : byte % 128 ≡ 0 = omega arith in
          let none_here : byte % 128 * unit ≡ 0 = ap (λ x. x * unit) is_zero ∙ omega arith in
          let none_there : byte % 128 * other ≡ 0 = ap (λ x. x * other) is_zero ∙ omega arith in
          rw (none_here, none_there) (ap (λ r. unless (nat_lt (2 ^ 32 - 1) (value + 0)) fault (cond (nat_lt byte 128) (Ok (value + 0, rest)) r)) (same_past fault rest (value + 0) (unit * 128) (other * 128) (omega arith) (omega arith)))
    ]

joined : Result (ℕ × List ℕ) HpackFault → List ℕ
joined (Ok x) = x.0 ∷ x.1
joined (Err fault) = []

front_is : (rest : List ℕ) (byte : ℕ) (after : List ℕ) → byte_at rest ≡ Ok (byte, after) → rest ≡ byte ∷ after
unfolding joined
front_is [] byte after e = absurd cc
front_is (b ∷ bytes) byte after e = ap joined e

pub no_byte : (fault : HpackFault) (value unit : ℕ) (rest : List ℕ) (whole : Result (ℕ × List ℕ) HpackFault) (end : HpackFault) → byte_at rest ≡ Err end → IsPart fault value unit rest whole → whole ≡ Err end
unfolding integer_from
no_byte fault value unit [] whole end e part = sym part.so_far ∙ e
no_byte fault value unit (b ∷ bytes) whole end e part = absurd cc

pub is_large : (fault : HpackFault) (value unit byte d : ℕ) (rest after : List ℕ) (whole : Result (ℕ × List ℕ) HpackFault) → byte_at rest ≡ Ok (byte, after) → d ≡ byte % 128 → 2 ^ 32 - 1 < value + d * unit
    → IsPart fault value unit rest whole → whole ≡ Err fault
unfolding integer_from
is_large fault value unit byte d rest after whole e d-is large part = sym part.so_far ∙ ap (integer_from fault value unit) (front_is rest byte after e) ∙ rw (← d-is, lt-ltb _ _ large) refl

pub is_last : (fault : HpackFault) (value unit byte d : ℕ) (rest after : List ℕ) (whole : Result (ℕ × List ℕ) HpackFault) → byte_at rest ≡ Ok (byte, after) → d ≡ byte % 128 → value + d * unit ≤ 2 ^ 32 - 1
    → byte < 128 → IsPart fault value unit rest whole → whole ≡ Ok (value + d * unit, after)
unfolding integer_from
is_last fault value unit byte d rest after whole e d-is small last part = sym part.so_far ∙ ap (integer_from fault value unit) (front_is rest byte after e) ∙ rw (← d-is, le-ltb _ _ small, lt-ltb _ _ last) refl

next_part : (fault : HpackFault) (value unit byte d : ℕ) (rest after : List ℕ) (whole : Result (ℕ × List ℕ) HpackFault) → byte_at rest ≡ Ok (byte, after) → d ≡ byte % 128 → value + d * unit ≤ 2 ^ 32 - 1
    → 128 ≤ byte → IsPart fault value unit rest whole → integer_from fault (value + d * unit) (unit * 128) after ≡ whole
unfolding integer_from
next_part fault value unit byte d rest after whole e d-is small more part = sym (sym part.so_far ∙ ap (integer_from fault value unit) (front_is rest byte after e) ∙ rw (← d-is, le-ltb _ _ small, le-ltb _ _ more) refl)

pub goes_on : (fault : HpackFault) (value unit byte d : ℕ) (rest after : List ℕ) (whole : Result (ℕ × List ℕ) HpackFault) → byte_at rest ≡ Ok (byte, after) → d ≡ byte % 128 → value + d * unit ≤ 2 ^ 32 - 1
    → 128 ≤ byte → unit < 2 ^ 32 → IsPart fault value unit rest whole → IsPart fault (value + d * unit) (unit * 128) after whole
goes_on fault value unit byte d rest after whole e d-is small more in_range part = record { so_far = next_part fault value unit byte d rest after whole e d-is small more part; fits = omega arith; unit_fits = omega arith }

pub goes_on_past : (fault : HpackFault) (value unit byte d : ℕ) (rest after : List ℕ) (whole : Result (ℕ × List ℕ) HpackFault) → byte_at rest ≡ Ok (byte, after) → d ≡ byte % 128 → value + d * unit ≤ 2 ^ 32 - 1
    → 128 ≤ byte → 2 ^ 32 ≤ unit → IsPart fault value unit rest whole → IsPart fault (value + d * unit) unit after whole
goes_on_past fault value unit byte d rest after whole e d-is small more past part = record {
  so_far = same_past fault after (value + d * unit) unit (unit * 128) past (omega arith) ∙ next_part fault value unit byte d rest after whole e d-is small more part;
  fits = omega arith;
  unit_fits = part.unit_fits;
}

pub byte_shorter : (rest : List ℕ) (byte : ℕ) (after : List ℕ) → byte_at rest ≡ Ok (byte, after) → length after < length rest
byte_shorter rest byte after e = omega (arith, ap length (front_is rest byte after e))
