-- What is written is a block of its headers.
use Rattle.std.proofs.Common.{◌≡◌, ℕ, zero, suc, ◌+◌, ◌-◌, ◌/◌, ◌%◌, ◌^◌, ◌<◌, List, [], ◌∷◌, length, All, refl, arith, inl, inr}
use Rattle.std.proofs.lemmas.Bool.{cases_lt, lt-ltb, le-ltb}
use Rattle.std.proofs.Math.Nat.{mod-eq_of_lt}
use Rattle.hpack_tables.specs.declared.header.Header.{Header}
use Rattle.hpack_tables.specs.Tables.{Table}
use Rattle.hpack_tables.specs.Headers.{EndsAtLast, sevens, IsInteger, IsString, IsName, IsLiteral, AreFields}
use Rattle.canon_bytes.specs.Base128.{base_128}
use Rattle.hpack_tables.specs.Writing.{length_bytes, string_bytes, header_bytes, block_bytes}
use Rattle.hpack_tables.specs.Laws.{IsShort, WrittenBlock}
use Rattle.canon_bytes.proofs.Base128Steps.{one_byte, more_bytes, quotient_below}
use Rattle.hpack_tables.proofs.Parts.{ends_later}

record AreDigits (value : ℕ) (bytes : List ℕ) : Type 0 where
  pub ends : EndsAtLast bytes
  pub value_is : value ≡ sevens bytes

one_digit : (k value : ℕ) → value < 128 → AreDigits value (base_128 (suc k) value)
one_digit k value lt = rw (one_byte k value lt) (record { ends = lt; value_is = omega (arith, mod-eq_of_lt lt) })

are_digits : (k value : ℕ) → value < 128 ^ suc k → AreDigits value (base_128 (suc k) value)
are_digits zero value lt = one_digit 0 value (omega arith)
are_digits (suc k) value lt =
    elim (cases_lt value 128) [
      | inl below ↦ one_digit (suc k) value below
      | inr le ↦
          let high = are_digits k (value / 128) (quotient_below k value lt) in
          let low : (value % 128 + 128) % 128 ≡ value % 128 = omega arith in
          rw (more_bytes (suc k) value le) (record {
            ends = ends_later (value % 128 + 128) (base_128 (suc k) (value / 128)) (omega arith) high.ends;
            value_is = omega (arith, high.value_is, low);
          })
    ]

length_is : (size : ℕ) → size < 2 ^ 32 → IsInteger 7 0 size (length_bytes size)
length_is size small =
    elim (cases_lt size 127) [
      | inl short ↦ rw (lt-ltb size 127 short) (omega arith, small, inl (refl, short, omega arith))
      | inr le ↦
          let tail = are_digits 9 (size - 127) (omega arith) in
          rw (le-ltb size 127 le) (refl, small, inr (tail.ends, refl, omega (arith, tail.value_is)))
    ]

string_is : (string : List ℕ) → length string < 2 ^ 32 → IsString string (string_bytes string)
string_is string small = record { form = 0; front = length_bytes (length string); inside = string; size_is = length_is (length string) small; text_is = inl (refl, refl); bytes_are = refl }

name_is : (table : Table) (name : List ℕ) → length name < 2 ^ 32 → IsName 4 0 table name (0 ∷ string_bytes name)
name_is table name small = record {
  index = 0;
  front = 0 ∷ [];
  back = string_bytes name;
  index_is = (refl, omega arith, inl (refl, omega arith, refl));
  name_is = inl (refl, string_is name small);
  bytes_are = refl;
}

literal_is : (table : Table) (entry : Header) → IsShort entry → IsLiteral 4 0 table entry (header_bytes entry)
literal_is table entry short = record { front = 0 ∷ string_bytes entry.name; back = string_bytes entry.value; name_is = name_is table entry.name short.name; value_is = string_is entry.value short.value; bytes_are = refl }

fields_are : (table : Table) (headers : List Header) → All IsShort headers → AreFields table headers table (block_bytes headers)
fields_are table [] short = (refl, refl)
fields_are table (entry ∷ headers) short =
    (header_bytes entry, block_bytes headers, table, inr (inr (inl (literal_is table entry (short 0 entry (omega arith))), refl)), fields_are table headers (λ i d lt. short (suc i) d (omega arith)), refl)

pub written_block : WrittenBlock
written_block table headers short = record { sizes = []; between = table; front = []; rest = block_bytes headers; updates_are = (refl, refl); headers_are = fields_are table headers short; bytes_are = refl }
