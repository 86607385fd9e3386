-- What is written is read back.
use Rattle.std.proofs.Common.{◌≡◌, ℕ, zero, suc, ◌+◌, ◌-◌, ◌*◌, ◌/◌, ◌%◌, ◌^◌, ◌<◌, ◌≤◌, nat_le, false, List, [], ◌∷◌, ◌++◌, length, slice_index, Ok, refl, sym, ap, ◌∙◌, append_assoc, arith, inl, inr}
use Rattle.std.specs.Prelude.{sum_by}
use Rattle.std.proofs.lemmas.Bool.{cases_lt, lt-ltb, le-ltb, lt-leb, ne_eqb}
use Rattle.std.proofs.lemmas.List.{length-append}
use Rattle.std.proofs.Math.Seq.{take-append_seam, drop-append_seam}
use Rattle.std.proofs.lemmas.List.Sums.{sum_by-cons}
use Rattle.std.proofs.Math.Nat.{mod-eq_of_lt, add-mul, mul_assoc}
use Rattle.hpack_tables.specs.declared.header.Header.{Header}
use Rattle.hpack_tables.specs.declared.fault.HpackFault.{HpackFault}
use Rattle.hpack_tables.specs.declared.fault.HpackFault.TheVariants.{Truncated}
use Rattle.hpack_tables.specs.Integers.{integer_from, integer_at}
use Rattle.hpack_tables.specs.Strings.{string_at}
use Rattle.hpack_tables.specs.Tables.{entry_size, Table}
use Rattle.hpack_tables.specs.Blocks.{name_at, literal_at, field_at, fields_in, updates_in, block_at}
use Rattle.canon_bytes.specs.Base128.{base_128}
use Rattle.hpack_tables.specs.Writing.{length_bytes, string_bytes, header_bytes, block_bytes}
use Rattle.hpack_tables.specs.Laws.{ReadBack}
use Rattle.canon_bytes.proofs.Base128Steps.{one_byte, more_bytes, quotient_below}

split : (n unit : ℕ) → n % 128 * unit + n / 128 * (unit * 128) ≡ n * unit
split n unit =
    let parts : n % 128 + n / 128 * 128 ≡ n = omega arith in
    let high : n / 128 * (unit * 128) ≡ n / 128 * 128 * unit = ap (λ x. n / 128 * x) (omega arith) ∙ sym (mul_assoc (n / 128) 128 unit) in
    ap (λ x. n % 128 * unit + x) high ∙ sym (add-mul (n % 128) (n / 128 * 128) unit) ∙ ap (λ x. x * unit) parts

last_digit : (k value unit n : ℕ) (fault : HpackFault) (rest : List ℕ) → n < 128 → value + n * unit ≤ 2 ^ 32 - 1 → integer_from fault value unit (base_128 (suc k) n ++ rest) ≡ Ok (value + n * unit, rest)
unfolding integer_from
last_digit k value unit n fault rest last fits = rw (one_byte k n last, mod-eq_of_lt last, le-ltb (2 ^ 32 - 1) (value + n * unit) fits, lt-ltb n 128 last) refl

more_digits : (k value unit n : ℕ) (fault : HpackFault) (rest : List ℕ) → 128 ≤ n → value + n * unit ≤ 2 ^ 32 - 1 → integer_from fault value unit (base_128 (suc k) n ++ rest) ≡ integer_from fault (value + n % 128 * unit) (unit * 128) (base_128 k (n / 128) ++ rest)
unfolding integer_from
more_digits k value unit n fault rest le fits =
    let low : (n % 128 + 128) % 128 ≡ n % 128 = omega arith in
    let small : value + n % 128 * unit ≤ 2 ^ 32 - 1 = omega (arith, split n unit) in
    rw (more_bytes k n le, low, le-ltb (2 ^ 32 - 1) (value + n % 128 * unit) small, le-ltb (n % 128 + 128) 128 (omega arith)) refl

pub digits_back : (k value unit n : ℕ) (fault : HpackFault) (rest : List ℕ) → n < 128 ^ suc k → value + n * unit ≤ 2 ^ 32 - 1 → integer_from fault value unit (base_128 (suc k) n ++ rest) ≡ Ok (value + n * unit, rest)
digits_back zero value unit n fault rest below fits = last_digit 0 value unit n fault rest (omega arith) fits
digits_back (suc k) value unit n fault rest below fits =
    elim (cases_lt n 128) [
      | inl last ↦ last_digit (suc k) value unit n fault rest last fits
      | inr le ↦
          let whole : value + n % 128 * unit + n / 128 * (unit * 128) ≡ value + n * unit = omega (arith, split n unit) in
          more_digits (suc k) value unit n fault rest le fits
          ∙ digits_back k (value + n % 128 * unit) (unit * 128) (n / 128) fault rest (quotient_below k n below) (omega (arith, whole))
          ∙ ap (λ (x : ℕ). Ok (x, rest)) whole
    ]

length_back : (size : ℕ) (rest : List ℕ) → size < 2 ^ 32 → integer_at 7 Truncated (length_bytes size ++ rest) ≡ Ok (size, rest)
unfolding integer_at
length_back size rest small =
    elim (cases_lt size 127) [
      | inl short ↦
          let low : size % 128 ≡ size = omega arith in
          rw (lt-ltb size 127 short, low, ne_eqb size 127 (omega arith)) refl
      | inr le ↦
          let whole : 127 + (size - 127) * 1 ≡ size = omega arith in
          rw (le-ltb size 127 le) (digits_back 9 127 1 (size - 127) Truncated rest (omega arith) (omega arith) ∙ ap (λ (x : ℕ). Ok (x, rest)) whole)
    ]

-- the first byte of a length is below 128
plain : (size : ℕ) (rest : List ℕ) → nat_le 128 (slice_index (length_bytes size ++ rest) 0) ≡ false
plain size rest =
    elim (cases_lt size 127) [
      | inl short ↦ rw (lt-ltb size 127 short) (lt-leb 128 size (omega arith))
      | inr le ↦ rw (le-ltb size 127 le) refl
    ]

string_back : (string rest : List ℕ) → length string < 2 ^ 32 → string_at (string_bytes string ++ rest) ≡ Ok (string, rest)
unfolding string_at
string_back string rest small =
    rw (append_assoc (length_bytes (length string)) string rest, length_back (length string) (string ++ rest) small, plain (length string) (string ++ rest), le-ltb (length (string ++ rest)) (length string) (omega (arith, length-append string rest)), take-append_seam string rest, drop-append_seam string rest) refl

literal_back : (table : Table) (entry : Header) (rest : List ℕ) → length entry.name < 2 ^ 32 → length entry.value < 2 ^ 32 → literal_at 4 table (header_bytes entry ++ rest) ≡ Ok (entry, rest)
unfolding literal_at name_at integer_at
literal_back table entry rest short small =
    rw (append_assoc (string_bytes entry.name) (string_bytes entry.value) rest, string_back entry.name (string_bytes entry.value ++ rest) short, string_back entry.value rest small) refl

field_back : (table : Table) (entry : Header) (rest : List ℕ) → length entry.name < 2 ^ 32 → length entry.value < 2 ^ 32 → field_at table (header_bytes entry ++ rest) ≡ Ok (entry, table, rest)
unfolding field_at
field_back table entry rest short small = rw (literal_back table entry rest short small) refl

pub fields_back : (n : ℕ) (table : Table) (room : ℕ) (headers : List Header) → length (block_bytes headers) ≤ n → sum_by entry_size headers ≤ room → room ≤ 65536 → fields_in n table room (block_bytes headers) ≡ Ok (headers, table)
unfolding fields_in
fields_back zero table room [] long fits le = refl
fields_back (suc n) table room [] long fits le = refl
fields_back zero table room (entry ∷ headers) long fits le = absurd (omega arith)
fields_back (suc n) table room (entry ∷ headers) long fits le =
    let parts = sum_by-cons entry_size entry headers in
    let few = length-append (header_bytes entry) (block_bytes headers) in
    rw (field_back table entry (block_bytes headers) (omega (arith, parts)) (omega (arith, parts)), le-ltb room (entry_size entry) (omega (arith, parts)), fields_back n table (room - entry_size entry) headers (omega (arith, few)) (omega (arith, parts)) (omega arith)) refl

pub no_updates : (n : ℕ) (table : Table) (headers : List Header) → updates_in n table (block_bytes headers) ≡ Ok (table, block_bytes headers)
unfolding updates_in
no_updates zero table headers = refl
no_updates (suc n) table [] = refl
no_updates (suc n) table (entry ∷ headers) = refl

pub read_back : ReadBack
unfolding block_at
read_back table headers fits =
    rw (no_updates (length (block_bytes headers)) table headers, fields_back (length (block_bytes headers)) table 65536 headers (omega arith) fits (omega arith)) refl
