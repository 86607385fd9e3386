-- An update of the table's size that is written is read back.
use Rattle.std.proofs.Common.{◌≡◌, ℕ, suc, ◌+◌, ◌-◌, ◌*◌, ◌/◌, ◌%◌, ◌<◌, ◌≤◌, List, ◌∷◌, ◌++◌, length, Ok, refl, ap, ◌∙◌, arith, inl, inr}
use Rattle.std.specs.Prelude.{sum_by}
use Rattle.std.proofs.lemmas.Bool.{cases_lt, lt-ltb, le-ltb, ne_eqb}
use Rattle.hpack_tables.specs.declared.header.Header.{Header}
use Rattle.hpack_tables.specs.declared.fault.HpackFault.TheVariants.{TableSize}
use Rattle.hpack_tables.specs.Integers.{integer_at}
use Rattle.hpack_tables.specs.Tables.{entry_size, Table, resized}
use Rattle.hpack_tables.specs.Blocks.{update_at, updates_in, block_at}
use Rattle.canon_bytes.specs.Base128.{base_128}
use Rattle.hpack_tables.specs.Writing.{block_bytes}
use Rattle.hpack_tables.specs.Laws.{UpdateBack}
use Rattle.hpack_tables.proofs.ReadBack.{digits_back, fields_back, no_updates}

short_update : (size : ℕ) (rest : List ℕ) → size < 31 → integer_at 5 TableSize ((32 + size) ∷ rest) ≡ Ok (size, rest)
unfolding integer_at
short_update size rest short =
    let low : (32 + size) % 32 ≡ size = omega arith in
    rw (low, ne_eqb size 31 (omega arith)) refl

long_update : (size : ℕ) (rest : List ℕ) → 31 ≤ size → size ≤ 4096 → integer_at 5 TableSize (63 ∷ base_128 10 (size - 31) ++ rest) ≡ Ok (size, rest)
unfolding integer_at
long_update size rest le small =
    let whole : 31 + (size - 31) * 1 ≡ size = omega arith in
    digits_back 9 31 1 (size - 31) TableSize rest (omega arith) (omega arith) ∙ ap (λ (x : ℕ). Ok (x, rest)) whole

-- one update, and then no other
one_update : (n first : ℕ) (more : List ℕ) (table : Table) (size : ℕ) (headers : List Header) → size ≤ 4096 → first / 32 ≡ 1
    → integer_at 5 TableSize (first ∷ more) ≡ Ok (size, block_bytes headers)
    → updates_in (suc n) table (first ∷ more) ≡ Ok (resized size table, block_bytes headers)
unfolding updates_in update_at
one_update n first more table size headers small form read =
    rw (form, read, le-ltb 4096 size small) (no_updates n (resized size table) headers)

back : (n first : ℕ) (more : List ℕ) (table : Table) (size : ℕ) (headers : List Header) → size ≤ 4096 → sum_by entry_size headers ≤ 65536 → first / 32 ≡ 1
    → integer_at 5 TableSize (first ∷ more) ≡ Ok (size, block_bytes headers) → block_at table (first ∷ more) ≡ Ok (headers, resized size table)
unfolding block_at
back n first more table size headers small fits form read =
    rw (one_update (length more) first more table size headers small form read, fields_back (length (block_bytes headers)) (resized size table) 65536 headers (omega arith) fits (omega arith)) refl

pub update_back : UpdateBack
update_back table size headers small fits =
    elim (cases_lt size 31) [
      | inl short ↦ rw (lt-ltb size 31 short) (back 0 (32 + size) (block_bytes headers) table size headers small fits (omega arith) (short_update size (block_bytes headers) short))
      | inr le ↦ rw (le-ltb size 31 le) (back 0 63 (base_128 10 (size - 31) ++ block_bytes headers) table size headers small fits refl (long_update size (block_bytes headers) le small))
    ]
