-- Reading and changing the dynamic table.
use Rattle.std.proofs.Common.{◌≡◌, ℕ, zero, suc, ◌-◌, ◌<◌, ◌≤◌, List, [], ◌∷◌, ◌++◌, length, slice_get, get_or, Result, Ok, Err, refl, ap, ◌∙◌, arith}
use Rattle.std.proofs.lemmas.Option.{slice_get_past, slice_get_read}
use Rattle.hpack_tables.specs.declared.header.Header.{Header}
use Rattle.hpack_tables.specs.declared.fault.HpackFault.{HpackFault}
use Rattle.hpack_tables.specs.declared.fault.HpackFault.TheVariants.{BadIndex}
use Rattle.list_types.specs.Results.{found}
use Rattle.hpack_tables.specs.Tables.{header, static_table, entry_size, Table, fitting, inserted, entry_at}
use Rattle.hpack_tables.proofs.Evictions.{fit_new, fit_none}
use Rattle.hpack_tables.proofs.StaticChecks.{made, many}

abbrev pub table_of : List Header → ℕ → Table
table_of entries max_size = record { entries = entries; max_size = max_size }

behind : (xs ys : List Header) (i : ℕ) → length xs ≤ i → slice_get (xs ++ ys) i ≡ slice_get ys (i - length xs)
behind [] ys i le = ap (slice_get ys) (omega arith)
behind (x ∷ xs) ys zero le = absurd (omega arith)
behind (x ∷ xs) ys (suc i) le = behind xs ys i (omega arith) ∙ ap (slice_get ys) (omega arith)

dynamic_entry : (entries : List Header) (max_size index place : ℕ) → 61 < index → place ≡ index - 1 - 61 → entry_at (table_of entries max_size) index ≡ slice_get entries place
dynamic_entry entries max_size zero place lt e = absurd (omega arith)
dynamic_entry entries max_size (suc before) place lt e = behind static_table entries before (omega (arith, many)) ∙ ap (slice_get entries) (omega (arith, many))

pub entry_there : (table : Table) (entries : List Header) (max_size index place : ℕ) (entry : Header) (name value : List ℕ) → table ≡ table_of entries max_size → 61 < index → place ≡ index - 1 - 61 → place < length entries
    → entry ≡ get_or entries place entry → name ≡ entry.name → value ≡ entry.value → found BadIndex (entry_at table index) ≡ Ok (header name value)
entry_there table entries max_size index place entry name value e lt ep within at en ev =
    ap (λ t. found BadIndex (entry_at t index)) e ∙ ap (found BadIndex) (dynamic_entry entries max_size index place lt ep ∙ slice_get_read entries (length entries) place entry refl within at) ∙ ap (λ x. Ok x) (made entry name value en ev)

pub entry_missing : (table : Table) (entries : List Header) (max_size index place : ℕ) → table ≡ table_of entries max_size → 61 < index → place ≡ index - 1 - 61 → length entries ≤ place
    → found BadIndex (entry_at table index) ≡ Err BadIndex
entry_missing table entries max_size index place e lt ep past =
    ap (λ t. found BadIndex (entry_at t index)) e ∙ ap (found BadIndex) (dynamic_entry entries max_size index place lt ep ∙ slice_get_past entries place past)

abbrev done : Table → Result Table HpackFault
done table = Ok table

pub too_large : (table : Table) (entries : List Header) (max_size size : ℕ) (entry : Header) (new : List Header) → table ≡ table_of entries max_size → size ≡ entry_size entry → max_size < size → new ≡ []
    → done (inserted entry table) ≡ done (table_of new max_size)
too_large table entries max_size size entry new e es lt en = rw (e, en, fit_none max_size entry entries (omega (arith, es))) refl

pub has_room : (table : Table) (entries : List Header) (max_size size : ℕ) (entry : Header) (left new : List Header) → table ≡ table_of entries max_size → size ≡ entry_size entry → size ≤ max_size
    → left ≡ fitting (max_size - size) entries → new ≡ entry ∷ left → done (inserted entry table) ≡ done (table_of new max_size)
has_room table entries max_size size entry left new e es le el en =
    rw (e, en, el, fit_new max_size entry entries (omega (arith, es)), es) refl
