-- What the bytes of a block are: a relation between its bytes, its headers, and the dynamic table before and after it (RFC 7541, sections 5 and 6).
use Rattle.std.specs.Prelude.{◌≡◌, ◌⊎◌, ℕ, ◌+◌, ◌-◌, ◌*◌, ◌/◌, ◌%◌, ◌^◌, ◌<◌, ◌≤◌, List, [], ◌∷◌, ◌++◌, length, Some}
use Rattle.hpack_tables.specs.declared.header.Header.{Header}
use Rattle.hpack_tables.specs.Tables.{Table, inserted, resized, entry_at}
use Rattle.hpack_tables.specs.Huffman.{IsHuffmanOf}

-- all bytes but the last have the high bit
abbrev pub EndsAtLast : List ℕ → Type 0
EndsAtLast [] = ⊥
EndsAtLast (byte ∷ []) = byte < 128
EndsAtLast (byte ∷ more ∷ rest) = (128 ≤ byte) × EndsAtLast (more ∷ rest)

-- seven bits of each byte, the least significant first
abbrev pub sevens : List ℕ → ℕ
sevens [] = 0
sevens (byte ∷ rest) = byte % 128 + 128 * sevens rest

-- Bytes are an integer whose prefix has so many bits, and before the prefix stand bits with this number. It is all in the prefix, or the prefix is all ones and it goes on.
abbrev pub IsInteger : ℕ → ℕ → ℕ → List ℕ → Type 0
IsInteger prefix form value [] = ⊥
IsInteger prefix form value (byte ∷ rest) =
    (byte / 2 ^ prefix ≡ form) × (value < 2 ^ 32)
    × (((rest ≡ []) × (value < 2 ^ prefix - 1) × (byte % 2 ^ prefix ≡ value)) ⊎ (EndsAtLast rest × (byte % 2 ^ prefix ≡ 2 ^ prefix - 1) × (value ≡ 2 ^ prefix - 1 + sevens rest)))

-- bytes are a string: as it stands, or in the Huffman code
pub record IsString (text bytes : List ℕ) : Type 0 where
  pub form : ℕ
  pub front : List ℕ
  pub inside : List ℕ
  pub size_is : IsInteger 7 form (length inside) front
  pub text_is : ((form ≡ 0) × (text ≡ inside)) ⊎ ((form ≡ 1) × IsHuffmanOf text inside)
  pub bytes_are : bytes ≡ front ++ inside

-- bytes are the name of a literal: that of an entry, or written out behind the index 0
pub record IsName (prefix form : ℕ) (table : Table) (name bytes : List ℕ) : Type 0 where
  pub index : ℕ
  pub front : List ℕ
  pub back : List ℕ
  pub index_is : IsInteger prefix form index front
  pub name_is : ((index ≡ 0) × IsString name back) ⊎ ((0 < index) × ((entry : Header) × (entry_at table index ≡ Some entry) × (entry.name ≡ name) × (back ≡ [])))
  pub bytes_are : bytes ≡ front ++ back

-- bytes are a literal header
pub record IsLiteral (prefix form : ℕ) (table : Table) (entry : Header) (bytes : List ℕ) : Type 0 where
  pub front : List ℕ
  pub back : List ℕ
  pub name_is : IsName prefix form table entry.name front
  pub value_is : IsString entry.value back
  pub bytes_are : bytes ≡ front ++ back

-- bytes are an indexed header
abbrev pub IsIndexed : Table → Header → List ℕ → Type 0
IsIndexed table entry bytes = (index : ℕ) × IsInteger 7 1 index bytes × (entry_at table index ≡ Some entry)

-- Bytes are a header, which makes one table of another: indexed (1), literal with indexing (01), without (0000), or never indexed (0001).
abbrev pub IsField : Table → Header → Table → List ℕ → Type 0
IsField table entry next bytes =
    (IsIndexed table entry bytes × (next ≡ table))
    ⊎ ((IsLiteral 6 1 table entry bytes × (next ≡ inserted entry table))
    ⊎ ((IsLiteral 4 0 table entry bytes ⊎ IsLiteral 4 1 table entry bytes) × (next ≡ table)))

-- bytes are these headers, one after another
abbrev pub AreFields : Table → List Header → Table → List ℕ → Type 0
AreFields table [] next bytes = (bytes ≡ []) × (next ≡ table)
AreFields table (entry ∷ entries) next bytes = (front rest : List ℕ) × (between : Table) × IsField table entry between front × AreFields between entries next rest × (bytes ≡ front ++ rest)

-- bytes are updates of the table's size to these sizes (001), one after another
abbrev pub AreUpdates : Table → List ℕ → Table → List ℕ → Type 0
AreUpdates table [] next bytes = (bytes ≡ []) × (next ≡ table)
AreUpdates table (size ∷ sizes) next bytes = (front rest : List ℕ) × IsInteger 5 1 size front × (size ≤ 4096) × AreUpdates (resized size table) sizes next rest × (bytes ≡ front ++ rest)

-- bytes are a block of these headers: updates first, and then the headers
pub record IsBlock (table : Table) (headers : List Header) (next : Table) (bytes : List ℕ) : Type 0 where
  pub sizes : List ℕ
  pub between : Table
  pub front : List ℕ
  pub rest : List ℕ
  pub updates_are : AreUpdates table sizes between front
  pub headers_are : AreFields between headers next rest
  pub bytes_are : bytes ≡ front ++ rest
