-- Headers as literals without indexing, each name written out and no Huffman code (RFC 7541, sections 5.1, 5.2 and 6.2.2), and updates of the table's size.
use Rattle.std.specs.Prelude.{ℕ, ◌+◌, ◌-◌, nat_lt, if◌then◌else◌, List, [], ◌∷◌, ◌++◌, length}
use Rattle.std.specs.List.{flat_map}
use Rattle.canon_bytes.specs.Base128.{base_128}
use Rattle.hpack_tables.specs.declared.header.Header.{Header}

-- a length, with a prefix of seven bits
abbrev pub length_bytes : ℕ → List ℕ
length_bytes size = if nat_lt size 127 then size ∷ [] else 127 ∷ base_128 10 (size - 127)

-- a string as it stands, behind its length
abbrev pub string_bytes : List ℕ → List ℕ
string_bytes string = length_bytes (length string) ++ string

-- a header as a literal without indexing, its name written out
abbrev pub header_bytes : Header → List ℕ
header_bytes header = 0 ∷ string_bytes header.name ++ string_bytes header.value

-- a block of these headers
abbrev pub block_bytes : List Header → List ℕ
block_bytes headers = flat_map header_bytes headers

-- an update of the table's size, whose prefix has five bits (section 6.3)
abbrev pub update_bytes : ℕ → List ℕ
update_bytes size = if nat_lt size 31 then (32 + size) ∷ [] else 63 ∷ base_128 10 (size - 31)
