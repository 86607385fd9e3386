-- Laws of header blocks.
use Rattle.std.specs.Prelude.{◌≡◌, ◌↔◌, ℕ, ◌^◌, ◌<◌, ◌≤◌, codes, List, [], ◌∷◌, ◌++◌, length, replicate, sum_by, All, Some, None, Ok, Err}
use Rattle.hpack_tables.specs.declared.header.Header.{Header}
use Rattle.hpack_tables.specs.Strings.{huffman_text}
use Rattle.hpack_tables.specs.declared.fault.HpackFault.TheVariants.{BadIndex, BadHuffman, TableSize, Truncated}
use Rattle.hpack_tables.specs.Tables.{header, entry_size, Table, resized, entry_at}
use Rattle.hpack_tables.specs.Blocks.{block_at}
use Rattle.hpack_tables.specs.Writing.{block_bytes, update_bytes}
use Rattle.hpack_tables.specs.Huffman.{code_of, IsHuffmanOf}
use Rattle.hpack_tables.specs.Headers.{IsBlock}

-- What is written is read back, where it is not too large, and leaves the table as it is.
abbrev pub ReadBack : Type 0
ReadBack = (table : Table) (headers : List Header) → sum_by entry_size headers ≤ 65536 → block_at table (block_bytes headers) ≡ Ok (headers, table)

-- An update of the table's size, written before a block, is read back as the table resized.
abbrev pub UpdateBack : Type 0
UpdateBack = (table : Table) (size : ℕ) (headers : List Header) → size ≤ 4096 → sum_by entry_size headers ≤ 65536
    → block_at table (update_bytes size ++ block_bytes headers) ≡ Ok (headers, resized size table)

-- No code begins with another one.
abbrev pub PrefixFree : Type 0
PrefixFree = (symbol other : ℕ) (more : List ℕ) → symbol ≤ 256 → other ≤ 256 → code_of symbol ≡ code_of other ++ more → symbol ≡ other

-- What bytes are read as in the Huffman code is the one text whose code they are.
abbrev pub OneText : Type 0
OneText = (text bytes : List ℕ) → (huffman_text bytes ≡ Some text) ↔ IsHuffmanOf text bytes

-- What a block is read as is the one list of headers, and the one table, that its bytes are a block of, where the list is not too large.
abbrev pub OneBlock : Type 0
OneBlock = (table : Table) (bytes : List ℕ) (headers : List Header) (next : Table) → All (λ byte. byte < 256) bytes
    → (block_at table bytes ≡ Ok (headers, next)) ↔ (IsBlock table headers next bytes × (sum_by entry_size headers ≤ 65536))

-- a header whose name and value have lengths that can be written and read
pub record IsShort (entry : Header) : Type 0 where
  pub name : length entry.name < 2 ^ 32
  pub value : length entry.value < 2 ^ 32

-- What is written is a block of its headers, and leaves the table as it is.
abbrev pub WrittenBlock : Type 0
WrittenBlock = (table : Table) (headers : List Header) → All IsShort headers → IsBlock table headers table (block_bytes headers)

-- a table of 4,096 bytes without entries
abbrev pub empty : Table
empty = record { entries = []; max_size = 4096 }

-- Some entries, codes and blocks (RFC 7541, appendices A, B, C.2.4 and C.4.1), and some blocks with faults.
pub record WorkedBlocks : Type 0 where
  pub first_entry : entry_at empty 1 ≡ Some (header (codes ":authority") [])
  pub third_entry : entry_at empty 3 ≡ Some (header (codes ":method") (codes "POST"))
  pub last_entry : entry_at empty 61 ≡ Some (header (codes "www-authenticate") [])
  pub no_entry : entry_at empty 62 ≡ None
  pub code_of_0 : code_of 48 ≡ 0 ∷ 0 ∷ 0 ∷ 0 ∷ 0 ∷ []
  pub code_of_X : code_of 88 ≡ 1 ∷ 1 ∷ 1 ∷ 1 ∷ 1 ∷ 1 ∷ 0 ∷ 0 ∷ []
  pub code_of_EOS : code_of 256 ≡ replicate 30 1
  pub indexed : block_at empty (0x82 ∷ []) ≡ Ok (header (codes ":method") (codes "GET") ∷ [], empty)
  pub request : block_at empty (0x82 ∷ 0x86 ∷ 0x84 ∷ 0x41 ∷ 0x8c ∷ 0xf1 ∷ 0xe3 ∷ 0xc2 ∷ 0xe5 ∷ 0xf2 ∷ 0x3a ∷ 0x6b ∷ 0xa0 ∷ 0xab ∷ 0x90 ∷ 0xf4 ∷ 0xff ∷ [])
      ≡ Ok (
        header (codes ":method") (codes "GET") ∷ header (codes ":scheme") (codes "http") ∷ header (codes ":path") (codes "/") ∷ header (codes ":authority") (codes "www.example.com") ∷ [],
        record { entries = header (codes ":authority") (codes "www.example.com") ∷ []; max_size = 4096 },
      )
  pub index_0 : block_at empty (0x80 ∷ []) ≡ Err BadIndex
  pub index_past : block_at empty (0xbe ∷ []) ≡ Err BadIndex
  pub all_padding : block_at empty (0x00 ∷ 0x81 ∷ 0xff ∷ []) ≡ Err BadHuffman
  pub whole_EOS : block_at empty (0x00 ∷ 0x84 ∷ 0xff ∷ 0xff ∷ 0xff ∷ 0xff ∷ []) ≡ Err BadHuffman
  pub greatest_size : block_at empty (0x3f ∷ 0xe1 ∷ 0x1f ∷ []) ≡ Ok ([], empty)
  pub size_too_large : block_at empty (0x3f ∷ 0xe2 ∷ 0x1f ∷ []) ≡ Err TableSize
  pub update_late : block_at empty (0x82 ∷ 0x20 ∷ []) ≡ Err TableSize
  pub cut_off : block_at empty (0x00 ∷ 0x03 ∷ 0x61 ∷ 0x62 ∷ []) ≡ Err Truncated
