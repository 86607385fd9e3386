-- Texts in the Huffman code (RFC 7541, section 5.2 and appendix B).
use Rattle.std.specs.Prelude.{◌≡◌, ℕ, ◌+◌, ◌<◌, List, ◌++◌, length, take, slice_index, All}
use Rattle.std.specs.List.{flat_map}
use Rattle.canon_bytes.specs.Bits.{bits}
use Rattle.pkt_bits.specs.Field.{number_bits}
use Rattle.hpack_tables.specs.Code.{code_lengths, symbols_from, first_code}

-- the number of a symbol's code: the codes of a length follow one another, as their symbols do
abbrev pub code_number : ℕ → ℕ
code_number symbol = first_code (slice_index code_lengths symbol) + length (symbols_from (slice_index code_lengths symbol) 0 (take symbol code_lengths))

-- the code of a symbol, the most significant bit first
abbrev pub code_of : ℕ → List ℕ
code_of symbol = number_bits (slice_index code_lengths symbol) (code_number symbol)

-- Bytes are a text in the Huffman code: the codes of its octets, and then padding of fewer than eight ones.
pub record IsHuffmanOf (text bytes : List ℕ) : Type 0 where
  pub octets : All (λ octet. octet < 256) text
  pub padding : List ℕ
  pub few : length padding < 8
  pub ones : All (λ bit. bit ≡ 1) padding
  pub bits_are : bits bytes ≡ flat_map code_of text ++ padding
