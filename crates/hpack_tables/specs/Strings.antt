-- String literals (RFC 7541, section 5.2).
use Rattle.std.specs.Prelude.{ℕ, suc, ◌+◌, ◌*◌, ◌^◌, ◌&&◌, ◌==◌, nat_lt, nat_le, Bool, if◌then◌else◌, List, [], ◌∷◌, ◌++◌, length, take, drop, slice_index, Option, Some, None, Result, Ok}
use Rattle.list_types.specs.Results.{◌>>=◌, unless, found}
use Rattle.canon_bytes.specs.Bits.{bits}
use Rattle.hpack_tables.specs.declared.fault.HpackFault.{HpackFault}
use Rattle.hpack_tables.specs.declared.fault.HpackFault.TheVariants.{BadHuffman, Truncated}
use Rattle.hpack_tables.specs.Code.{symbol_of}
use Rattle.hpack_tables.specs.Integers.{integer_at}

-- octets before a text, if there is one
abbrev pub after : List ℕ → Option (List ℕ) → Option (List ℕ)
after octets None = None
after octets (Some text) = Some (octets ++ text)

-- What a symbol, if one is whole, makes of a text. EOS is not allowed.
abbrev pub with_symbol : Option ℕ → Option (List ℕ) → Option (List ℕ) → Option (List ℕ)
with_symbol None going_on next = going_on
with_symbol (Some symbol) going_on next = if symbol == 256 then None else after (symbol ∷ []) next

-- The octets of these bits, where so many bits before them, with this number, are of a code that is not whole. What is left at the end is padding: fewer than eight bits, all ones.
unfoldable pub text_from : ℕ → ℕ → List ℕ → Option (List ℕ)
text_from held code [] = if nat_lt held 8 && (code + 1 == 2 ^ held) then Some [] else None
text_from held code (bit ∷ bits) = with_symbol (symbol_of (suc held) (2 * code + bit)) (text_from (suc held) (2 * code + bit) bits) (text_from 0 0 bits)

-- the octets that bytes stand for in the Huffman code
abbrev pub huffman_text : List ℕ → Option (List ℕ)
huffman_text bytes = text_from 0 0 (bits bytes)

-- the octets of a string, which may be in the Huffman code
abbrev pub octets : Bool → List ℕ → Result (List ℕ) HpackFault
octets is_huffman bytes = if is_huffman then found BadHuffman (huffman_text bytes) else Ok bytes

-- A string, and the bytes after it. One that is not whole is not looked into.
unfoldable pub string_at : List ℕ → Result (List ℕ × List ℕ) HpackFault
string_at bytes = do
  size ← integer_at 7 Truncated bytes
  unless (nat_lt (length size.1) size.0) Truncated (do
    text ← octets (nat_le 128 (slice_index bytes 0)) (take size.0 size.1)
    Ok (text, drop size.0 size.1))
