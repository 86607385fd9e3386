-- Integers with a prefix (RFC 7541, section 5.1). The greatest that is read is 2^32 - 1.
use Rattle.std.specs.Prelude.{ℕ, ◌+◌, ◌-◌, ◌*◌, ◌%◌, ◌^◌, ◌==◌, nat_lt, if◌then◌else◌, List, [], ◌∷◌, Result, Ok, Err}
use Rattle.hpack_tables.specs.declared.fault.HpackFault.{HpackFault}
use Rattle.hpack_tables.specs.declared.fault.HpackFault.TheVariants.{Truncated}
use Rattle.list_types.specs.Results.{unless}

-- An integer that goes on, of which value is read so far, and the bytes after it. The next seven bits count unit each. At the byte where it passes the greatest number there is this fault.
unfoldable pub integer_from : HpackFault → ℕ → ℕ → List ℕ → Result (ℕ × List ℕ) HpackFault
integer_from fault value unit [] = Err Truncated
integer_from fault value unit (byte ∷ rest) =
    unless (nat_lt (2 ^ 32 - 1) (value + byte % 128 * unit)) fault
    (if nat_lt byte 128 then Ok (value + byte % 128 * unit, rest) else integer_from fault (value + byte % 128 * unit) (unit * 128) rest)

-- An integer with a prefix of so many bits, and the bytes after it. A prefix of ones says that it goes on.
unfoldable pub integer_at : ℕ → HpackFault → List ℕ → Result (ℕ × List ℕ) HpackFault
integer_at prefix fault [] = Err Truncated
integer_at prefix fault (byte ∷ rest) = if byte % 2 ^ prefix == 2 ^ prefix - 1 then integer_from fault (2 ^ prefix - 1) 1 rest else Ok (byte % 2 ^ prefix, rest)
