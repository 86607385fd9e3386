-- Reading from left to right, with the first fault that is met.
use Rattle.std.specs.Prelude.{ℕ, List, [], ◌∷◌, Result, Ok, Err}
use Rattle.hpack_tables.specs.declared.fault.HpackFault.{HpackFault}
use Rattle.hpack_tables.specs.declared.fault.HpackFault.TheVariants.{Truncated}

-- a byte, and the bytes after it
abbrev pub byte_at : List ℕ → Result (ℕ × List ℕ) HpackFault
byte_at [] = Err Truncated
byte_at (byte ∷ rest) = Ok (byte, rest)
