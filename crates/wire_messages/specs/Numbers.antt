-- The values that a varint may have in a field of each type (Protocol Buffers encoding, "Integer Types"; ranges: this project's profile).
use Rattle.std.specs.Prelude.{ℕ, ℤ, pos, negsuc, ◌-◌, ◌^◌, nat_lt, nat_le, ◌==◌, Bool, true, false, if◌then◌else◌, Option, Some, None}

-- uint32
abbrev pub as_uint32 : ℕ → Option ℕ
as_uint32 n = if nat_lt n (2 ^ 32) then Some n else None

-- uint64
abbrev pub as_uint64 : ℕ → Option ℕ
as_uint64 n = Some n

-- int32 and enumerations: negative numbers are ten bytes long, as numbers of 64 bits
abbrev pub as_int32 : ℕ → Option ℤ
as_int32 n = if nat_lt n (2 ^ 31) then Some (pos n) else if nat_le (2 ^ 64 - 2 ^ 31) n then Some (negsuc (2 ^ 64 - 1 - n)) else None

-- int64
abbrev pub as_int64 : ℕ → Option ℤ
as_int64 n = if nat_lt n (2 ^ 63) then Some (pos n) else Some (negsuc (2 ^ 64 - 1 - n))

-- bool
abbrev pub as_bool : ℕ → Option Bool
as_bool n = if n == 0 then Some false else if n == 1 then Some true else None
