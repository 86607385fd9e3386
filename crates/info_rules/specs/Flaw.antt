-- The first rule that a P4Info breaks.
use Rattle.std.specs.Prelude.{ℕ, if◌then◌else◌, Option, Some, None}
use Rattle.p4_types.specs.declared.p4info.P4Info.{P4Info}
use Rattle.info_rules.specs.Rules.{breaks_i2, breaks_i3, breaks_i4, breaks_i5, breaks_i6, breaks_i7, breaks_i8, breaks_i9}

-- the number of the first broken rule of a P4Info that is read
unfoldable pub flaw : P4Info → Option ℕ
flaw info =
    if breaks_i2 info then Some 2 else
    if breaks_i3 info then Some 3 else
    if breaks_i4 info then Some 4 else
    if breaks_i5 info then Some 5 else
    if breaks_i6 info then Some 6 else
    if breaks_i7 info then Some 7 else
    if breaks_i8 info then Some 8 else
    if breaks_i9 info then Some 9 else None

-- I1 where it is not read, else the first of I2 to I9
abbrev pub flaw_read : Option P4Info → Option ℕ
flaw_read None = Some 1
flaw_read (Some info) = flaw info
