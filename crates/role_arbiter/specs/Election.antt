-- Election ids (P4Runtime 1.3.0, "Mastership Arbitration").
use Rattle.std.specs.Prelude.{ℕ, ◌+◌, ◌*◌, ◌^◌}
use Rattle.p4_types.specs.declared.messages.Uint128.{Uint128}

-- an election id as a number of 128 bits
abbrev pub election_number : Uint128 → ℕ
election_number id = id.high * 2 ^ 64 + id.low
