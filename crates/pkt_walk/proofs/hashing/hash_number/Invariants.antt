use Rattle.std.proofs.Common.{◌≡◌, ◌*◌, fold}
use Rattle.packet_spec.specs.Choosing.{hashed}
use Rattle.pkt_bits.specs.Field.{number_bits}
use Rattle.program_spec.specs.Numbers.{bytes_of}
use Rattle.pkt_walk.proofs.hashing.hash_number.Given as goal

abbrev pub invariant-loop-behind : goal.invariant-loop-behind
invariant-loop-behind l =
    fold hashed l.hash (bytes_of (number_bits (8 * l.behind) l.number)) ≡ fold hashed l.initial.hash (bytes_of (number_bits (8 * l.bytes) l.number))
