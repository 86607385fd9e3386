use Rattle.std.proofs.Common.{◌≡◌, ◌∙◌, ℕ, ◌+◌, ◌-◌, ◌*◌, fold, refl, ap, arith}
use Rattle.packet_spec.specs.Choosing.{hashed}
use Rattle.pkt_bits.specs.Field.{number_bits}
use Rattle.program_spec.specs.Numbers.{bytes_of}
use Rattle.pkt_walk.proofs.NumberBytes.{hash_on}
use Rattle.pkt_walk.proofs.hashing.hash_number.Goals as goal

pub loop-behind-preserved : goal.loop-behind-preserved
loop-behind-preserved c =
    let count : ℕ = c.loop-behind.behind - 1 in
    let one : count + 1 ≡ c.loop-behind.behind = omega (arith, c.loop-behind-test.true) in
    hash_on c.loop-behind.hash count c.args.number _ c.hash_byte-hash.result _ refl c.hash_byte-hash.ensures
    (ap (λ n. fold hashed c.loop-behind.hash (bytes_of (number_bits (8 * n) c.args.number))) one ∙ c.loop-behind.invariant)
