use Rattle.std.proofs.Common.{refl}
use Rattle.canon_bytes.specs.Bits.{bits, num}
use Rattle.canon_bytes.specs.ByteString.{canon}
use Rattle.canon_bytes.proofs.laws.worked_strings.Goals as goal

pub returns : goal.returns
unfolding bits num canon
returns c = record { one_byte = refl; leading_zero = refl; two_bytes = refl; shortest = refl; big_endian = refl; zero_is = refl }
