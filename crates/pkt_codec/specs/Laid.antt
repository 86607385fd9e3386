-- Bits that are laid end to end, of which the last may stand in a word.
use Rattle.std.specs.Prelude.{◌+◌, ◌*◌, ◌^◌, ◌<◌, ◌≤◌, ◌++◌, ℕ, List, length, take}
use Rattle.canon_bytes.specs.Bits.{bits}
use Rattle.pkt_bits.specs.Field.{number_bits}
use Rattle.pkt_codec.specs.declared.laying.Laying.{Laying}

-- the bits that were laid: those that are written, then those of the word
abbrev pub so_far : List ℕ → Laying → List ℕ
so_far bytes laying = take laying.at (bits bytes) ++ number_bits laying.filled laying.word

-- the word is one of 64 bits at most, for which there is room behind those that are written
pub record IsLaying (bytes : List ℕ) (laying : Laying) : Type 0 where
  pub few : laying.filled ≤ 64
  pub fits : laying.word < 2 ^ laying.filled
  pub within : laying.at + laying.filled ≤ 8 * length bytes
