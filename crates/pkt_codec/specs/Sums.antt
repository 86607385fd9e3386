-- Ones' complement sums of bits.
use Rattle.std.specs.Prelude.{◌≡◌, ℕ, ◌+◌, ◌-◌, ◌*◌, ◌%◌, ◌^◌, ◌<◌, List, [], ◌∷◌}

-- the sum of the 16-bit words of bits that stand behind so many others: each bit by its place in its word
abbrev pub weighed : ℕ → List ℕ → ℕ
weighed place [] = 0
weighed place (bit ∷ others) = bit * 2 ^ (15 - place % 16) + weighed (place + 1) others

-- a word is the ones' complement sum of words whose sum is this: it differs by a multiple of 65,535, and is 0 only where all of them are
pub record IsOnesSum (word sum : ℕ) : Type 0 where
  pub below : word < 2 ^ 16
  pub carried : (times : ℕ) × (sum ≡ word + 65535 * times)
  pub zero_alone : word ≡ 0 → sum ≡ 0
