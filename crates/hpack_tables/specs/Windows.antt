-- Bits that stand at the front of others, as a number.
use Rattle.std.specs.Prelude.{◌≡◌, ℕ, ◌-◌, ◌^◌, ◌<◌, ◌≤◌, List, ◌++◌, Option, Some, None}
use Rattle.list_types.specs.declared.memory.Refusal.{Refusal}
use Rattle.list_types.specs.declared.memory.Refusal.TheVariants as refusals
use Rattle.pkt_bits.specs.Field.{number_bits}
use Rattle.hpack_tables.specs.declared.fault.HpackFault.{HpackFault}
use Rattle.hpack_tables.specs.declared.fault.HpackFault.TheVariants.{BadHuffman}
use Rattle.hpack_tables.specs.Strings.{after, with_symbol, text_from}

-- the octets of so many bits of a number and of the bits that follow
abbrev pub text_of : ℕ → ℕ → List ℕ → Option (List ℕ)
text_of count number rest = text_from 0 0 (number_bits count number ++ rest)

-- these bits hold no whole code
abbrev pub NoSymbol : ℕ → ℕ → Type 0
NoSymbol count number = (rest : List ℕ) → text_of count number rest ≡ text_from count number rest

-- The symbol at the front of these bits, and how many bits its code has. Or there is no whole code.
pub record Begins (count number symbol length : ℕ) : Type 0 where
  pub some : 0 < length
  pub known : symbol ≤ 256
  pub whole : length ≤ count
  pub next : (rest : List ℕ) → text_of count number rest ≡ with_symbol (Some symbol) None (text_of (count - length) number rest)

-- what stands at the front of these bits: a symbol and how many bits its code has, or no whole code
abbrev pub IsFront : ℕ → ℕ → Option (ℕ × ℕ) → Type 0
IsFront count number None = NoSymbol count number
IsFront count number (Some x) = Begins count number x.0 x.1

-- octets and the bits behind them give the same text, whatever follows
abbrev pub SameText : List ℕ → ℕ → ℕ → List ℕ → ℕ → ℕ → Type 0
SameText old count number new left_count left_number = (rest : List ℕ) → after old (text_of count number rest) ≡ after new (text_of left_count left_number rest)

-- so many bits of a number are read as octets, as far as they hold whole codes
pub record AreDrained (old : List ℕ) (count number : ℕ) (new : List ℕ) (left_count left_number : ℕ) : Type 0 where
  pub fits : left_number < 2 ^ left_count
  pub few : left_count ≤ count
  pub same : SameText old count number new left_count left_number
  pub drained : NoSymbol left_count left_number

-- want of memory, or no text begins with these octets and these bits
abbrev pub IsRefused : List ℕ → ℕ → ℕ → Refusal HpackFault → Type 0
IsRefused old count number refusals.NoMemory = Unit {0}
IsRefused old count number (refusals.For fault) = (fault ≡ BadHuffman) × ((rest : List ℕ) → after old (text_of count number rest) ≡ None)
