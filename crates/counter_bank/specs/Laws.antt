-- What the changes of figures do, slot by slot.
use Rattle.std.specs.Prelude.{◌≡◌, ◌≢◌, ℕ, ◌+◌, max, List}
use Rattle.counter_bank.specs.Figures.{packets_of, bytes_of, AtMost, count_packet, note, sums, greater}

-- the two lists have the same figures at a slot
abbrev SameAt : List ℕ → List ℕ → ℕ → Type 0
SameAt xs ys slot = (packets_of xs slot ≡ packets_of ys slot) × (bytes_of xs slot ≡ bytes_of ys slot)

-- a packet adds one and its bytes at its slot, and nothing at any other
abbrev pub CountsOnePacket : Type 0
CountsOnePacket = (xs : List ℕ) (slot bytes : ℕ) → let ys = count_packet xs slot bytes in
    (packets_of ys slot ≡ packets_of xs slot + 1) × (bytes_of ys slot ≡ bytes_of xs slot + bytes) × ((other : ℕ) → other ≢ slot → SameAt ys xs other)

-- noted sums stand at their slot where they are greater than what was noted, and nowhere else
abbrev pub NotesOneSlot : Type 0
NotesOneSlot = (xs : List ℕ) (slot packets bytes : ℕ) → let ys = note xs slot packets bytes in
    (packets_of ys slot ≡ max (packets_of xs slot) packets) × (bytes_of ys slot ≡ max (bytes_of xs slot) bytes) × ((other : ℕ) → other ≢ slot → SameAt ys xs other)

-- what two seats added is summed at each slot
abbrev pub SumsEachSlot : Type 0
SumsEachSlot = (xs ys : List ℕ) (slot : ℕ) → (packets_of (sums xs ys) slot ≡ packets_of xs slot + packets_of ys slot) × (bytes_of (sums xs ys) slot ≡ bytes_of xs slot + bytes_of ys slot)

-- of what two seats noted the greater stands at each slot
abbrev pub GreaterAtEachSlot : Type 0
GreaterAtEachSlot = (xs ys : List ℕ) (slot : ℕ) → (packets_of (greater xs ys) slot ≡ max (packets_of xs slot) (packets_of ys slot)) × (bytes_of (greater xs ys) slot ≡ max (bytes_of xs slot) (bytes_of ys slot))

-- none of these changes lowers a figure
abbrev pub NothingFalls : Type 0
NothingFalls = (xs ys : List ℕ) (slot packets bytes at : ℕ)
    → AtMost xs (count_packet xs slot bytes) at × AtMost xs (note xs slot packets bytes) at × AtMost xs (sums xs ys) at × AtMost xs (greater xs ys) at × AtMost ys (greater xs ys) at
