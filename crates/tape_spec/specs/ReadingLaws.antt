-- What holds of tapes with lanes of bytes and of their reading.
use Rattle.std.specs.Prelude.{◌≡◌, ℕ, ◌-◌, ◌≤◌, List, ◌∷◌, ◌++◌, length, Ok, Err}
use Rattle.std.specs.List.{flat_map}
use Rattle.run_spec.specs.Tape.{magic}
use Rattle.tape_spec.specs.Reading.{Bad, TooMany, tape_at}
use Rattle.tape_spec.specs.declared.item.TapeItem.{TapeItem}
use Rattle.tape_spec.specs.Items.{item_bytes, no_item_lanes, AreItems, IsTapeOf, IsLongestFront}

-- the bytes are the tape of no items
abbrev pub IsNone : List ℕ → Type 0
IsNone bytes = (items : List TapeItem) → IsTapeOf bytes items → ⊥

-- so many items stand behind the magic, and behind them one more begins, of the kinds 1 to 5
pub record GoesBeyond (limit : ℕ) (bytes : List ℕ) (left : ℕ) : Type 0 where
  pub items : List TapeItem
  pub kind : ℕ
  pub rest : List ℕ
  pub spelled : bytes ≡ magic ++ (flat_map item_bytes items ++ kind ∷ rest)
  pub each : AreItems no_item_lanes items
  pub full : length items ≡ limit
  pub low_kind : 1 ≤ kind
  pub high_kind : kind ≤ 5
  pub place : length (kind ∷ rest) ≡ left

-- what is read are the items of the tape that the bytes are
abbrev pub ReadAreItems : Type 0
ReadAreItems = (limit : ℕ) (bytes : List ℕ) (items : List TapeItem) → tape_at limit bytes ≡ Ok items → IsTapeOf bytes items × (length items ≤ limit)

-- a tape of no more items than the limit is read
abbrev pub ItemsAreRead : Type 0
ItemsAreRead = (limit : ℕ) (bytes : List ℕ) (items : List TapeItem) → IsTapeOf bytes items → length items ≤ limit → tape_at limit bytes ≡ Ok items

-- bytes with a bad place are no tape, and the place is where the longest front ends with which some tape begins
abbrev pub BadPlaceIsExact : Type 0
BadPlaceIsExact = (limit : ℕ) (bytes : List ℕ) (left : ℕ) → tape_at limit bytes ≡ Err (Bad left) → IsLongestFront bytes (length bytes - left) × (left ≤ length bytes) × IsNone bytes

-- too many items are as many as the limit, and one more that begins where it is said
abbrev pub BeyondIsExact : Type 0
BeyondIsExact = (limit : ℕ) (bytes : List ℕ) (left : ℕ) → tape_at limit bytes ≡ Err (TooMany left) → GoesBeyond limit bytes left

-- where one item more begins than the limit allows, there are too many
abbrev pub BeyondIsFound : Type 0
BeyondIsFound = (limit : ℕ) (bytes : List ℕ) (left : ℕ) → GoesBeyond limit bytes left → tape_at limit bytes ≡ Err (TooMany left)
