-- The grammar of tapes with lanes of bytes (this project's profile).
use Rattle.std.specs.Prelude.{◌≡◌, ℕ, ◌<◌, ◌≤◌, ◌==◌, ◌&&◌, not, Bool, true, false, if◌then◌else◌, List, [], ◌∷◌, ◌++◌, length, take, Option, Some, None}
use Rattle.std.specs.List.{flat_map}
use Rattle.p4_types.specs.declared.tape.TapeRecord.{TapeRecord}
use Rattle.p4_types.specs.declared.tape.TapeRecord.TheVariants.{Call, Packet, Leave, Meet}
use Rattle.run_spec.specs.Tape.{framed, record_bytes, IsRecord, HasMade, Lanes, no_lanes, lanes_after, magic, end_bytes}
use Rattle.tape_spec.specs.declared.item.TapeItem.{TapeItem}
use Rattle.tape_spec.specs.declared.item.TapeItem.TheVariants.{Record, Bytes}

-- how an item stands on a tape
abbrev pub item_bytes : TapeItem → List ℕ
item_bytes (Record it) = record_bytes it
item_bytes (Bytes lane bytes) = framed 3 lane bytes

-- what is true of the item of a client's bytes: one of 32 controllers' lanes, 1 to 65,536 bytes
pub record IsPiece (lane : ℕ) (bytes : List ℕ) : Type 0 where
  pub of_controller : lane < 32
  pub some : 1 ≤ length bytes
  pub size : length bytes ≤ 65536

-- what is true of an item by itself
abbrev pub IsItem : TapeItem → Type 0
IsItem (Record it) = IsRecord it
IsItem (Bytes lane bytes) = IsPiece lane bytes

-- whether it brings bytes
abbrev pub is_piece : TapeItem → Bool
is_piece (Record it) = false
is_piece (Bytes lane bytes) = true

-- the record that it is, if it is one
abbrev pub record_in : TapeItem → Option TapeRecord
record_in (Record it) = Some it
record_in (Bytes lane bytes) = None

-- what the items of a tape so far say of its lanes: what its records say, which controllers' lanes have asked by records of calls, and which have brought bytes
pub record ItemLanes : Type 0 where
  pub lanes : Lanes
  pub asks : ℕ → Bool
  pub brings : ℕ → Bool

-- before the first item
abbrev pub no_item_lanes : ItemLanes
no_item_lanes = record { lanes = no_lanes; asks = λ lane. false; brings = λ lane. false }

-- one lane more
abbrev pub and_this : ℕ → (ℕ → Bool) → ℕ → Bool
and_this lane is other = if other == lane then true else is other

-- the lanes behind an item
abbrev pub lanes_behind : ItemLanes → TapeItem → ItemLanes
lanes_behind before (Record (Call lane method message)) = record before { lanes = lanes_after before.lanes (Call lane method message); asks = and_this lane before.asks }
lanes_behind before (Record (Packet lane port packet)) = before
lanes_behind before (Record (Leave lane)) = record before { lanes = lanes_after before.lanes (Leave lane) }
lanes_behind before (Record (Meet lane controller call)) = before
lanes_behind before (Bytes lane bytes) = record before { brings = and_this lane before.brings }

-- A lane that has brought bytes has no record of a call.
abbrev pub takes_call : ItemLanes → ℕ → Bool
takes_call lanes lane = not (lanes.brings lane)

-- A lane that has asked by a record of a call, or has left, brings no bytes.
abbrev pub takes_bytes : ItemLanes → ℕ → Bool
takes_bytes lanes lane = not (lanes.asks lane) && not (lanes.lanes.has_left lane)

-- A lane that has brought bytes leaves once.
abbrev pub takes_leave : ItemLanes → ℕ → Bool
takes_leave lanes lane = not (lanes.brings lane && lanes.lanes.has_left lane)

-- the lane of a record takes it
abbrev pub IsTaken : ItemLanes → TapeRecord → Type 0
IsTaken lanes (Call lane method message) = takes_call lanes lane ≡ true
IsTaken lanes (Packet lane port packet) = Unit {0}
IsTaken lanes (Leave lane) = takes_leave lanes lane ≡ true
IsTaken lanes (Meet lane controller call) = Unit {0}

-- the item may stand where the lanes are so
abbrev pub MayFollow : ItemLanes → TapeItem → Type 0
MayFollow lanes (Record it) = IsRecord it × HasMade lanes.lanes it × IsTaken lanes it
MayFollow lanes (Bytes lane bytes) = IsPiece lane bytes × (takes_bytes lanes lane ≡ true)

-- each item may stand behind those before it
abbrev pub AreItems : ItemLanes → List TapeItem → Type 0
AreItems lanes [] = Unit {0}
AreItems lanes (item ∷ items) = MayFollow lanes item × AreItems (lanes_behind lanes item) items

-- the bytes of the tape of these items
abbrev pub bytes_of : List TapeItem → List ℕ
bytes_of items = magic ++ (flat_map item_bytes items ++ end_bytes)

-- the bytes are the tape of these items
pub record IsTapeOf (bytes : List ℕ) (items : List TapeItem) : Type 0 where
  pub spelled : bytes ≡ bytes_of items
  pub each : AreItems no_item_lanes items

-- some tape begins with these bytes
pub record Begins (bytes : List ℕ) : Type 0 where
  pub items : List TapeItem
  pub more : List ℕ
  pub tape : IsTapeOf (bytes ++ more) items

-- n is the length of the longest front of the bytes with which some tape begins
pub record IsLongestFront (bytes : List ℕ) (n : ℕ) : Type 0 where
  pub within : n ≤ length bytes
  pub begins : Begins (take n bytes)
  pub longest : (m : ℕ) → n < m → m ≤ length bytes → Begins (take m bytes) → ⊥

-- no tape is the front of another
abbrev pub NoneBeginsAnother : Type 0
NoneBeginsAnother = (bytes more : List ℕ) (xs ys : List TapeItem) → IsTapeOf bytes xs → IsTapeOf (bytes ++ more) ys → (more ≡ []) × (xs ≡ ys)
