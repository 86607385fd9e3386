-- A tape with lanes of bytes, read from left to right. An error says how many bytes are left from the first bad byte on; 0 says that bytes are missing.
use Rattle.std.specs.Prelude.{ℕ, zero, suc, ◌-◌, nat_lt, nat_le, ◌==◌, ◌||◌, ◌&&◌, Bool, false, if◌then◌else◌, List, [], ◌∷◌, length, Option, Some, None, Result, Ok, Err}
use Rattle.p4_types.specs.declared.tape.TapeRecord.{TapeRecord}
use Rattle.p4_types.specs.declared.tape.TapeRecord.TheVariants.{Call, Leave}
use Rattle.list_types.specs.Results.{◌>>=◌}
use Rattle.run_spec.specs.Tape.{magic}
use Rattle.run_spec.specs.TapeReading.{number_at, bytes_at, text_at, method_of, packet_at, some_called, meet_at, end_at}
use Rattle.tape_spec.specs.declared.item.TapeItem.{TapeItem}
use Rattle.tape_spec.specs.declared.item.TapeItem.TheVariants.{Record, Bytes}
use Rattle.tape_spec.specs.Items.{ItemLanes, no_item_lanes, lanes_behind, takes_call, takes_bytes, takes_leave}

-- what keeps bytes from being a tape within the limit of items, and how many bytes are left from there on
pub data Flaw : Type 0 where
  -- the first byte with which no tape goes on
  Bad : (left : ℕ) → Flaw
  -- the first byte of an item past the limit
  TooMany : (left : ℕ) → Flaw

-- whether a number is that of a controller's lane of these
abbrev pub is_lane : (ℕ → Bool) → ℕ → Bool
is_lane these lane = nat_lt lane 32 && these lane

-- whether one of the first so many controllers' lanes is of these
abbrev pub some_lane : ℕ → (ℕ → Bool) → Bool
some_lane zero these = false
some_lane (suc n) these = is_lane these n || some_lane n these

-- in one byte a controller's lane of these, and the bytes after it
unfoldable pub low_at : (ℕ → Bool) → List ℕ → Result (ℕ × List ℕ) ℕ
low_at these [] = Err 0
low_at these (b ∷ rest) = if is_lane these b then Ok (b, rest) else Err (length (b ∷ rest))

-- in two bytes, of which the first is 0, a controller's lane of these, and the bytes after it
unfoldable pub lane_at : (ℕ → Bool) → List ℕ → Result (ℕ × List ℕ) ℕ
lane_at these bytes = do
  high ← number_at 1 0 0 bytes
  low_at these high.1

-- what stands behind the kind of a call
unfoldable pub call_at : ItemLanes → List ℕ → Result (TapeItem × List ℕ) ℕ
call_at lanes bytes = do
  lane ← lane_at (takes_call lanes) bytes
  size ← number_at 4 1 8388609 lane.1
  method ← number_at 1 1 6 size.1
  message ← bytes_at (size.0 - 1) method.1
  Ok (Record (Call lane.0 (method_of method.0) message.0), message.1)

-- what stands behind the kind of a client's bytes
unfoldable pub piece_at : ItemLanes → List ℕ → Result (TapeItem × List ℕ) ℕ
piece_at lanes bytes = do
  lane ← lane_at (takes_bytes lanes) bytes
  size ← number_at 4 1 65536 lane.1
  piece ← bytes_at size.0 size.1
  Ok (Bytes lane.0 piece.0, piece.1)

-- what stands behind the kind of a stream's end
unfoldable pub leave_at : ItemLanes → List ℕ → Result (TapeItem × List ℕ) ℕ
leave_at lanes bytes = do
  lane ← lane_at (takes_leave lanes) bytes
  size ← number_at 4 0 0 lane.1
  Ok (Record (Leave lane.0), size.1)

-- a record as an item
abbrev pub as_item : Result (TapeRecord × List ℕ) ℕ → Result (Option TapeItem × List ℕ) ℕ
as_item read = read >>= λ x. Ok (Some (Record x.0), x.1)

-- an item, as one that there is
abbrev pub as_some : Result (TapeItem × List ℕ) ℕ → Result (Option TapeItem × List ℕ) ℕ
as_some read = read >>= λ x. Ok (Some x.0, x.1)

-- An item, or None for the end record, and the bytes after it, where the lanes are so. A kind may stand only where some lane takes it, and a meet where some call was made.
unfoldable pub item_at : ItemLanes → List ℕ → Result (Option TapeItem × List ℕ) ℕ
item_at lanes [] = Err 0
item_at lanes (kind ∷ bytes) =
    if kind == 0 then (end_at bytes >>= λ rest. Ok (None, rest))
    else if kind == 1 && some_lane 32 (takes_call lanes) then as_some (call_at lanes bytes)
    else if kind == 2 then as_item (packet_at bytes)
    else if kind == 3 && some_lane 32 (takes_bytes lanes) then as_some (piece_at lanes bytes)
    else if kind == 4 && some_lane 32 (takes_leave lanes) then as_some (leave_at lanes bytes)
    else if kind == 5 && some_called 32 lanes.lanes then as_item (meet_at lanes.lanes bytes)
    else Err (length (kind ∷ bytes))

-- an error of a reader as a flaw
abbrev pub or_bad : {A : Type 0} → Result A ℕ → Result A Flaw
or_bad (Ok x) = Ok x
or_bad (Err left) = Err (Bad left)

-- whether a byte is the kind of an item that the limit counts
abbrev pub is_counted : ℕ → Bool
is_counted kind = nat_le 1 kind && nat_le kind 5

-- an item of a kind that is counted begins
abbrev pub begins_counted : List ℕ → Bool
begins_counted [] = nat_lt 0 0
begins_counted (kind ∷ bytes) = is_counted kind

-- an item beyond the limit is a flaw at its first byte, also one of a kind that may not stand there
abbrev pub item_within : ℕ → ItemLanes → List ℕ → Result (Option TapeItem × List ℕ) Flaw
item_within zero lanes bytes = if begins_counted bytes then Err (TooMany (length bytes)) else or_bad (item_at lanes bytes)
item_within (suc k) lanes bytes = or_bad (item_at lanes bytes)

-- nothing stands behind the end record
abbrev pub nothing_after : List ℕ → Result (List TapeItem) Flaw
nothing_after [] = Ok []
nothing_after (b ∷ rest) = Err (Bad (length (b ∷ rest)))

-- with one more at the front
abbrev pub with_first : TapeItem → Result (List TapeItem) Flaw → Result (List TapeItem) Flaw
with_first first read = read >>= λ others. Ok (first ∷ others)

-- at most so many items, the end record, and nothing behind it, where the lanes are so
unfoldable pub items_at : ℕ → ItemLanes → List ℕ → Result (List TapeItem) Flaw
items_at zero lanes bytes = item_within 0 lanes bytes >>= λ x. nothing_after x.1
items_at (suc k) lanes bytes = item_within (suc k) lanes bytes >>= λ x. elim x.0 [ None ↦ nothing_after x.1 | Some first ↦ with_first first (items_at k (lanes_behind lanes first) x.1) ]

-- the items of a tape of at most so many
unfoldable pub tape_at : ℕ → List ℕ → Result (List TapeItem) Flaw
tape_at limit bytes = or_bad (text_at magic bytes) >>= items_at limit no_item_lanes
