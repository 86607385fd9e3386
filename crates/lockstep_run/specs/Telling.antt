-- What lanes that bring bytes are told of other lanes' calls.
use Rattle.std.specs.Prelude.{ℕ, List, fold, if◌then◌else◌, Option, Some, None}
use Rattle.std.specs.List.{filter_map, flat_map, list_any}
use Rattle.p4_types.specs.declared.calls.Notice.{Notice}
use Rattle.p4_types.specs.declared.journal.Entry.{Entry}
use Rattle.p4_types.specs.declared.messages.StreamMessageResponse.{StreamMessageResponse}
use Rattle.p4rt_service.specs.Turns.{Served, message_served}
use Rattle.tape_spec.specs.declared.item.TapeItem.{TapeItem}
use Rattle.byte_lanes.specs.Filling.{told, told_by, brings, sent_to}
use Rattle.byte_lanes.specs.Lane.{LaneState, IsLane}

-- messages were sent on the channel, where one is open
abbrev pub TellsEach : List StreamMessageResponse → LaneState → LaneState → Type 0
TellsEach messages before after = (served : Served) → IsLane before served → IsLane after (fold (λ s message. message_served message s) served messages)

-- those of a call's notices that are to the lane
abbrev pub TellsEntry : ℕ → List Notice → LaneState → LaneState → Type 0
TellsEntry lane notices before after = TellsEach (filter_map (told lane) notices) before after

-- those of all other lanes' calls
abbrev pub TellsAll : ℕ → List Entry → LaneState → LaneState → Type 0
TellsAll lane journal before after = TellsEach (flat_map (told_by lane) journal) before after

-- the line of a lane that brings bytes
abbrev pub line_of : List TapeItem → List Entry → (ℕ → Served) → ℕ → Option (ℕ × List ℕ)
line_of items journal served lane = if list_any (brings lane) items then Some (lane, sent_to lane journal (served lane)) else None
