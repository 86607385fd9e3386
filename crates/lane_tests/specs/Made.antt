-- What a lane's calls were answered.
use Rattle.std.specs.Prelude.{ℕ, List, [], map}
use Rattle.p4_types.specs.declared.journal.Entry.{Entry}
use Rattle.lane_table.specs.Lanes.{LaneTableId, Journal, Lane, of_lane}

-- a lane, and the steps of the answers to its calls
pub record Answered : Type 0 where
  pub lane : ℕ
  pub steps : List ℕ

-- the steps of the answers, in their order
abbrev pub steps_of : List Entry → List ℕ
steps_of entries = map (λ e. e.reply.steps) entries

-- the answers that the journal has of a lane
abbrev pub steps_in : List Entry → ℕ → List ℕ
steps_in journal lane = steps_of (of_lane (λ e. e.lane) lane journal)

-- the journal's seat of a journal with four lanes
abbrev pub four_lanes : LaneTableId → List Entry → Journal Entry
four_lanes t entries = record { table = t; entries = entries; lanes = 4 }

-- the seat of a lane that has made no call
abbrev pub unused : LaneTableId → ℕ → Lane Entry
unused t n = record { table = t; number = n; entries = [] }
