-- What the records of a tape give each lane (this project's profile).
use Rattle.std.specs.Prelude.{ℕ, zero, suc, ◌<◌, ◌≤◌, List, [], ◌∷◌, ◌++◌, length}
use Rattle.std.specs.List.{filter_map}
use Rattle.p4_types.specs.declared.tape.TapeRecord.{TapeRecord}
use Rattle.run_spec.specs.Report.{call_on, item_on}
use Rattle.switch_spec.specs.declared.calls.LaneCall.{LaneCall}
use Rattle.switch_spec.specs.declared.calls.WorkerItem.{WorkerItem}
use Rattle.switch_spec.specs.declared.calls.WorkerItem.TheVariants.{Brings, Meets}

-- what each lane below this number has, by rising lane
unfoldable pub by_lane : {A : Type 0} → (ℕ → A) → ℕ → List A
by_lane f zero = []
by_lane f (suc n) = by_lane f n ++ f n ∷ []

-- the calls of one controller's lane
abbrev pub calls_in : List TapeRecord → ℕ → List LaneCall
calls_in tape lane = filter_map (call_on lane) tape

-- the packets and meets of one worker's lane
abbrev pub items_in : List TapeRecord → ℕ → List WorkerItem
items_in tape lane = filter_map (item_on lane) tape

-- what is true of each: a packet of at most 9,216 bytes, or a meet with one of 32 controllers' lanes
abbrev pub IsItem : WorkerItem → Type 0
IsItem (Brings port packet) = length packet ≤ 9216
IsItem (Meets controller call) = controller < 32
