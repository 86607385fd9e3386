-- How lanes are given one item more.
use Rattle.std.specs.Prelude.{ℕ, List, [], ◌∷◌, ◌++◌, slice_index_or, slice_set}
use Rattle.p4_types.specs.declared.tape.TapeRecord.{TapeRecord}
use Rattle.p4_types.specs.declared.tape.TapeRecord.TheVariants.{Call, Packet, Leave, Meet}
use Rattle.switch_spec.specs.declared.calls.LaneCall.{LaneCall}
use Rattle.switch_spec.specs.declared.calls.LaneCall.TheVariants.{Asks, Leaves}
use Rattle.switch_spec.specs.declared.calls.WorkerItem.{WorkerItem}
use Rattle.switch_spec.specs.declared.calls.WorkerItem.TheVariants.{Brings, Meets}

-- a lane has an item more, behind those that it had
abbrev pub given : {A : Type 0} → ℕ → A → List (List A) → List (List A)
given lane item lanes = slice_set lanes lane (slice_index_or lanes lane [] ++ item ∷ [])

-- the controllers' lanes with what a record gives them
abbrev pub calls_with : TapeRecord → List (List LaneCall) → List (List LaneCall)
calls_with (Call lane method message) lanes = given lane (Asks method message) lanes
calls_with (Leave lane) lanes = given lane Leaves lanes
calls_with (Packet lane port packet) lanes = lanes
calls_with (Meet lane controller call) lanes = lanes

-- the workers' lanes with what a record gives them
abbrev pub items_with : TapeRecord → List (List WorkerItem) → List (List WorkerItem)
items_with (Call lane method message) lanes = lanes
items_with (Leave lane) lanes = lanes
items_with (Packet lane port packet) lanes = given lane (Brings port packet) lanes
items_with (Meet lane controller call) lanes = given lane (Meets controller call) lanes
