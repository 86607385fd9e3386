-- Room in the published list.
use Rattle.std.specs.Prelude.{ℕ, ◌+◌, ◌-◌, ◌^◌, ◌<◌, List, length}
use Rattle.list_types.specs.declared.memory.Refusal.{Refusal}
use Rattle.list_types.specs.declared.memory.Refusal.TheVariants.{NoMemory, For}
use Rattle.plane_spec.specs.Config.{Event}
use Rattle.pub_snap.specs.Snapshots.{Feed, all_of}
use Rattle.pub_snap.specs.declared.room.NoRoom.{NoRoom}

-- why events are not taken: there is no memory, or the list, which has room for 2^64 - 2 events, has none for so many more
abbrev pub IsNotTaken : Refusal NoRoom → Feed → List Event → Type 0
IsNotTaken NoMemory feed events = Unit {0}
IsNotTaken (For none) feed events = 2 ^ 64 - 2 < length (all_of feed) + length events
