-- What holds of what lanes are given.
use Rattle.std.specs.Prelude.{ℕ, List}
use Rattle.std.specs.List.{AllByRecursion}
use Rattle.p4_types.specs.declared.tape.TapeRecord.{TapeRecord}
use Rattle.run_spec.specs.Tape.{IsRecord}
use Rattle.tape_lanes.specs.Lanes.{items_in, IsItem}

-- what records give a worker's lane is as it should be
abbrev pub ItemsAreItems : Type 0
ItemsAreItems = (tape : List TapeRecord) (lane : ℕ) → AllByRecursion IsRecord tape → AllByRecursion IsItem (items_in tape lane)
