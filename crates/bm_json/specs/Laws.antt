-- What a reader asks first of raw records.
use Rattle.std.specs.Prelude.{◌≡◌, ℕ, List, Some}
use Rattle.bm_records.specs.declared.raw.RawProgram.{RawProgram}
use Rattle.bm_json.specs.Program.{program_in}
use Rattle.bm_json.specs.Sound.{IsSound}

-- The numbers in the raw records that are read of a device configuration are in their ranges.
abbrev pub ReadProgramsAreSound : Type 0
ReadProgramsAreSound = (bytes : List ℕ) (program : RawProgram) → program_in bytes ≡ Some program → IsSound program
