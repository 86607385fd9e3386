-- What a reader asks first of a program.
use Rattle.std.specs.Prelude.{◌≡◌, ℕ, List, length}
use Rattle.bm_pipeline.specs.declared.program.Program.{Program}
use Rattle.bm_pipeline.specs.Validity.{IsValid}
use Rattle.program_spec.specs.Parsing.{Reading, Parsed, Parses, parse_from}

-- what a program's parser ends with
abbrev pub parsed : Program → Reading → Parsed
parsed program reading = parse_from program (length program.parser.parse_states) program.parser.init_state reading

-- In a valid program a parse ends: it goes by some path of states, to what the function gives.
abbrev pub ParseEnds : Type 0
ParseEnds = (program : Program) → IsValid program → (reading : Reading)
    → (path : List ℕ) × Parses program program.parser.init_state path reading (parsed program reading)

-- It ends in one way alone.
abbrev pub ParseIsOne : Type 0
ParseIsOne = (program : Program) → IsValid program → (reading : Reading) (path : List ℕ) (end : Parsed)
    → Parses program program.parser.init_state path reading end → end ≡ parsed program reading
