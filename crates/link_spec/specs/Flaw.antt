-- The rule of L1 to L15 that a device configuration breaks first (the rules: this project's profile).
use Rattle.std.specs.Prelude.{ℕ, List, Option, Some, None}
use Rattle.bm_json.specs.Program as json
use Rattle.bm_records.specs.declared.raw.RawProgram.{RawProgram}
use Rattle.bm_rules.specs.Flaw as rules
use Rattle.p4_types.specs.declared.info.Info.{Info}

-- the rule of L4 to L15 that the raw records of a program break first under a P4Info, if there are any
abbrev pub linked_flaw : Option RawProgram → Info → Option ℕ
linked_flaw None info = None
linked_flaw (Some raw) info = rules.flaw raw info

-- a rule that is asked before, else one that is asked behind it
abbrev pub before : Option ℕ → Option ℕ → Option ℕ
before (Some rule) later = Some rule
before None later = later

-- the rule of L1 to L15 that a program breaks first under a P4Info
abbrev pub program_flaw : List ℕ → Info → Option ℕ
program_flaw program info = before (json.flaw program) (linked_flaw (json.program_in program) info)
