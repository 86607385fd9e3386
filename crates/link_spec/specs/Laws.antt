-- What a reader asks first of a program that is linked.
use Rattle.std.specs.Prelude.{◌≡◌, None}
use Rattle.p4_types.specs.declared.info.Info.{Info}
use Rattle.bm_records.specs.declared.raw.RawProgram.{RawProgram}
use Rattle.bm_json.specs.Program as json
use Rattle.bm_json.specs.Sound.{IsSound}
use Rattle.bm_rules.specs.Flaw as rules
use Rattle.bm_pipeline.specs.Validity.{IsValid}
use Rattle.link_spec.specs.Linked.{program_of}

-- Raw records whose numbers are in their ranges and that break none of the rules are linked to a valid program.
abbrev pub ProgramsAreValid : Type 0
ProgramsAreValid = (raw : RawProgram) (info : Info) → IsSound raw → json.flaw_of raw ≡ None → rules.flaw raw info ≡ None → IsValid (program_of raw info)
