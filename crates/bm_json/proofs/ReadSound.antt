-- The numbers in a program that is read are in their ranges.
use Rattle.std.proofs.Common.{◌≡◌, ℕ, nat_lt, Bool, true, false, cond, All, IfSome, List, length, Option, Some, None, codes, subst}
use Rattle.serde_json.specs.Data.{Data}
use Rattle.json_shapes.specs.declared.arrays.Only.{Only}
use Rattle.list_types.specs.Options.{◌>>=◌}
use Rattle.json_shapes.specs.Shapes.{required, list_of, list_or_empty, list_unless_absent}
use Rattle.json_shapes.specs.Arrays.{only_of}
use Rattle.json_shapes.proofs.Keeping.{Keeps, then_kept, then_kept_by, required_kept, required_list_kept, only_kept, list_or_empty_kept}
use Rattle.bm_records.specs.declared.raw.ParseState.{ParseState}
use Rattle.bm_records.specs.declared.raw.Parser.{Parser}
use Rattle.bm_records.specs.declared.raw.Calculation.{Calculation}
use Rattle.bm_records.specs.declared.raw.Checksum.{Checksum}
use Rattle.bm_records.specs.declared.raw.Pipelines.{Pipelines}
use Rattle.bm_records.specs.declared.raw.RawProgram.{RawProgram}
use Rattle.bm_records.specs.Primitives.{action_of}
use Rattle.bm_records.specs.Parsers.{parser_of, deparser_of}
use Rattle.bm_records.specs.Objects.{header_type_of, header_of, error_of, counter_of, calculation_of, checksum_of, learn_list_of}
use Rattle.bm_records.specs.Pipelines.{pipelines_of}
use Rattle.bm_json.specs.Program.{program_of, json_in, program_in}
use Rattle.bm_json.specs.Sound.{IsSoundTree, IsSoundType, IsSoundParserOp, IsSoundAction, IsSoundInput, IsSoundPipeline, IsSound}
use Rattle.bm_json.proofs.Numbers.{type_sound, parser_sound, calculation_sound, checksum_sound, action_sound, pipelines_sound}

abbrev IsSoundParser : Parser → Type 0
IsSoundParser parser = All (λ (state : ParseState). All IsSoundParserOp state.parser_ops) parser.parse_states

abbrev IsSoundCalculation : Calculation → Type 0
IsSoundCalculation calculation = All IsSoundInput calculation.input

abbrev IsSoundChecksum : Checksum → Type 0
IsSoundChecksum checksum = IfSome checksum.if_cond IsSoundTree

abbrev AreSoundPipelines : Pipelines → Type 0
AreSoundPipelines pipelines = IsSoundPipeline pipelines.ingress × IsSoundPipeline pipelines.egress

program_sound : Keeps IsSound program_of
unfolding program_of
program_sound d =
    then_kept_by (All IsSoundType) IsSound (required (list_of header_type_of) (codes "header_types") d) _ (required_list_kept IsSoundType header_type_of type_sound (codes "header_types") d) (λ types types_sound.
    then_kept IsSound (required (list_of header_of) (codes "headers") d) _ (λ headers. then_kept IsSound (list_unless_absent error_of (codes "errors") d) _ (λ errors.
    then_kept_by (λ (parser : Only Parser). IsSoundParser parser.only) IsSound (required (only_of parser_of) (codes "parsers") d) _ (required_kept _ (only_of parser_of) (only_kept IsSoundParser parser_of parser_sound) (codes "parsers") d) (λ parser parser_sound.
    then_kept IsSound (required (only_of deparser_of) (codes "deparsers") d) _ (λ deparser. then_kept IsSound (list_or_empty counter_of (codes "counter_arrays") d) _ (λ counters.
    then_kept_by (All IsSoundCalculation) IsSound (list_or_empty calculation_of (codes "calculations") d) _ (list_or_empty_kept IsSoundCalculation calculation_of calculation_sound (codes "calculations") d) (λ calculations calculations_sound.
    then_kept_by (All IsSoundChecksum) IsSound (list_or_empty checksum_of (codes "checksums") d) _ (list_or_empty_kept IsSoundChecksum checksum_of checksum_sound (codes "checksums") d) (λ checksums checksums_sound.
    then_kept IsSound (list_or_empty learn_list_of (codes "learn_lists") d) _ (λ lists.
    then_kept_by (All IsSoundAction) IsSound (required (list_of action_of) (codes "actions") d) _ (required_list_kept IsSoundAction action_of action_sound (codes "actions") d) (λ actions actions_sound.
    then_kept_by AreSoundPipelines IsSound (required pipelines_of (codes "pipelines") d) _ (required_kept AreSoundPipelines pipelines_of pipelines_sound (codes "pipelines") d) (λ pipelines both_sound.
    record { header_types = types_sound; parse_states = parser_sound; calculations = calculations_sound; checksums = checksums_sound; actions = actions_sound; ingress = both_sound.0; egress = both_sound.1 })))))))))))

unless_long : (long : Bool) (read : Option Data) → IfSome (cond long None (read >>= program_of)) IsSound
unless_long true read = tt
unless_long false read = then_kept IsSound read program_of program_sound

found_sound : (found : Option RawProgram) (program : RawProgram) → IfSome found IsSound → found ≡ Some program → IsSound program
found_sound found program sound read = subst (λ (found : Option RawProgram). IfSome found IsSound) read sound

-- what is read of the bytes of a program
pub program_in_sound : (bytes : List ℕ) (program : RawProgram) → program_in bytes ≡ Some program → IsSound program
unfolding program_in
program_in_sound bytes program read = found_sound (program_in bytes) program (unless_long (nat_lt 4194304 (length bytes)) (json_in bytes)) read
