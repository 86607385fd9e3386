-- The numbers in each record that is read are in their ranges.
use Rattle.std.proofs.Common.{ℕ, Bool, true, false, All, IfSome, codes}
use Rattle.serde_json.specs.Find.{as_str, as_bool}
use Rattle.json_shapes.specs.Shapes.{natural_of, required, nullable, optional, list_of, list_or_empty, unless_absent, nothing_in}
use Rattle.json_shapes.specs.Arrays.{item_count, item_at}
use Rattle.json_shapes.proofs.Keeping.{Keeps, then_kept, then_kept_by, count_kept, item_kept, required_kept, required_list_kept, optional_kept, list_or_empty_kept}
use Rattle.bm_values.specs.declared.raw.Part.{Part}
use Rattle.bm_values.specs.declared.raw.FieldWidth.{FieldWidth}
use Rattle.bm_values.specs.declared.kinds.ValueKind.{ValueKind}
use Rattle.bm_values.specs.declared.kinds.ValueKind.TheVariants as kinds
use Rattle.bm_values.specs.Literals.{width_of, field_width_of, literal_of}
use Rattle.bm_values.specs.Values.{kind_of, field_name, field_value}
use Rattle.bm_values.specs.Expressions.{expression_of}
use Rattle.bm_values.proofs.Ranges.{width_kept, field_width_kept}
use Rattle.bm_values.proofs.KeptTrees.{IsKept, expression_kept}
use Rattle.bm_records.specs.declared.raw.Gress.{Gress}
use Rattle.bm_records.specs.declared.raw.Gress.TheVariants as gresses
use Rattle.bm_records.specs.declared.raw.TypeField.{TypeField}
use Rattle.bm_records.specs.declared.raw.ParseState.{ParseState}
use Rattle.bm_records.specs.declared.raw.Parser.{Parser}
use Rattle.bm_records.specs.declared.raw.Calculation.{Calculation}
use Rattle.bm_records.specs.declared.raw.Checksum.{Checksum}
use Rattle.bm_records.specs.declared.raw.Datum.{Datum}
use Rattle.bm_records.specs.declared.raw.Conditional.{Conditional}
use Rattle.bm_records.specs.declared.raw.Pipeline.{Pipeline}
use Rattle.bm_records.specs.declared.raw.Pipelines.{Pipelines}
use Rattle.bm_records.specs.Objects.{width_with, sign_by, type_field_of, header_type_of, input_literal, input_by, input_of, calculation_of, checksum_of}
use Rattle.bm_records.specs.Parsers.{parser_op_of, transition_of, state_of, parser_of}
use Rattle.bm_records.specs.Primitives.{primitive_of, datum_of, action_of}
use Rattle.bm_records.specs.Pipelines.{gress, table_of, profile_of, conditional_of, pipeline_of, sides, both_at, pipelines_of}
use Rattle.bm_records.proofs.KeptSteps.{IsKeptOp, IsKeptPrimitive, parser_op_kept, primitive_kept}
use Rattle.bm_json.specs.Sound.{IsSoundWidth, IsSoundTree, IsSoundType, IsSoundParserOp, IsSoundPrimitive, IsSoundAction, IsSoundInput, IsSoundPipeline}

width_sound : Keeps IsSoundWidth width_of
width_sound = width_kept IsSoundWidth tt (λ bits some few. (some, few))

field_width_sound : Keeps (λ (field : FieldWidth). IsSoundWidth field.width) field_width_of
field_width_sound = field_width_kept IsSoundWidth tt (λ bits some few. (some, few))

tree_sound : IsKept IsSoundTree
tree_sound = record {
  of_field = λ name. tt;
  of_literal = λ value small. small;
  of_long_literal = tt;
  of_truth = λ value. tt;
  of_datum = λ index. tt;
  of_valid = λ header. tt;
  of_unary = λ operator x x_sound. x_sound;
  of_binary = λ operator x y x_sound y_sound. (x_sound, y_sound);
  of_choice = λ condition x y condition_sound x_sound y_sound. (condition_sound, x_sound, y_sound);
  of_left_out = tt;
  of_unknown = λ name. tt;
}

expression_sound : Keeps IsSoundTree expression_of
expression_sound = expression_kept IsSoundTree tree_sound

signed_sound : (signed : Bool) (width : Part ℕ) → IsSoundWidth width → IsSoundWidth (width_with signed width)
signed_sound true width sound = tt
signed_sound false width sound = sound

abbrev IsSoundField : TypeField → Type 0
IsSoundField field = IsSoundWidth field.width

field_sound : Keeps IsSoundField type_field_of
unfolding type_field_of
field_sound d =
    then_kept IsSoundField (item_count d) _ (λ n. then_kept IsSoundField (sign_by n d) _ (λ signed. then_kept IsSoundField (item_at as_str 0 d) _ (λ name.
    then_kept_by (λ (given : FieldWidth). IsSoundWidth given.width) IsSoundField (item_at field_width_of 1 d) _ (item_kept (λ (given : FieldWidth). IsSoundWidth given.width) field_width_of field_width_sound 1 d) (λ given. signed_sound signed given.width))))

-- the widths of a header type
pub type_sound : Keeps IsSoundType header_type_of
unfolding header_type_of
type_sound d =
    then_kept IsSoundType (required as_str (codes "name") d) _ (λ name.
    then_kept_by (All IsSoundField) IsSoundType (required (list_of type_field_of) (codes "fields") d) _ (required_list_kept IsSoundField type_field_of field_sound (codes "fields") d) (λ fields sound. sound))

op_sound : IsKeptOp IsSoundTree IsSoundParserOp
op_sound = record { of_extract = λ header. tt; of_set = λ target value sound. sound; of_left_out = tt; of_unknown = λ op. tt }

parser_op_sound : Keeps IsSoundParserOp parser_op_of
parser_op_sound = parser_op_kept IsSoundTree expression_sound IsSoundParserOp op_sound

abbrev IsSoundState : ParseState → Type 0
IsSoundState state = All IsSoundParserOp state.parser_ops

state_sound : Keeps IsSoundState state_of
unfolding state_of
state_sound d =
    then_kept IsSoundState (required as_str (codes "name") d) _ (λ name.
    then_kept_by (All IsSoundParserOp) IsSoundState (required (list_of parser_op_of) (codes "parser_ops") d) _ (required_list_kept IsSoundParserOp parser_op_of parser_op_sound (codes "parser_ops") d) (λ steps sound.
    then_kept IsSoundState (required (list_of field_value) (codes "transition_key") d) _ (λ key. then_kept IsSoundState (required (list_of transition_of) (codes "transitions") d) _ (λ transitions. sound))))

-- the literals of a parser's operations
pub parser_sound : Keeps (λ (parser : Parser). All (λ (state : ParseState). All IsSoundParserOp state.parser_ops) parser.parse_states) parser_of
unfolding parser_of
parser_sound d =
    then_kept (λ (parser : Parser). All IsSoundState parser.parse_states) (required as_str (codes "init_state") d) _ (λ init_state.
    then_kept_by (All IsSoundState) (λ (parser : Parser). All IsSoundState parser.parse_states) (required (list_of state_of) (codes "parse_states") d) _ (required_list_kept IsSoundState state_of state_sound (codes "parse_states") d) (λ states sound. sound))

input_literal_sound : Keeps IsSoundInput input_literal
unfolding input_literal
input_literal_sound d =
    then_kept IsSoundInput (required literal_of (codes "value") d) _ (λ value.
    then_kept_by IsSoundWidth IsSoundInput (required width_of (codes "bitwidth") d) _ (required_kept IsSoundWidth width_of width_sound (codes "bitwidth") d) (λ width sound. sound))

input_by_sound : (kind : ValueKind) → Keeps IsSoundInput (input_by kind)
input_by_sound kinds.Field d = then_kept IsSoundInput (required field_name (codes "value") d) _ (λ field. tt)
input_by_sound kinds.Literal d = input_literal_sound d
input_by_sound kinds.LeftOut d = tt
input_by_sound _ d = tt

input_sound : Keeps IsSoundInput input_of
unfolding input_of
input_sound d = then_kept IsSoundInput (kind_of d) (λ kind. input_by kind d) (λ kind. input_by_sound kind d)

abbrev IsSoundCalculation : Calculation → Type 0
IsSoundCalculation calculation = All IsSoundInput calculation.input

-- the widths of what a calculation takes in
pub calculation_sound : Keeps (λ (calculation : Calculation). All IsSoundInput calculation.input) calculation_of
unfolding calculation_of
calculation_sound d =
    then_kept IsSoundCalculation (required as_str (codes "name") d) _ (λ name. then_kept IsSoundCalculation (required as_str (codes "algo") d) _ (λ algo.
    then_kept_by (All IsSoundInput) IsSoundCalculation (required (list_of input_of) (codes "input") d) _ (required_list_kept IsSoundInput input_of input_sound (codes "input") d) (λ input sound. sound)))

abbrev IsSoundChecksum : Checksum → Type 0
IsSoundChecksum checksum = IfSome checksum.if_cond IsSoundTree

-- the literals of a checksum's condition
pub checksum_sound : Keeps (λ (checksum : Checksum). IfSome checksum.if_cond IsSoundTree) checksum_of
unfolding checksum_of
checksum_sound d =
    then_kept IsSoundChecksum (required as_str (codes "name") d) _ (λ name. then_kept IsSoundChecksum (required field_name (codes "target") d) _ (λ target.
    then_kept IsSoundChecksum (required as_str (codes "calculation") d) _ (λ calculation. then_kept IsSoundChecksum (required as_bool (codes "update") d) _ (λ update.
    then_kept IsSoundChecksum (unless_absent as_bool (codes "verify") d) _ (λ verify.
    then_kept_by (λ condition. IfSome condition IsSoundTree) IsSoundChecksum (optional expression_of (codes "if_cond") d) _ (optional_kept IsSoundTree expression_of expression_sound (codes "if_cond") d) (λ condition sound. sound))))))

steps_sound : IsKeptPrimitive IsSoundTree IsSoundPrimitive
steps_sound = record {
  of_assign = λ target value sound. sound;
  of_add_header = λ header. tt;
  of_remove_header = λ header. tt;
  of_assign_header = λ target source. tt;
  of_drop = tt;
  of_count = λ counter index sound. sound;
  of_generate_digest = λ name. tt;
  of_no_op = tt;
  of_left_out = tt;
  of_unknown = λ op. tt;
}

primitive_sound : Keeps IsSoundPrimitive primitive_of
primitive_sound = primitive_kept IsSoundTree expression_sound IsSoundPrimitive steps_sound

abbrev IsSoundDatum : Datum → Type 0
IsSoundDatum datum = IsSoundWidth datum.width

datum_sound : Keeps IsSoundDatum datum_of
unfolding datum_of
datum_sound d = then_kept_by IsSoundWidth IsSoundDatum (required width_of (codes "bitwidth") d) _ (required_kept IsSoundWidth width_of width_sound (codes "bitwidth") d) (λ width sound. sound)

-- the widths of an action's data, and the literals of its primitives
pub action_sound : Keeps IsSoundAction action_of
unfolding action_of
action_sound d =
    then_kept IsSoundAction (required as_str (codes "name") d) _ (λ name. then_kept IsSoundAction (required natural_of (codes "id") d) _ (λ id.
    then_kept_by (All IsSoundDatum) IsSoundAction (required (list_of datum_of) (codes "runtime_data") d) _ (required_list_kept IsSoundDatum datum_of datum_sound (codes "runtime_data") d) (λ runtime_data widths.
    then_kept_by (All IsSoundPrimitive) IsSoundAction (required (list_of primitive_of) (codes "primitives") d) _ (required_list_kept IsSoundPrimitive primitive_of primitive_sound (codes "primitives") d) (λ steps literals.
    record { runtime_data = widths; primitives = literals }))))

abbrev IsSoundConditional : Conditional → Type 0
IsSoundConditional conditional = IsSoundTree conditional.expression

conditional_sound : Keeps IsSoundConditional conditional_of
unfolding conditional_of
conditional_sound d =
    then_kept IsSoundConditional (required as_str (codes "name") d) _ (λ name.
    then_kept_by IsSoundTree IsSoundConditional (required expression_of (codes "expression") d) _ (required_kept IsSoundTree expression_of expression_sound (codes "expression") d) (λ expression sound.
    then_kept IsSoundConditional (required (nullable as_str) (codes "true_next") d) _ (λ true_next. then_kept IsSoundConditional (required (nullable as_str) (codes "false_next") d) _ (λ false_next. sound))))

pipeline_sound : Keeps IsSoundPipeline pipeline_of
unfolding pipeline_of
pipeline_sound d =
    then_kept IsSoundPipeline (required as_str (codes "name") d) _ (λ text. then_kept IsSoundPipeline (gress text) _ (λ side.
    then_kept IsSoundPipeline (required (nullable as_str) (codes "init_table") d) _ (λ init_table. then_kept IsSoundPipeline (required (list_of table_of) (codes "tables") d) _ (λ tables.
    then_kept IsSoundPipeline (list_or_empty profile_of (codes "action_profiles") d) _ (λ profiles.
    then_kept_by (All IsSoundConditional) IsSoundPipeline (list_or_empty conditional_of (codes "conditionals") d) _ (list_or_empty_kept IsSoundConditional conditional_of conditional_sound (codes "conditionals") d) (λ conditionals sound.
    then_kept IsSoundPipeline (nothing_in (codes "action_calls") d) _ (λ _. sound)))))))

abbrev AreSoundPipelines : Pipelines → Type 0
AreSoundPipelines pipelines = IsSoundPipeline pipelines.ingress × IsSoundPipeline pipelines.egress

sides_sound : (one other : Gress) (first second : Pipeline) → IsSoundPipeline first → IsSoundPipeline second → IfSome (sides one other first second) AreSoundPipelines
sides_sound gresses.Ingress gresses.Egress first second first_sound second_sound = (first_sound, second_sound)
sides_sound gresses.Egress gresses.Ingress first second first_sound second_sound = (second_sound, first_sound)
sides_sound gresses.Ingress gresses.Ingress first second first_sound second_sound = tt
sides_sound gresses.Egress gresses.Egress first second first_sound second_sound = tt

both_sound : Keeps AreSoundPipelines both_at
both_sound d =
    then_kept_by IsSoundPipeline AreSoundPipelines (item_at pipeline_of 0 d) _ (item_kept IsSoundPipeline pipeline_of pipeline_sound 0 d) (λ first first_sound.
    then_kept_by IsSoundPipeline AreSoundPipelines (item_at pipeline_of 1 d) _ (item_kept IsSoundPipeline pipeline_of pipeline_sound 1 d) (λ second second_sound.
    sides_sound first.gress second.gress first second first_sound second_sound))

-- the literals of the conditionals of both pipelines
pub pipelines_sound : Keeps (λ (pipelines : Pipelines). IsSoundPipeline pipelines.ingress × IsSoundPipeline pipelines.egress) pipelines_of
unfolding pipelines_of
pipelines_sound d = then_kept AreSoundPipelines (item_count d) _ (λ n. count_kept AreSoundPipelines 2 n (both_at d) (both_sound d))
