-- Forms of a program that are left out (this project's profile of the BMv2 JSON form).
use Rattle.std.specs.Prelude.{ℕ, ◌%◌, ◌==◌, Bool, true, false, ◌&&◌, ◌||◌, not, List, Option, Some, None, sum_by}
use Rattle.std.specs.List.{list_any}
use Rattle.name_index.specs.Names.{named}
use Rattle.bm_values.specs.declared.raw.Part.{Part}
use Rattle.bm_values.specs.declared.raw.Part.TheVariants as parts
use Rattle.bm_values.specs.Literals.{width_bits}
use Rattle.bm_records.specs.declared.raw.TypeField.{TypeField}
use Rattle.bm_records.specs.declared.raw.HeaderType.{HeaderType}
use Rattle.bm_records.specs.declared.raw.Header.{Header}
use Rattle.bm_values.specs.Trees.{Tree}
use Rattle.bm_values.specs.Trees as trees
use Rattle.bm_records.specs.declared.raw.LearnListName.{LearnListName}
use Rattle.bm_records.specs.declared.raw.LearnListName.TheVariants as names
use Rattle.bm_records.specs.declared.raw.Primitive.{Primitive}
use Rattle.bm_records.specs.declared.raw.Primitive.TheVariants as primitives
use Rattle.bm_records.specs.declared.raw.Action.{Action}
use Rattle.bm_records.specs.declared.raw.ParserOp.{ParserOp}
use Rattle.bm_records.specs.declared.raw.ParserOp.TheVariants as parser_ops
use Rattle.bm_records.specs.declared.raw.MatchValue.{MatchValue}
use Rattle.bm_records.specs.declared.raw.MatchValue.TheVariants as matches
use Rattle.bm_records.specs.declared.raw.Transition.{Transition}
use Rattle.bm_records.specs.declared.raw.ParseState.{ParseState}
use Rattle.bm_records.specs.declared.raw.CalculationInput.{CalculationInput}
use Rattle.bm_records.specs.declared.raw.CalculationInput.TheVariants as inputs
use Rattle.bm_records.specs.declared.raw.Calculation.{Calculation}
use Rattle.bm_records.specs.declared.raw.Checksum.{Checksum}
use Rattle.bm_records.specs.declared.raw.LearnList.{LearnList}
use Rattle.bm_records.specs.declared.raw.DefaultEntry.{DefaultEntry}
use Rattle.bm_records.specs.declared.raw.Table.{Table}
use Rattle.bm_records.specs.declared.raw.Selector.{Selector}
use Rattle.bm_records.specs.declared.raw.Pipeline.{Pipeline}
use Rattle.bm_records.specs.declared.raw.RawProgram.{RawProgram}

-- a part stands as left out
abbrev pub is_left_out : {A : Type 0} → Part A → Bool
is_left_out (parts.Served x) = false
is_left_out parts.LeftOut = true

-- the width of a field of a header type is left out
abbrev pub type_left_out : HeaderType → Bool
type_left_out type = list_any (λ field. is_left_out field.width) type.fields

-- an expression is left out, or a part of it is
abbrev pub expression_left_out : Tree → Bool
expression_left_out (trees.literal literal) = is_left_out literal
expression_left_out (trees.valid header) = is_left_out header
expression_left_out (trees.unary operator x) = expression_left_out x
expression_left_out (trees.binary operator x y) = expression_left_out x || expression_left_out y
expression_left_out (trees.choice condition x y) = expression_left_out condition || expression_left_out x || expression_left_out y
expression_left_out trees.left_out = true
expression_left_out _ = false

-- the same for a condition, where there is one
abbrev pub condition_left_out : Option Tree → Bool
condition_left_out None = false
condition_left_out (Some condition) = expression_left_out condition

-- a learn list is named by a form that is left out, or by an id that is
abbrev pub name_left_out : LearnListName → Bool
name_left_out (names.Name name) = false
name_left_out (names.Id id) = is_left_out id
name_left_out names.LeftOut = true

-- a primitive is left out, or a parameter that its record keeps is
abbrev pub primitive_left_out : Primitive → Bool
primitive_left_out (primitives.Assign target value) = is_left_out target || expression_left_out value
primitive_left_out (primitives.AddHeader header) = is_left_out header
primitive_left_out (primitives.RemoveHeader header) = is_left_out header
primitive_left_out (primitives.AssignHeader target source) = is_left_out target || is_left_out source
primitive_left_out primitives.Drop = false
primitive_left_out (primitives.Count counter index) = is_left_out counter || expression_left_out index
primitive_left_out (primitives.GenerateDigest name) = name_left_out name
primitive_left_out primitives.NoOp = false
primitive_left_out primitives.LeftOut = true
primitive_left_out (primitives.Unknown name) = false

-- the width of a datum of an action is left out, or one of its primitives is
abbrev pub action_left_out : Action → Bool
action_left_out action = list_any (λ datum. is_left_out datum.width) action.runtime_data || list_any primitive_left_out action.primitives

-- an operation of a parser's state is left out, or a parameter that its record keeps is
abbrev pub parser_op_left_out : ParserOp → Bool
parser_op_left_out (parser_ops.Extract header) = is_left_out header
parser_op_left_out (parser_ops.Set target value) = is_left_out target || expression_left_out value
parser_op_left_out parser_ops.LeftOut = true
parser_op_left_out (parser_ops.Unknown name) = false

-- the value that a transition asks for is left out
abbrev pub match_left_out : MatchValue → Bool
match_left_out matches.Default = false
match_left_out (matches.Literal literal) = is_left_out literal
match_left_out matches.LeftOut = true

-- the same for its mask, where there is one
abbrev pub mask_left_out : Option (Part ℕ) → Bool
mask_left_out None = false
mask_left_out (Some mask) = is_left_out mask

-- the value or the mask of a transition is left out
abbrev pub transition_left_out : Transition → Bool
transition_left_out transition = match_left_out transition.value || mask_left_out transition.mask

-- an operation, a field of the key or a transition of a parse state is left out
abbrev pub state_left_out : ParseState → Bool
state_left_out state = list_any parser_op_left_out state.parser_ops || list_any is_left_out state.transition_key || list_any transition_left_out state.transitions

-- an input of a calculation is left out, or the value or the width of its literal is
abbrev pub input_left_out : CalculationInput → Bool
input_left_out (inputs.Field field) = false
input_left_out (inputs.Literal value width) = is_left_out value || is_left_out width
input_left_out inputs.LeftOut = true

-- one of a calculation's inputs is left out
abbrev pub calculation_left_out : Calculation → Bool
calculation_left_out calculation = list_any input_left_out calculation.input

-- the condition of a checksum is left out
abbrev pub checksum_left_out : Checksum → Bool
checksum_left_out checksum = condition_left_out checksum.if_cond

-- an element of a learn list is left out
abbrev pub learn_list_left_out : LearnList → Bool
learn_list_left_out list = list_any is_left_out list.elements

-- a literal of a default entry's action data is left out, where there is such an entry
abbrev pub default_left_out : Option DefaultEntry → Bool
default_left_out None = false
default_left_out (Some entry) = list_any is_left_out entry.action_data

-- entries are written in the program, or a default's literal is too long
abbrev pub table_left_out : Table → Bool
table_left_out table = table.has_entries || default_left_out table.default_entry

-- a field of a selector's input is left out, where there is a selector
abbrev pub selector_left_out : Option Selector → Bool
selector_left_out None = false
selector_left_out (Some selector) = list_any is_left_out selector.input

-- a table, the selector of an action profile or a conditional of a pipeline is left out
abbrev pub pipeline_left_out : Pipeline → Bool
pipeline_left_out pipeline =
    list_any table_left_out pipeline.tables || list_any (λ profile. selector_left_out profile.selector) pipeline.action_profiles || list_any (λ conditional. expression_left_out conditional.expression) pipeline.conditionals

-- the bits of fields behind whole bytes
abbrev pub bits_over : List TypeField → ℕ
bits_over fields = sum_by (λ field. width_bits field.width) fields % 8

-- the first header type of a name, if there is one
abbrev pub type_named : List HeaderType → List ℕ → Option HeaderType
type_named types name = named (λ type. type.name) name types

-- there is a header type, and the served widths of its fields do not fill whole bytes
abbrev pub is_ragged_type : Option HeaderType → Bool
is_ragged_type None = false
is_ragged_type (Some type) = not (bits_over type.fields == 0)

-- the fields of a header do not fill whole bytes
abbrev pub has_ragged_type : List HeaderType → Header → Bool
has_ragged_type types header = is_ragged_type (type_named types header.header_type)

-- a header that is no metadata, and not whole bytes
abbrev pub is_ragged : List HeaderType → Header → Bool
is_ragged types header = not header.metadata && has_ragged_type types header

-- there is a header, and it is not whole bytes
abbrev pub is_ragged_header : List HeaderType → Option Header → Bool
is_ragged_header types None = false
is_ragged_header types (Some header) = has_ragged_type types header

-- the first header of a name, if there is one
abbrev pub header_named : List Header → List ℕ → Option Header
header_named headers name = named (λ header. header.name) name headers

-- the first header of a name is not whole bytes
abbrev pub names_ragged : List HeaderType → List Header → List ℕ → Bool
names_ragged types headers name = is_ragged_header types (header_named headers name)

-- an operation extracts a header that is not whole bytes
abbrev pub extracts_ragged : List HeaderType → List Header → ParserOp → Bool
extracts_ragged types headers (parser_ops.Extract (parts.Served name)) = names_ragged types headers name
extracts_ragged types headers _ = false

-- a header that is read from packets or written to them is not whole bytes, also where it is metadata
abbrev pub packets_left_out : RawProgram → Bool
packets_left_out program =
    list_any (names_ragged program.header_types program.headers) program.deparser.order || list_any (λ state. list_any (extracts_ragged program.header_types program.headers) state.parser_ops) program.parser.parse_states

-- objects that are left out are listed, a header type is left out, or a header is not whole bytes
abbrev pub headers_left_out : RawProgram → Bool
headers_left_out program = program.lists_left_out || list_any type_left_out program.header_types || list_any (is_ragged program.header_types) program.headers

-- a calculation, a checksum, a learn list or an action is left out
abbrev pub objects_left_out : RawProgram → Bool
objects_left_out program =
    list_any calculation_left_out program.calculations || list_any checksum_left_out program.checksums || list_any learn_list_left_out program.learn_lists || list_any action_left_out program.actions

-- a state of the parser is left out, or something of the ingress or of the egress is
abbrev pub steps_left_out : RawProgram → Bool
steps_left_out program = list_any state_left_out program.parser.parse_states || pipeline_left_out program.pipelines.ingress || pipeline_left_out program.pipelines.egress

-- the program has a form that is left out
unfoldable pub has_left_out : RawProgram → Bool
has_left_out program = headers_left_out program || packets_left_out program || objects_left_out program || steps_left_out program
