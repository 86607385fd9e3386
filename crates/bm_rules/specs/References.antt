-- References, and names and ids that occur twice (this project's profile of the BMv2 JSON form).
use Rattle.std.specs.Prelude.{ℕ, ◌==◌, Bool, true, false, ◌&&◌, ◌||◌, not, nat_eq, nat_lt, List, [], ◌∷◌, ◌++◌, length, map, Option, Some, None, is_some}
use Rattle.std.specs.List.{find, list_any, list_all, flat_map, zip}
use Rattle.std.specs.Str.{bytes_eq}
use Rattle.bm_values.specs.Trees.{Tree, field, literal, truth, datum, valid, unary, binary, choice, left_out, unknown}
use Rattle.bm_values.specs.declared.raw.Part.{Part}
use Rattle.bm_values.specs.declared.raw.Part.TheVariants as parts
use Rattle.bm_records.specs.declared.raw.Header.{Header}
use Rattle.bm_records.specs.declared.raw.Action.{Action}
use Rattle.bm_records.specs.declared.raw.Primitive.{Primitive}
use Rattle.bm_records.specs.declared.raw.Primitive.TheVariants as primitives
use Rattle.bm_records.specs.declared.raw.LearnListName.{LearnListName}
use Rattle.bm_records.specs.declared.raw.LearnListName.TheVariants as lists
use Rattle.bm_records.specs.declared.raw.ParserOp.{ParserOp}
use Rattle.bm_records.specs.declared.raw.ParserOp.TheVariants as ops
use Rattle.bm_records.specs.declared.raw.ParseState.{ParseState}
use Rattle.bm_records.specs.declared.raw.CalculationInput.{CalculationInput}
use Rattle.bm_records.specs.declared.raw.CalculationInput.TheVariants as inputs
use Rattle.bm_records.specs.declared.raw.Checksum.{Checksum}
use Rattle.bm_records.specs.declared.raw.Table.{Table}
use Rattle.bm_records.specs.declared.raw.DefaultEntry.{DefaultEntry}
use Rattle.bm_records.specs.declared.raw.ActionProfile.{ActionProfile}
use Rattle.bm_records.specs.declared.raw.Selector.{Selector}
use Rattle.bm_records.specs.declared.raw.Conditional.{Conditional}
use Rattle.bm_records.specs.declared.raw.Pipeline.{Pipeline}
use Rattle.bm_records.specs.declared.raw.RawProgram.{RawProgram}
use Rattle.bm_rules.specs.Names.{named, names_repeat, repeats, name_nothing}
use Rattle.bm_rules.specs.Fields.{has_header, header_named, is_readable, is_writable, is_part}

-- all tables, those of ingress first
abbrev pub tables : RawProgram → List Table
tables raw = raw.pipelines.ingress.tables ++ raw.pipelines.egress.tables

-- all action profiles
abbrev pub profiles : RawProgram → List ActionProfile
profiles raw = raw.pipelines.ingress.action_profiles ++ raw.pipelines.egress.action_profiles

-- all conditionals
abbrev pub conditionals : RawProgram → List Conditional
conditionals raw = raw.pipelines.ingress.conditionals ++ raw.pipelines.egress.conditionals

-- ---- twice

-- a name of an object of a packet occurs twice in its kind: a header type, a field of a type, a header, an error or a state
abbrev pub packet_names_repeat : RawProgram → Bool
packet_names_repeat raw =
    names_repeat (map (λ x. x.name) raw.header_types) || list_any (λ type. names_repeat (map (λ x. x.name) type.fields)) raw.header_types
    || names_repeat (map (λ x. x.name) raw.headers) || names_repeat (map (λ x. x.name) raw.errors) || names_repeat (map (λ x. x.name) raw.parser.parse_states)

-- the same of a counter array, a calculation, a checksum or a learn list, or an action's id does
abbrev pub object_names_repeat : RawProgram → Bool
object_names_repeat raw =
    names_repeat (map (λ x. x.name) raw.counter_arrays) || names_repeat (map (λ x. x.name) raw.calculations)
    || names_repeat (map (λ x. x.name) raw.checksums) || names_repeat (map (λ x. x.name) raw.learn_lists) || repeats nat_eq (map (λ x. x.id) raw.actions)

-- the same of a table, an action profile or a conditional, over both pipelines
abbrev pub pipeline_names_repeat : RawProgram → Bool
pipeline_names_repeat raw = names_repeat (map (λ x. x.name) (tables raw)) || names_repeat (map (λ x. x.name) (profiles raw)) || names_repeat (map (λ x. x.name) (conditionals raw))

-- ---- what names stand for

-- each name in an expression stands for what there is, beside so many data
abbrev pub is_known : RawProgram → ℕ → Tree → Bool
is_known raw args (field f) = is_readable raw f
is_known raw args (literal l) = true
is_known raw args (truth b) = true
is_known raw args (datum i) = nat_lt i args
is_known raw args (valid h) = is_part (has_header raw) h
is_known raw args (unary operator x) = is_known raw args x
is_known raw args (binary operator x y) = is_known raw args x && is_known raw args y
is_known raw args (choice condition x y) = is_known raw args condition && is_known raw args x && is_known raw args y
is_known raw args left_out = true
is_known raw args (unknown name) = true

-- both headers are there, and they are of one type
abbrev pub have_one_type : Option Header → Option Header → Bool
have_one_type (Some target) (Some source) = bytes_eq target.header_type source.header_type
have_one_type _ _ = false

-- the same of headers by their names
abbrev pub are_of_one_type : RawProgram → Part (List ℕ) → Part (List ℕ) → Bool
are_of_one_type raw (parts.Served target) (parts.Served source) = have_one_type (header_named raw target) (header_named raw source)
are_of_one_type raw _ _ = true

-- there is a counter array of a name
abbrev pub has_counter : RawProgram → List ℕ → Bool
has_counter raw name = is_some (named (λ x. x.name) name raw.counter_arrays)

-- there is a learn list of an id
abbrev pub has_list_id : RawProgram → ℕ → Bool
has_list_id raw id = list_any (λ x. x.id == id) raw.learn_lists

-- there is a learn list of a name or an id
abbrev pub has_list : RawProgram → LearnListName → Bool
has_list raw (lists.Name name) = is_some (named (λ x. x.name) name raw.learn_lists)
has_list raw (lists.Id id) = is_part (has_list_id raw) id
has_list raw lists.LeftOut = true

-- each name in a primitive stands for what there is; a target is no validity, and a header is assigned to one of its type
abbrev pub primitive_known : RawProgram → ℕ → Primitive → Bool
primitive_known raw args (primitives.Assign target value) = is_part (is_writable raw) target && is_known raw args value
primitive_known raw args (primitives.AddHeader header) = is_part (has_header raw) header
primitive_known raw args (primitives.RemoveHeader header) = is_part (has_header raw) header
primitive_known raw args (primitives.AssignHeader target source) = are_of_one_type raw target source
primitive_known raw args (primitives.Count counter index) = is_part (has_counter raw) counter && is_known raw args index
primitive_known raw args (primitives.GenerateDigest list) = has_list raw list
primitive_known raw args _ = true

-- the same of an action's primitives
abbrev pub action_known : RawProgram → Action → Bool
action_known raw action = list_all (primitive_known raw (length action.runtime_data)) action.primitives

-- each name in an operation of the parser stands for what there is; there are no data
abbrev pub parser_op_known : RawProgram → ParserOp → Bool
parser_op_known raw (ops.Extract header) = is_part (has_header raw) header
parser_op_known raw (ops.Set target value) = is_part (is_writable raw) target && is_known raw 0 value
parser_op_known raw _ = true

-- the state that is led to is there, where one is named
abbrev pub next_state_known : RawProgram → Option (List ℕ) → Bool
next_state_known raw None = true
next_state_known raw (Some name) = is_some (named (λ x. x.name) name raw.parser.parse_states)

-- each name in a state stands for what there is
abbrev pub state_known : RawProgram → ParseState → Bool
state_known raw state =
    list_all (parser_op_known raw) state.parser_ops && list_all (is_part (is_readable raw)) state.transition_key && list_all (λ transition. next_state_known raw transition.next_state) state.transitions

-- an input of a calculation is there
abbrev pub input_known : RawProgram → CalculationInput → Bool
input_known raw (inputs.Field f) = is_readable raw f
input_known raw _ = true

-- a condition is known, where there is one
abbrev pub condition_known : RawProgram → Option Tree → Bool
condition_known raw None = true
condition_known raw (Some condition) = is_known raw 0 condition

-- the target of a checksum may be written, and its condition is known
abbrev pub checksum_known : RawProgram → Checksum → Bool
checksum_known raw checksum = is_writable raw checksum.target && condition_known raw checksum.if_cond

-- the action of an id
abbrev pub action_by_id : RawProgram → ℕ → Option Action
action_by_id raw id = find (λ action. action.id == id) raw.actions

-- there is an action, and it has this name
abbrev pub has_name : List ℕ → Option Action → Bool
has_name name None = false
has_name name (Some action) = bytes_eq action.name name

-- the ids and the names beside them are those of the same actions
abbrev pub pairs_known : RawProgram → List ℕ → List (List ℕ) → Bool
pairs_known raw ids names = list_all (λ pair. has_name pair.1 (action_by_id raw pair.0)) (zip ids names)

-- there is an action, and it has so many data
abbrev pub has_data : ℕ → Option Action → Bool
has_data count None = false
has_data count (Some action) = length action.runtime_data == count

-- the action of a default entry is there and has as many data as are given
abbrev pub default_known : RawProgram → Option DefaultEntry → Bool
default_known raw None = true
default_known raw (Some entry) = has_data (length entry.action_data) (action_by_id raw entry.action_id)

-- an action profile is there, where one is named
abbrev pub profile_known : RawProgram → Option (List ℕ) → Bool
profile_known raw None = true
profile_known raw (Some name) = is_some (named (λ x. x.name) name (profiles raw))

-- each name and id in a table stands for what there is, but for nodes
abbrev pub table_known : RawProgram → Table → Bool
table_known raw table =
    list_all (λ key. is_readable raw key.target) table.key && pairs_known raw table.action_ids table.actions && profile_known raw table.action_profile && default_known raw table.default_entry

-- the fields of a selector are there, where there is one
abbrev pub selector_known : RawProgram → Option Selector → Bool
selector_known raw None = true
selector_known raw (Some selector) = list_all (is_part (is_readable raw)) selector.input

-- ---- names that are looked for as lists

-- an optional name as a list
abbrev pub optional_name : Option (List ℕ) → List (List ℕ)
optional_name None = []
optional_name (Some name) = name ∷ []

-- the names of the states that a state leads to
abbrev pub next_names : ParseState → List (List ℕ)
next_names state = flat_map (λ transition. optional_name transition.next_state) state.transitions

-- the names of the nodes of a pipeline
abbrev pub node_names : Pipeline → List (List ℕ)
node_names pipeline = map (λ x. x.name) pipeline.tables ++ map (λ x. x.name) pipeline.conditionals

-- the names of the nodes that follow a table
abbrev pub table_nexts : Table → List (List ℕ)
table_nexts table = flat_map (λ next. optional_name next.node) table.next_tables ++ optional_name table.base_default_next

-- the names of the nodes that follow a conditional
abbrev pub conditional_nexts : Conditional → List (List ℕ)
conditional_nexts conditional = optional_name conditional.true_next ++ optional_name conditional.false_next

-- all names of nodes in a pipeline
abbrev pub nexts : Pipeline → List (List ℕ)
nexts pipeline = optional_name pipeline.init_table ++ flat_map table_nexts pipeline.tables ++ flat_map conditional_nexts pipeline.conditionals

-- ---- the rule

-- a name of a calculation or of a node stands for nothing
abbrev pub list_names_nothing : RawProgram → Bool
list_names_nothing raw =
    name_nothing (map (λ x. x.name) raw.calculations) (map (λ x. x.calculation) raw.checksums)
    || name_nothing (node_names raw.pipelines.ingress) (nexts raw.pipelines.ingress) || name_nothing (node_names raw.pipelines.egress) (nexts raw.pipelines.egress)

-- the types of headers, the headers that are written and the first state are there
abbrev pub headers_known : RawProgram → Bool
headers_known raw =
    list_all (λ header. is_some (named (λ x. x.name) header.header_type raw.header_types)) raw.headers && list_all (has_header raw) raw.deparser.order
    && is_some (named (λ x. x.name) raw.parser.init_state raw.parser.parse_states)

-- all names in the parser, the calculations, the checksums and the learn lists stand for what there is, but for those
abbrev pub packets_known : RawProgram → Bool
packets_known raw =
    list_all (state_known raw) raw.parser.parse_states && list_all (λ x. list_all (input_known raw) x.input) raw.calculations && list_all (checksum_known raw) raw.checksums
    && list_all (λ x. list_all (is_part (is_readable raw)) x.elements) raw.learn_lists

-- the same of a pipeline
abbrev pub pipeline_known : RawProgram → Pipeline → Bool
pipeline_known raw pipeline =
    list_all (table_known raw) pipeline.tables && list_all (λ x. selector_known raw x.selector) pipeline.action_profiles && list_all (λ x. is_known raw 0 x.expression) pipeline.conditionals

-- each name and each id stands for what there is
abbrev pub references_known : RawProgram → Bool
references_known raw =
    headers_known raw && packets_known raw && list_all (action_known raw) raw.actions && pipeline_known raw raw.pipelines.ingress && pipeline_known raw raw.pipelines.egress && not (list_names_nothing raw)
