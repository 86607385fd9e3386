-- The parser and the deparser (BMv2 JSON form, "parsers" and "deparsers").
use Rattle.std.specs.Prelude.{ℕ, if◌then◌else◌, List, Option, Some, None, codes}
use Rattle.std.specs.Str.{bytes_eq}
use Rattle.serde_json.specs.Data.{Data}
use Rattle.serde_json.specs.Find.{get, as_str}
use Rattle.bm_values.specs.declared.raw.Part.{Part}
use Rattle.bm_values.specs.declared.raw.Part.TheVariants as parts
use Rattle.bm_records.specs.declared.raw.ParserOp.{ParserOp}
use Rattle.bm_records.specs.declared.raw.ParserOp.TheVariants as parser_ops
use Rattle.bm_records.specs.declared.raw.MatchValue.{MatchValue}
use Rattle.bm_records.specs.declared.raw.MatchValue.TheVariants as matches
use Rattle.bm_records.specs.declared.raw.Transition.{Transition}
use Rattle.bm_records.specs.declared.raw.ParseState.{ParseState}
use Rattle.bm_records.specs.declared.raw.Parser.{Parser}
use Rattle.bm_records.specs.declared.raw.Deparser.{Deparser}
use Rattle.bm_values.specs.declared.kinds.ValueKind.{ValueKind}
use Rattle.bm_values.specs.declared.kinds.ValueKind.TheVariants as kinds
use Rattle.bm_records.specs.declared.operations.ParserOpKind.{ParserOpKind}
use Rattle.bm_records.specs.declared.operations.ParserOpKind.TheVariants as ops
use Rattle.list_types.specs.Options.{◌>>=◌}
use Rattle.json_shapes.specs.Shapes.{required, list_of, nullable, unless_absent, nothing_in}
use Rattle.bm_values.specs.Literals.{literal_of, literal_text}
use Rattle.bm_records.specs.Operations.{parser_op_kind}
use Rattle.json_shapes.specs.Arrays.{item_count, item_at}
use Rattle.bm_values.specs.Values.{kind_of, field_value}
use Rattle.bm_values.specs.Expressions.{expression_of}
use Rattle.json_shapes.specs.Arrays.{of_count}

-- the header that is extracted, by the kind of the parameter: just a regular one is served
abbrev pub extracted_by : ValueKind → Data → Option (Part (List ℕ))
extracted_by kinds.Regular d = required as_str (codes "value") d >>= λ header. Some (parts.Served header)
extracted_by kinds.LeftOut d = Some parts.LeftOut
extracted_by _ d = None

-- the header that the first parameter extracts
unfoldable pub extracted : Data → Option (Part (List ℕ))
extracted d = item_at kind_of 0 d >>= λ kind. item_at (extracted_by kind) 0 d

-- an operation `set`: the field that is set, and its value
unfoldable pub set_of : Data → Option ParserOp
set_of d = do
  target ← item_at field_value 0 d
  value ← item_at expression_of 1 d
  Some (parser_ops.Set target value)

-- an operation of a kind, by its parameters, of which there are n
abbrev pub parser_op_by : ParserOpKind → List ℕ → ℕ → Data → Option ParserOp
parser_op_by ops.Extract op n d = of_count 1 n (extracted d >>= λ header. Some (parser_ops.Extract header))
parser_op_by ops.Set op n d = of_count 2 n (set_of d)
parser_op_by ops.LeftOut op n d = Some parser_ops.LeftOut
parser_op_by ops.Unknown op n d = Some (parser_ops.Unknown op)

-- an operation of a parser's state, by its `op` and its parameters
unfoldable pub parser_op_of : Data → Option ParserOp
parser_op_of d = do
  op ← required as_str (codes "op") d
  parameters ← get (codes "parameters") d
  n ← item_count parameters
  parser_op_by (parser_op_kind op) op n parameters

-- `default`, or a literal
abbrev pub match_text : List ℕ → Option MatchValue
match_text text = if bytes_eq text (codes "default") then Some matches.Default else literal_text text >>= λ literal. Some (matches.Literal literal)

-- by a transition's type: a value set is left out
abbrev pub match_by : Option (List ℕ) → Data → Option MatchValue
match_by None d = required as_str (codes "value") d >>= match_text
match_by (Some kind) d =
    if bytes_eq kind (codes "default") then Some matches.Default
    else if bytes_eq kind (codes "hexstr") then required as_str (codes "value") d >>= match_text
    else if bytes_eq kind (codes "parse_vset") then Some matches.LeftOut
    else None

-- what a transition asks of the key
unfoldable pub match_of : Data → Option MatchValue
match_of d = unless_absent as_str (codes "type") d >>= λ kind. match_by kind d

-- a transition: what it asks of the key, its mask and the next state, of which the last two may be null
unfoldable pub transition_of : Data → Option Transition
transition_of d = do
  value ← match_of d
  mask ← required (nullable literal_of) (codes "mask") d
  next_state ← required (nullable as_str) (codes "next_state") d
  Some (record { value = value; mask = mask; next_state = next_state })

-- a parse state: its name, its operations, the fields of its key and its transitions
unfoldable pub state_of : Data → Option ParseState
state_of d = do
  name ← required as_str (codes "name") d
  parser_steps ← required (list_of parser_op_of) (codes "parser_ops") d
  transition_key ← required (list_of field_value) (codes "transition_key") d
  transitions ← required (list_of transition_of) (codes "transitions") d
  Some (record { name = name; parser_ops = parser_steps; transition_key = transition_key; transitions = transitions })

-- a parser: the name of its initial state, and its states
unfoldable pub parser_of : Data → Option Parser
parser_of d = do
  init_state ← required as_str (codes "init_state") d
  parse_states ← required (list_of state_of) (codes "parse_states") d
  Some (record { init_state = init_state; parse_states = parse_states })

-- a deparser has no primitives
unfoldable pub deparser_of : Data → Option Deparser
deparser_of d = do
  order ← required (list_of as_str) (codes "order") d
  _ ← nothing_in (codes "primitives") d
  Some (record { order = order })
