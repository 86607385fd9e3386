-- What reading a program's JSON gives of the numbers in its raw records: served widths and literals are in their ranges.
use Rattle.std.specs.Prelude.{ℕ, ◌^◌, ◌<◌, ◌≤◌, All, IfSome}
use Rattle.bm_values.specs.declared.raw.Part.{Part}
use Rattle.bm_values.specs.declared.raw.Part.TheVariants as parts
use Rattle.bm_values.specs.Trees.{Tree}
use Rattle.bm_values.specs.Trees as trees
use Rattle.bm_records.specs.declared.raw.HeaderType.{HeaderType}
use Rattle.bm_records.specs.declared.raw.Primitive.{Primitive}
use Rattle.bm_records.specs.declared.raw.Primitive.TheVariants as primitives
use Rattle.bm_records.specs.declared.raw.Action.{Action}
use Rattle.bm_records.specs.declared.raw.ParserOp.{ParserOp}
use Rattle.bm_records.specs.declared.raw.ParserOp.TheVariants as parser_ops
use Rattle.bm_records.specs.declared.raw.CalculationInput.{CalculationInput}
use Rattle.bm_records.specs.declared.raw.CalculationInput.TheVariants as inputs
use Rattle.bm_records.specs.declared.raw.Pipeline.{Pipeline}
use Rattle.bm_records.specs.declared.raw.RawProgram.{RawProgram}

-- a width that is served has 1 to 128 bits
abbrev pub IsSoundWidth : Part ℕ → Type 0
IsSoundWidth (parts.Served bits) = (1 ≤ bits) × (bits ≤ 128)
IsSoundWidth parts.LeftOut = Unit {0}

-- a literal that is served has at most 128 bits
abbrev pub IsSoundLiteral : Part ℕ → Type 0
IsSoundLiteral (parts.Served value) = value < 2 ^ 128
IsSoundLiteral parts.LeftOut = Unit {0}

-- so has each literal of an expression
abbrev pub IsSoundTree : Tree → Type 0
IsSoundTree (trees.literal value) = IsSoundLiteral value
IsSoundTree (trees.unary operator x) = IsSoundTree x
IsSoundTree (trees.binary operator x y) = IsSoundTree x × IsSoundTree y
IsSoundTree (trees.choice condition x y) = IsSoundTree condition × IsSoundTree x × IsSoundTree y
IsSoundTree _ = Unit {0}

-- the widths of a header type's fields are in their range
abbrev pub IsSoundType : HeaderType → Type 0
IsSoundType type = All (λ field. IsSoundWidth field.width) type.fields

-- so are the literals of what the parser sets
abbrev pub IsSoundParserOp : ParserOp → Type 0
IsSoundParserOp (parser_ops.Set target value) = IsSoundTree value
IsSoundParserOp _ = Unit {0}

-- so are those of what a primitive assigns or counts
abbrev pub IsSoundPrimitive : Primitive → Type 0
IsSoundPrimitive (primitives.Assign target value) = IsSoundTree value
IsSoundPrimitive (primitives.Count counter index) = IsSoundTree index
IsSoundPrimitive _ = Unit {0}

-- the widths of an action's data and the literals of its primitives
pub record IsSoundAction (action : Action) : Type 0 where
  pub runtime_data : All (λ datum. IsSoundWidth datum.width) action.runtime_data
  pub primitives : All IsSoundPrimitive action.primitives

-- the width of a literal that a calculation takes in
abbrev pub IsSoundInput : CalculationInput → Type 0
IsSoundInput (inputs.Literal value width) = IsSoundWidth width
IsSoundInput _ = Unit {0}

-- the literals of a pipeline's conditionals
abbrev pub IsSoundPipeline : Pipeline → Type 0
IsSoundPipeline pipeline = All (λ conditional. IsSoundTree conditional.expression) pipeline.conditionals

-- the numbers of a program's raw records are in their ranges
pub record IsSound (program : RawProgram) : Type 0 where
  pub header_types : All IsSoundType program.header_types
  pub parse_states : All (λ state. All IsSoundParserOp state.parser_ops) program.parser.parse_states
  pub calculations : All (λ calculation. All IsSoundInput calculation.input) program.calculations
  pub checksums : All (λ checksum. IfSome checksum.if_cond IsSoundTree) program.checksums
  pub actions : All IsSoundAction program.actions
  pub ingress : IsSoundPipeline program.pipelines.ingress
  pub egress : IsSoundPipeline program.pipelines.egress
