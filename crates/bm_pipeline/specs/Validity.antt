-- What makes a program valid (BMv2 JSON form; limits: this project's profile).
use Rattle.std.specs.Prelude.{◌≡◌, ◌≢◌, ℕ, suc, ◌+◌, ◌%◌, ◌<◌, ◌≤◌, true, false, List, [], ◌∷◌, length, All, sum, IfSome, IsSomeAnd, slice_get}
use Rattle.bm_expr.specs.declared.store.FieldPlace.{FieldPlace}
use Rattle.bm_expr.specs.declared.store.HeaderPlace.{HeaderPlace}
use Rattle.bm_expr.specs.Fits.{FieldFits, NumberFits, TruthFits}
use Rattle.bm_expr.specs.Settled.{is_settled, number_operands_settled, truth_operands_settled}
use Rattle.bm_expr.specs.Store.{AreApart}
use Rattle.bm_expr.specs.Trees.{Number, Truth}
use Rattle.bm_pipeline.specs.declared.actions.Action.{Action}
use Rattle.bm_pipeline.specs.declared.actions.LearnList.{LearnList}
use Rattle.bm_pipeline.specs.declared.actions.Primitive.{Primitive}
use Rattle.bm_pipeline.specs.declared.actions.Primitive.TheVariants as primitives
use Rattle.bm_pipeline.specs.declared.checksums.CalculationInput.{CalculationInput}
use Rattle.bm_pipeline.specs.declared.checksums.CalculationInput.TheVariants as inputs
use Rattle.bm_pipeline.specs.declared.checksums.Checksum.{Checksum}
use Rattle.bm_pipeline.specs.declared.headers.FieldRef.{FieldRef}
use Rattle.bm_pipeline.specs.declared.headers.FieldRef.TheVariants as refs
use Rattle.bm_pipeline.specs.declared.headers.Header.{Header}
use Rattle.bm_pipeline.specs.declared.headers.StandardMetadata.{StandardMetadata}
use Rattle.bm_pipeline.specs.declared.parser.ParseState.{ParseState}
use Rattle.bm_pipeline.specs.declared.parser.Parser.{Parser}
use Rattle.bm_pipeline.specs.declared.parser.ParserOp.{ParserOp}
use Rattle.bm_pipeline.specs.declared.parser.ParserOp.TheVariants as ops
use Rattle.bm_pipeline.specs.declared.program.Program.{Program}
use Rattle.bm_pipeline.specs.declared.tables.Conditional.{Conditional}
use Rattle.bm_pipeline.specs.declared.tables.DefaultEntry.{DefaultEntry}
use Rattle.bm_pipeline.specs.declared.tables.Next.{Next}
use Rattle.bm_pipeline.specs.declared.tables.Node.{Node}
use Rattle.bm_pipeline.specs.declared.tables.Node.TheVariants as nodes
use Rattle.bm_pipeline.specs.declared.tables.Table.{Table}
use Rattle.bm_pipeline.specs.declared.tables.TableAction.{TableAction}
use Rattle.bm_pipeline.specs.Graph.{HasNoLoop}
use Rattle.bm_pipeline.specs.Places.{counts, key_bytes, next_nodes, after_node, node_count, after_state}

-- a width in bits
abbrev pub IsWidth : ℕ → Type 0
IsWidth width = (1 ≤ width) × (width ≤ 128)

-- a header at this place among the headers, whose fields stand from this one on; one of packets has whole bytes
pub record IsHeader (place from : ℕ) (header : Header) : Type 0 where
  pub own : header.place.header ≡ place
  pub first : header.place.first ≡ from
  pub count : header.place.count ≡ length header.widths
  pub widths : All IsWidth header.widths
  pub bits : header.bits ≡ sum header.widths
  pub whole : header.metadata ≡ false → header.bits % 8 ≡ 0

-- the headers stand one behind the other, and so do their fields, up to this number of them
abbrev pub HeadersStand : ℕ → ℕ → ℕ → List Header → Type 0
HeadersStand fields place first [] = first ≡ fields
HeadersStand fields place first (header ∷ others) = IsHeader place first header × HeadersStand fields (place + 1) (first + header.place.count) others

-- the place is that of the header that stands there
abbrev pub IsHeaderPlace : Program → HeaderPlace → Type 0
IsHeaderPlace program place = IsSomeAnd (slice_get program.headers place.header) (λ header. header.place ≡ place)

-- a header that is read from packets or written to them has whole bytes
abbrev pub IsInPackets : Program → ℕ → Type 0
IsInPackets program place = IsSomeAnd (slice_get program.headers place) (λ header. header.bits % 8 ≡ 0)

-- a field is among the program's
abbrev pub IsField : Program → FieldPlace → Type 0
IsField program place = FieldFits (counts program 0) place

-- so it is with what is read as a field
abbrev pub IsRead : Program → FieldRef → Type 0
IsRead program (refs.Field place) = IsField program place
IsRead program (refs.Valid header) = header < length program.headers

-- an expression that is a number names what there is, beside so many data, and its operands are settled where they must be
pub record IsNumber (program : Program) (args : ℕ) (number : Number) : Type 0 where
  pub fits : NumberFits (counts program args) number
  pub settled : number_operands_settled number ≡ true

-- the same of one that is a truth value, which names no data
pub record IsTruth (program : Program) (truth : Truth) : Type 0 where
  pub fits : TruthFits (counts program 0) truth
  pub settled : truth_operands_settled truth ≡ true

-- the fields of `standard_metadata` are there, and `egress_spec` has 9 bits
pub record IsStandard (program : Program) (standard : StandardMetadata) : Type 0 where
  pub ingress_port : IfSome standard.ingress_port (IsField program)
  pub packet_length : IfSome standard.packet_length (IsField program)
  pub egress_spec : IsField program standard.egress_spec
  pub nine_bits : standard.egress_spec.width ≡ 9
  pub egress_port : IfSome standard.egress_port (IsField program)
  pub egress_rid : IfSome standard.egress_rid (IsField program)
  pub mcast_grp : IfSome standard.mcast_grp (IsField program)
  pub parser_error : IfSome standard.parser_error (IsField program)
  pub checksum_error : IfSome standard.checksum_error (IsField program)

-- an operation of a state names what there is
abbrev pub IsParserOp : Program → ParserOp → Type 0
IsParserOp program (ops.Extract header) = IsInPackets program header
IsParserOp program (ops.Set target value) = IsField program target × IsNumber program 0 value

-- a state of the parser
pub record IsParseState (program : Program) (state : ParseState) : Type 0 where
  pub parser_ops : All (IsParserOp program) state.parser_ops
  pub key : All (IsRead program) state.transition_key
  pub key_bytes : key_bytes state.transition_key ≤ 16
  pub transitions : All (λ transition. IfSome transition.next_state (λ next. next < length program.parser.parse_states)) state.transitions

-- the parser
pub record IsParser (program : Program) (parser : Parser) : Type 0 where
  pub init_state : parser.init_state < length parser.parse_states
  pub number : length parser.parse_states ≤ 256
  pub parse_states : All (IsParseState program) parser.parse_states
  pub no_loop : HasNoLoop (after_state program) (length parser.parse_states)

-- two headers of one type: they have fields of the same widths, which are other fields unless it is one header
pub record AreOfOneType (program : Program) (target source : HeaderPlace) : Type 0 where
  pub to : IsHeaderPlace program target
  pub from : IsHeaderPlace program source
  pub as_many : target.count ≡ source.count
  pub apart : target.header ≢ source.header → AreApart source target

-- a primitive of an action with so many data names what there is
abbrev pub IsPrimitive : Program → ℕ → Primitive → Type 0
IsPrimitive program args (primitives.Assign target value) = IsField program target × IsNumber program args value
IsPrimitive program args (primitives.AddHeader place) = IsHeaderPlace program place
IsPrimitive program args (primitives.RemoveHeader header) = header < length program.headers
IsPrimitive program args (primitives.AssignHeader target source) = AreOfOneType program target source
IsPrimitive program args primitives.MarkToDrop = Unit {0}
IsPrimitive program args (primitives.Count counter index) = IsNumber program args index × (is_settled index ≡ true)
IsPrimitive program args (primitives.GenerateDigest list) = list < length program.learn_lists
IsPrimitive program args primitives.NoOp = Unit {0}

-- an action
pub record IsAction (program : Program) (action : Action) : Type 0 where
  pub number : length action.runtime_data ≤ 8
  pub widths : All IsWidth action.runtime_data
  pub limit : length action.primitives ≤ 64
  pub primitives : All (IsPrimitive program (length action.runtime_data)) action.primitives

-- the data of a digest
pub record IsLearnList (program : Program) (list : LearnList) : Type 0 where
  pub limit : length list.elements ≤ 128
  pub elements : All (IsRead program) list.elements

-- an input of a calculation
abbrev pub IsInput : Program → CalculationInput → Type 0
IsInput program (inputs.Field field) = IsRead program field
IsInput program (inputs.Literal value width) = IsWidth width

-- a checksum
pub record IsChecksum (program : Program) (checksum : Checksum) : Type 0 where
  pub target : IsField program checksum.target
  pub calculation : checksum.calculation < length program.calculations
  pub if_cond : IfSome checksum.if_cond (IsTruth program)

-- a node is among the program's
abbrev pub IsNode : Program → Node → Type 0
IsNode program (nodes.Table place) = place < length program.tables
IsNode program (nodes.Conditional place) = place < length program.conditionals

-- what follows an outcome is there
abbrev pub IsNext : Program → Next → Type 0
IsNext program next = All (IsNode program) (next_nodes next)

-- an action of a table
pub record IsTableAction (program : Program) (action : TableAction) : Type 0 where
  pub place : action.action < length program.actions
  pub next : IsNext program action.next

-- a table's own default action has as many data as it is given
pub record IsDefaultEntry (program : Program) (default : DefaultEntry) : Type 0 where
  pub action : IsTableAction program default.action
  pub action_data : IsSomeAnd (slice_get program.actions default.action.action) (λ action. length default.action_data ≡ length action.runtime_data)

-- a table
pub record IsTable (program : Program) (table : Table) : Type 0 where
  pub limit : length table.key ≤ 16
  pub key : All (IsRead program) table.key
  pub actions : All (IsTableAction program) table.actions
  pub hit : IsNext program table.hit
  pub miss : IsNext program table.miss
  pub base_default_next : IfSome table.base_default_next (IsNode program)
  pub default_entry : IfSome table.default_entry (IsDefaultEntry program)
  pub selector : All (IsRead program) table.selector

-- a conditional
pub record IsConditional (program : Program) (conditional : Conditional) : Type 0 where
  pub expression : IsTruth program conditional.expression
  pub true_next : IfSome conditional.true_next (IsNode program)
  pub false_next : IfSome conditional.false_next (IsNode program)

-- a valid program: it keeps the limits, each place is in range, expressions are settled, and both graphs have no loop
pub record IsValid (program : Program) : Type 0 where
  pub headers_limit : length program.headers ≤ 128
  pub fields_limit : program.fields ≤ 1024
  pub headers : HeadersStand program.fields 0 0 program.headers
  pub standard_metadata : IsStandard program program.standard_metadata
  pub parser : IsParser program program.parser
  pub deparser : All (IsInPackets program) program.deparser
  pub calculations : All (λ calculation. All (IsInput program) calculation.input) program.calculations
  pub checksums : All (IsChecksum program) program.checksums
  pub learn_lists : All (IsLearnList program) program.learn_lists
  pub actions_limit : length program.actions ≤ 512
  pub actions : All (IsAction program) program.actions
  pub tables_limit : length program.tables ≤ 128
  pub tables : All (IsTable program) program.tables
  pub conditionals : All (IsConditional program) program.conditionals
  pub ingress : IfSome program.ingress (IsNode program)
  pub egress : IfSome program.egress (IsNode program)
  -- a node that is none of the program's leads nowhere, so that one edge more is too long in each program
  pub no_loop : HasNoLoop (after_node program) (suc (node_count program))
