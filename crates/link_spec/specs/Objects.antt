-- The parser, actions, digests and checksums of a program, by places.
use Rattle.std.specs.Prelude.{ℕ, ◌==◌, ◌-◌, ◌^◌, if◌then◌else◌, List, [], map, Option, Some, None, unwrap_or, option_map, option_and_then, codes}
use Rattle.std.specs.List.{position}
use Rattle.p4_types.specs.declared.info.Info.{Info}
use Rattle.bm_values.specs.declared.raw.Part.{Part}
use Rattle.bm_values.specs.Literals.{width_bits}
use Rattle.bm_records.specs.declared.raw.RawProgram.{RawProgram}
use Rattle.bm_records.specs.declared.raw.Primitive as raw_primitives
use Rattle.bm_records.specs.declared.raw.Primitive.TheVariants as raws
use Rattle.bm_records.specs.declared.raw.Action as raw_actions
use Rattle.bm_records.specs.declared.raw.LearnListName.{LearnListName}
use Rattle.bm_records.specs.declared.raw.LearnListName.TheVariants as lists
use Rattle.bm_records.specs.declared.raw.LearnList as raw_lists
use Rattle.bm_records.specs.declared.raw.CounterArray.{CounterArray}
use Rattle.bm_records.specs.declared.raw.ParserOp as raw_ops
use Rattle.bm_records.specs.declared.raw.ParserOp.TheVariants as raw_op
use Rattle.bm_records.specs.declared.raw.MatchValue.{MatchValue}
use Rattle.bm_records.specs.declared.raw.MatchValue.TheVariants as matches
use Rattle.bm_records.specs.declared.raw.Transition as raw_transitions
use Rattle.bm_records.specs.declared.raw.ParseState as raw_states
use Rattle.bm_records.specs.declared.raw.CalculationInput as raw_inputs
use Rattle.bm_records.specs.declared.raw.CalculationInput.TheVariants as raw_input
use Rattle.bm_records.specs.declared.raw.Calculation as raw_calculations
use Rattle.bm_records.specs.declared.raw.Checksum as raw_checksums
use Rattle.bm_pipeline.specs.declared.actions.Primitive.{Primitive}
use Rattle.bm_pipeline.specs.declared.actions.Primitive.TheVariants as primitives
use Rattle.bm_pipeline.specs.declared.actions.Action.{Action}
use Rattle.bm_pipeline.specs.declared.actions.LearnList.{LearnList}
use Rattle.bm_pipeline.specs.declared.checksums.Calculation.{Calculation}
use Rattle.bm_pipeline.specs.declared.checksums.CalculationInput.{CalculationInput}
use Rattle.bm_pipeline.specs.declared.checksums.CalculationInput.TheVariants as inputs
use Rattle.bm_pipeline.specs.declared.checksums.Checksum.{Checksum}
use Rattle.bm_pipeline.specs.declared.parser.ErrorNumbers.{ErrorNumbers}
use Rattle.bm_pipeline.specs.declared.parser.KeyTest.{KeyTest}
use Rattle.bm_pipeline.specs.declared.parser.KeyTest.TheVariants as tests
use Rattle.bm_pipeline.specs.declared.parser.ParserOp.{ParserOp}
use Rattle.bm_pipeline.specs.declared.parser.ParserOp.TheVariants as ops
use Rattle.bm_pipeline.specs.declared.parser.ParseState.{ParseState}
use Rattle.bm_pipeline.specs.declared.parser.Parser.{Parser}
use Rattle.bm_pipeline.specs.declared.parser.Transition.{Transition}
use Rattle.bm_rules.specs.Names.{named, place_of}
use Rattle.link_spec.specs.Fields.{at, header_at, header_place, field_at, field_ref, target_at, part_ref, of_part}
use Rattle.link_spec.specs.Expressions.{value_of, truth_of}

-- the numbers of errors: those that the program gives, or else 0, 1 and 2
abbrev pub error_number : RawProgram → List ℕ → ℕ → ℕ
error_number raw name other = unwrap_or (option_map (λ error. error.number) (named (λ error. error.name) name raw.errors)) other

-- the numbers of the three errors
abbrev pub errors_of : RawProgram → ErrorNumbers
errors_of raw = record { no_error = error_number raw (codes "NoError") 0; packet_too_short = error_number raw (codes "PacketTooShort") 1; no_match = error_number raw (codes "NoMatch") 2 }

-- an operation of the parser; one that is not served is none that is linked
abbrev pub parser_op_of : RawProgram → raw_ops.ParserOp → ParserOp
parser_op_of raw (raw_op.Extract header) = ops.Extract (of_part 0 (header_at raw) header)
parser_op_of raw (raw_op.Set target value) = ops.Set (target_at raw target) (value_of raw value)
parser_op_of raw _ = ops.Extract 0

-- the bits of a mask: all where there is none
abbrev pub mask_of : Option (Part ℕ) → ℕ
mask_of None = 2 ^ 128 - 1
mask_of (Some mask) = of_part 0 (λ bits. bits) mask

-- what a transition asks of the key
abbrev pub test_of : MatchValue → Option (Part ℕ) → KeyTest
test_of matches.Default mask = tests.Default
test_of (matches.Literal value) mask = tests.Masked (of_part 0 (λ bits. bits) value) (mask_of mask)
test_of matches.LeftOut mask = tests.Default

-- the place of a state
abbrev pub state_at : RawProgram → List ℕ → Option ℕ
state_at raw name = place_of (λ state. state.name) name raw.parser.parse_states

-- a transition
abbrev pub transition_of : RawProgram → raw_transitions.Transition → Transition
transition_of raw transition = record { test = test_of transition.value transition.mask; next_state = option_and_then (state_at raw) transition.next_state }

-- a state of the parser
abbrev pub state_of : RawProgram → raw_states.ParseState → ParseState
state_of raw state = record { parser_ops = map (parser_op_of raw) state.parser_ops; transition_key = map (part_ref raw) state.transition_key; transitions = map (transition_of raw) state.transitions }

-- the parser
abbrev pub parser_of : RawProgram → Parser
parser_of raw = record { init_state = at (λ state. state.name) raw.parser.init_state raw.parser.parse_states; parse_states = map (state_of raw) raw.parser.parse_states }

-- the place of a counter among the indirect counters of the P4Info, where its array is there and is not direct
abbrev pub counter_by : Info → List ℕ → Option CounterArray → Option ℕ
counter_by info name None = None
counter_by info name (Some array) = if array.is_direct then None else place_of (λ counter. counter.preamble.name) name info.counters

-- the same by the name of its array
abbrev pub counter_at : RawProgram → Info → List ℕ → Option ℕ
counter_at raw info name = counter_by info name (named (λ array. array.name) name raw.counter_arrays)

-- the place of a learn list by its name or its id
abbrev pub list_at : RawProgram → LearnListName → ℕ
list_at raw (lists.Name name) = at (λ list. list.name) name raw.learn_lists
list_at raw (lists.Id id) = of_part 0 (λ number. unwrap_or (position (λ list. list.id == number) raw.learn_lists) 0) id
list_at raw lists.LeftOut = 0

-- a primitive of an action; one that is not served is none that is linked
abbrev pub primitive_of : RawProgram → Info → raw_primitives.Primitive → Primitive
primitive_of raw info (raws.Assign target value) = primitives.Assign (target_at raw target) (value_of raw value)
primitive_of raw info (raws.AddHeader header) = primitives.AddHeader (header_place raw (of_part [] (λ name. name) header))
primitive_of raw info (raws.RemoveHeader header) = primitives.RemoveHeader (of_part 0 (header_at raw) header)
primitive_of raw info (raws.AssignHeader target source) = primitives.AssignHeader (header_place raw (of_part [] (λ name. name) target)) (header_place raw (of_part [] (λ name. name) source))
primitive_of raw info raws.Drop = primitives.MarkToDrop
primitive_of raw info (raws.Count counter index) = primitives.Count (of_part None (counter_at raw info) counter) (value_of raw index)
primitive_of raw info (raws.GenerateDigest list) = primitives.GenerateDigest (list_at raw list)
primitive_of raw info _ = primitives.NoOp

-- an action
abbrev pub action_of : RawProgram → Info → raw_actions.Action → Action
action_of raw info action = record { runtime_data = map (λ datum. width_bits datum.width) action.runtime_data; primitives = map (primitive_of raw info) action.primitives }

-- the data of a digest, with the id of the digest of its name in the P4Info
abbrev pub learn_list_of : RawProgram → Info → raw_lists.LearnList → LearnList
learn_list_of raw info list = record { digest = option_map (λ digest. digest.preamble.id) (named (λ digest. digest.preamble.name) list.name info.digests); elements = map (part_ref raw) list.elements }

-- an input of a calculation
abbrev pub input_of : RawProgram → raw_inputs.CalculationInput → CalculationInput
input_of raw (raw_input.Field name) = inputs.Field (field_ref raw name)
input_of raw (raw_input.Literal value width) = inputs.Literal (of_part 0 (λ bits. bits) value) (width_bits width)
input_of raw raw_input.LeftOut = inputs.Literal 0 0

-- a calculation
abbrev pub calculation_of : RawProgram → raw_calculations.Calculation → Calculation
calculation_of raw calculation = record { input = map (input_of raw) calculation.input }

-- a checksum
abbrev pub checksum_of : RawProgram → raw_checksums.Checksum → Checksum
checksum_of raw checksum =
    record {
      target = field_at raw checksum.target;
      calculation = at (λ calculation. calculation.name) checksum.calculation raw.calculations;
      update = checksum.update;
      verify = checksum.verify;
      if_cond = option_map (truth_of raw) checksum.if_cond;
    }
