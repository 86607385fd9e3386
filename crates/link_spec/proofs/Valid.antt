-- A program whose raw records break none of the rules is linked to a valid one.
use Rattle.std.proofs.Common.{◌≡◌, ℕ, ◌+◌, nat_lt, Bool, true, false, cond, not, List, length, map, Option, Some, None, is_some, refl, sym, ◌∙◌, arith}
use Rattle.std.specs.Prelude.{All, IfSome, slice_index_or, codes, ◌==◌}
use Rattle.std.specs.List.{list_any, list_all}
use Rattle.std.specs.Set.{is_member}
use Rattle.std.specs.Str.{bytes_eq}
use Rattle.std.proofs.lemmas.Bool.{eqb-true, ltb-false, not-false}
use Rattle.std.proofs.lemmas.List.{length-map}
use Rattle.std.proofs.lemmas.List.Elements.{All-append, All-map}
use Rattle.std.proofs.lemmas.List.Sums.{AllPass-from_list_all}
use Rattle.p4_types.specs.declared.info.Info.{Info}
use Rattle.bm_pipeline.specs.Validity.{IsField, IsStandard, IsParseState, IsParser, IsInPackets, IsInput, IsChecksum, IsLearnList, IsAction, IsTable, IsConditional, IsValid}
use Rattle.bm_records.specs.declared.raw.ParseState.{ParseState}
use Rattle.bm_records.specs.declared.raw.Pipeline.{Pipeline}
use Rattle.bm_records.specs.declared.raw.RawProgram.{RawProgram}
use Rattle.bm_records.specs.declared.raw.TypeField.{TypeField}
use Rattle.bm_json.specs.LeftOut.{is_left_out, parser_op_left_out, transition_left_out, state_left_out, selector_left_out, pipeline_left_out, calculation_left_out, learn_list_left_out, action_left_out, names_ragged, extracts_ragged}
use Rattle.bm_json.specs.Limits.{action_exceeds}
use Rattle.bm_json.specs.Sound.{IsSoundPipeline, IsSound}
use Rattle.bm_rules.specs.Names.{name_nothing}
use Rattle.bm_rules.specs.Fields.{has_header, is_readable, is_part, bits_of_names, field_by_names, field_bits, exceeds}
use Rattle.bm_rules.specs.References.{profiles, parser_op_known, next_state_known, state_known, input_known, checksum_known, action_known, table_known, selector_known, is_known, pipeline_known}
use Rattle.bm_rules.specs.Operations.{parser_op_unknown, parser_op_typed, condition_typed, primitive_typed}
use Rattle.bm_rules.specs.Kinds.{is_condition}
use Rattle.bm_rules.proofs.Sameness.{list_any_map}
use Rattle.link_spec.specs.Fields.{header_at, field_by, standard_field}
use Rattle.link_spec.specs.Objects.{state_of, parser_of, calculation_of, checksum_of, learn_list_of, action_of}
use Rattle.link_spec.specs.Tables.{Side, ingress, egress, table_of, conditional_of}
use Rattle.link_spec.specs.Linked.{program_of}
use Rattle.link_spec.specs.Laws.{ProgramsAreValid}
use Rattle.link_spec.proofs.Found.{each_fails, unwrapped_within}
use Rattle.link_spec.proofs.Headers.{headers_length, fields_limit, HasTypes, all_stand}
use Rattle.link_spec.proofs.Fields.{header_in_packets, field_fits}
use Rattle.link_spec.proofs.Packets.{OpKept, ops_linked, all_readable, key_fits, transitions_linked, inputs_linked, member_found, checksum_linked, list_linked}
use Rattle.link_spec.proofs.Actions.{action_linked}
use Rattle.link_spec.proofs.Tables.{IsSide, node_linked, ProfileKept, table_linked, conditional_linked}
use Rattle.link_spec.proofs.StateLoops.{states_have_no_loop}
use Rattle.link_spec.proofs.NodeLoops.{tables_count, conditionals_count, nodes_have_no_loop}
use Rattle.link_spec.proofs.Tests.{three_hold, three_fail}
use Rattle.link_spec.proofs.Kept.{LeavesNothing, selectors_kept, KeepsLimits, breaks_no_form, in_pipeline, KeepsRules, breaks_no_rule}

-- raw records whose numbers are in their ranges and that break none of the rules
record Kept (raw : RawProgram) (info : Info) : Type 0 where
  sound : IsSound raw
  forms : LeavesNothing raw
  limits : KeepsLimits raw
  rules : KeepsRules raw

has_types : (raw : RawProgram) (info : Info) → Kept raw info → HasTypes raw
has_types raw info k = record { sound = k.sound.header_types; kept = k.forms.types }

-- ---- standard metadata

standard_there : (raw : RawProgram) (info : Info) → HasTypes raw → (name : List ℕ) (there : Bool) → is_some (field_by_names raw (codes "standard_metadata") name) ≡ there
    → IfSome (cond there (Some (field_by raw (codes "standard_metadata") name)) None) (IsField (program_of raw info))
standard_there raw info types name true some = field_fits raw info 0 types (codes "standard_metadata") name some
standard_there raw info types name false none = tt

standard_linked : (raw : RawProgram) (info : Info) → HasTypes raw → (name : List ℕ) → IfSome (standard_field raw name) (IsField (program_of raw info))
standard_linked raw info types name = standard_there raw info types name (is_some (field_by_names raw (codes "standard_metadata") name)) refl

bits_there : (field : Option TypeField) → (field_bits field == 9) ≡ true → is_some field ≡ true
bits_there None nine = absurd cc
bits_there (Some field) nine = refl

is_standard : (raw : RawProgram) (info : Info) → Kept raw info → IsStandard (program_of raw info) (program_of raw info).standard_metadata
is_standard raw info k =
    let types = has_types raw info k in
    record {
      ingress_port = standard_linked raw info types _;
      packet_length = standard_linked raw info types _;
      egress_spec = field_fits raw info 0 types _ _ (bits_there (field_by_names raw (codes "standard_metadata") (codes "egress_spec")) k.rules.egress_spec);
      nine_bits = eqb-true (bits_of_names raw (codes "standard_metadata") (codes "egress_spec")) 9 k.rules.egress_spec;
      egress_port = standard_linked raw info types _;
      egress_rid = standard_linked raw info types _;
      mcast_grp = standard_linked raw info types _;
      parser_error = standard_linked raw info types _;
      checksum_error = standard_linked raw info types _;
    }

-- ---- the parser

-- what is asked of a state of the parser
record StateKept (raw : RawProgram) (state : ParseState) : Type 0 where
  ops : All (OpKept raw) state.parser_ops
  known : list_all (is_part (is_readable raw)) state.transition_key ≡ true
  kept : list_any is_left_out state.transition_key ≡ false
  narrow : exceeds 16 raw state.transition_key ≡ false

state_kept : (raw : RawProgram) (info : Info) → Kept raw info → All (StateKept raw) raw.parser.parse_states
state_kept raw info k i d l =
    let state : ParseState = slice_index_or raw.parser.parse_states i d in
    let known = three_hold (list_all (parser_op_known raw) state.parser_ops) (list_all (is_part (is_readable raw)) state.transition_key) (list_all (λ transition. next_state_known raw transition.next_state) state.transitions)
    (AllPass-from_list_all (state_known raw) raw.parser.parse_states k.rules.known.states i d l) in
    let kept = three_fail (list_any parser_op_left_out state.parser_ops) (list_any is_left_out state.transition_key) (list_any transition_left_out state.transitions)
    (each_fails state_left_out raw.parser.parse_states k.forms.states i d l) in
    let typed : list_all parser_op_typed state.parser_ops ≡ true = AllPass-from_list_all (λ state. list_all parser_op_typed state.parser_ops) raw.parser.parse_states k.rules.ops_typed i d l in
    let served : list_any parser_op_unknown state.parser_ops ≡ false = each_fails (λ state. list_any parser_op_unknown state.parser_ops) raw.parser.parse_states k.rules.ops_served i d l in
    let whole : list_any (extracts_ragged raw.header_types raw.headers) state.parser_ops ≡ false =
    each_fails (λ state. list_any (extracts_ragged raw.header_types raw.headers) state.parser_ops) raw.parser.parse_states k.forms.extracted i d l in
    record {
      ops = λ j e m.
          record {
            known = AllPass-from_list_all (parser_op_known raw) state.parser_ops known.0 j e m;
            typed = AllPass-from_list_all parser_op_typed state.parser_ops typed j e m;
            kept = each_fails parser_op_left_out state.parser_ops kept.0 j e m;
            served = each_fails parser_op_unknown state.parser_ops served j e m;
            sound = k.sound.parse_states i d l j e m;
            whole = each_fails (extracts_ragged raw.header_types raw.headers) state.parser_ops whole j e m;
          };
      known = known.1;
      kept = kept.1;
      narrow = each_fails (λ state. exceeds 16 raw state.transition_key) raw.parser.parse_states k.rules.keys i d l;
    }

state_linked : (raw : RawProgram) (info : Info) → HasTypes raw → (state : ParseState) → StateKept raw state → IsParseState (program_of raw info) (state_of raw state)
state_linked raw info types state s =
    record {
      parser_ops = ops_linked raw info types state.parser_ops s.ops;
      key = all_readable raw info types state.transition_key s.known s.kept;
      key_bytes = key_fits raw 16 state.transition_key s.kept s.narrow;
      transitions = transitions_linked raw state.transitions;
    }

is_parser : (raw : RawProgram) (info : Info) → Kept raw info → IsParser (program_of raw info) (parser_of raw)
is_parser raw info k =
    let many : length (map (state_of raw) raw.parser.parse_states) ≡ length raw.parser.parse_states = length-map raw.parser.parse_states (state_of raw) in
    let first = unwrapped_within (λ state. bytes_eq state.name raw.parser.init_state) raw.parser.parse_states k.rules.known.init_state in
    record {
      init_state = omega (arith, many, first);
      number = omega (arith, many, ltb-false 256 (length raw.parser.parse_states) k.limits.states);
      parse_states = All-map (IsParseState (program_of raw info)) (state_of raw) raw.parser.parse_states
          (λ i d l. state_linked raw info (has_types raw info k) (slice_index_or raw.parser.parse_states i d) (state_kept raw info k i d l));
      no_loop = states_have_no_loop raw info k.rules.states_loop (omega (arith, first));
    }

-- ---- what the parser does not read

deparser_linked : (raw : RawProgram) (info : Info) → Kept raw info → All (IsInPackets (program_of raw info)) (map (header_at raw) raw.deparser.order)
deparser_linked raw info k =
    All-map (IsInPackets (program_of raw info)) (header_at raw) raw.deparser.order
    (λ i d l. header_in_packets raw info (slice_index_or raw.deparser.order i d) (AllPass-from_list_all (has_header raw) raw.deparser.order k.rules.known.written i d l)
    (each_fails (names_ragged raw.header_types raw.headers) raw.deparser.order k.forms.written i d l))

calculations_linked : (raw : RawProgram) (info : Info) → Kept raw info → All (λ calculation. All (IsInput (program_of raw info)) calculation.input) (map (calculation_of raw) raw.calculations)
calculations_linked raw info k =
    All-map (λ calculation. All (IsInput (program_of raw info)) calculation.input) (calculation_of raw) raw.calculations
    (λ i d l. inputs_linked raw info (has_types raw info k) (slice_index_or raw.calculations i d).input
    (AllPass-from_list_all (λ x. list_all (input_known raw) x.input) raw.calculations k.rules.known.calculations i d l)
    (each_fails calculation_left_out raw.calculations k.forms.calculations i d l) (k.sound.calculations i d l))

each_named : (raw : RawProgram) → name_nothing (map (λ x. x.name) raw.calculations) (map (λ x. x.calculation) raw.checksums) ≡ false
    → All (λ x. is_member bytes_eq (map (λ x. x.name) raw.calculations) x.calculation ≡ true) raw.checksums
each_named raw none i d l =
    not-false (is_member bytes_eq (map (λ x. x.name) raw.calculations) (slice_index_or raw.checksums i d).calculation)
    (each_fails (λ x. not (is_member bytes_eq (map (λ x. x.name) raw.calculations) x.calculation)) raw.checksums
    (sym (list_any_map (λ name. not (is_member bytes_eq (map (λ x. x.name) raw.calculations) name)) (λ x. x.calculation) raw.checksums) ∙ none) i d l)

checksums_linked : (raw : RawProgram) (info : Info) → Kept raw info → All (IsChecksum (program_of raw info)) (map (checksum_of raw) raw.checksums)
checksums_linked raw info k =
    All-map (IsChecksum (program_of raw info)) (checksum_of raw) raw.checksums
    (λ i d l. checksum_linked raw info (has_types raw info k) (slice_index_or raw.checksums i d)
    (record {
      known = AllPass-from_list_all (checksum_known raw) raw.checksums k.rules.known.checksums i d l;
      calculation = member_found (λ x. x.name) (slice_index_or raw.checksums i d).calculation raw.calculations (each_named raw k.rules.known.named_calculations i d l);
      typed = AllPass-from_list_all (λ x. condition_typed x.if_cond) raw.checksums k.rules.checksums_typed i d l;
      sound = k.sound.checksums i d l;
    }))

lists_linked : (raw : RawProgram) (info : Info) → Kept raw info → All (IsLearnList (program_of raw info)) (map (learn_list_of raw info) raw.learn_lists)
lists_linked raw info k =
    All-map (IsLearnList (program_of raw info)) (learn_list_of raw info) raw.learn_lists
    (λ i d l. list_linked raw info (has_types raw info k) (slice_index_or raw.learn_lists i d)
    (AllPass-from_list_all (λ x. list_all (is_part (is_readable raw)) x.elements) raw.learn_lists k.rules.known.learn_lists i d l)
    (each_fails learn_list_left_out raw.learn_lists k.forms.learn_lists i d l) (each_fails (λ list. nat_lt 128 (length list.elements)) raw.learn_lists k.limits.elements i d l))

actions_linked : (raw : RawProgram) (info : Info) → Kept raw info → All (IsAction (program_of raw info)) (map (action_of raw info) raw.actions)
actions_linked raw info k =
    All-map (IsAction (program_of raw info)) (action_of raw info) raw.actions
    (λ i d l. action_linked raw info (has_types raw info k) (slice_index_or raw.actions i d)
    (record {
      known = AllPass-from_list_all (action_known raw) raw.actions k.rules.known.actions i d l;
      typed = AllPass-from_list_all (λ action. list_all primitive_typed action.primitives) raw.actions k.rules.actions_typed i d l;
      kept = each_fails action_left_out raw.actions k.forms.actions i d l;
      limits = each_fails action_exceeds raw.actions k.limits.in_actions i d l;
      sound = k.sound.actions i d l;
    }))

-- ---- both pipelines

ingress_side : (raw : RawProgram) (info : Info) → IsSide (program_of raw info) (ingress raw)
ingress_side raw info = record { tables = omega (arith, tables_count raw info); conditionals = omega (arith, conditionals_count raw) }

egress_side : (raw : RawProgram) (info : Info) → IsSide (program_of raw info) (egress raw)
egress_side raw info = record { tables = omega (arith, tables_count raw info); conditionals = omega (arith, conditionals_count raw) }

profiles_of : (raw : RawProgram) (pipeline : Pipeline) → pipeline_known raw pipeline ≡ true → pipeline_left_out pipeline ≡ false → All (ProfileKept raw) pipeline.action_profiles
profiles_of raw pipeline known kept i d l =
    record {
      known = AllPass-from_list_all (λ x. selector_known raw x.selector) pipeline.action_profiles (in_pipeline raw pipeline known).profiles i d l;
      kept = each_fails (λ profile. selector_left_out profile.selector) pipeline.action_profiles (selectors_kept pipeline kept) i d l;
    }

profiles_kept : (raw : RawProgram) (info : Info) → Kept raw info → All (ProfileKept raw) (profiles raw)
profiles_kept raw info k =
    All-append (ProfileKept raw) raw.pipelines.ingress.action_profiles raw.pipelines.egress.action_profiles
    (profiles_of raw raw.pipelines.ingress k.rules.known.ingress k.forms.ingress) (profiles_of raw raw.pipelines.egress k.rules.known.egress k.forms.egress)

tables_in : (raw : RawProgram) (info : Info) → Kept raw info → (side : Side) → IsSide (program_of raw info) side → pipeline_known raw side.pipeline ≡ true
    → list_any (λ table. nat_lt 16 (length table.key)) side.pipeline.tables ≡ false → All (IsTable (program_of raw info)) (map (table_of raw info side) side.pipeline.tables)
tables_in raw info k side s known narrow =
    All-map (IsTable (program_of raw info)) (table_of raw info side) side.pipeline.tables
    (λ i d l. table_linked raw info (has_types raw info k) (profiles_kept raw info k) side s (slice_index_or side.pipeline.tables i d)
    (record {
      known = AllPass-from_list_all (table_known raw) side.pipeline.tables (in_pipeline raw side.pipeline known).tables i d l;
      limit = each_fails (λ table. nat_lt 16 (length table.key)) side.pipeline.tables narrow i d l;
    }))

conditionals_in : (raw : RawProgram) (info : Info) → Kept raw info → (side : Side) → IsSide (program_of raw info) side → pipeline_known raw side.pipeline ≡ true
    → list_all (λ x. is_condition x.expression) side.pipeline.conditionals ≡ true → IsSoundPipeline side.pipeline → All (IsConditional (program_of raw info)) (map (conditional_of raw side) side.pipeline.conditionals)
conditionals_in raw info k side s known typed sound =
    All-map (IsConditional (program_of raw info)) (conditional_of raw side) side.pipeline.conditionals
    (λ i d l. conditional_linked raw info (has_types raw info k) side s (slice_index_or side.pipeline.conditionals i d)
    (record {
      known = AllPass-from_list_all (λ x. is_known raw 0 x.expression) side.pipeline.conditionals (in_pipeline raw side.pipeline known).conditionals i d l;
      typed = AllPass-from_list_all (λ x. is_condition x.expression) side.pipeline.conditionals typed i d l;
      sound = sound i d l;
    }))

-- ---- the law

kept_valid : (raw : RawProgram) (info : Info) → Kept raw info → IsValid (program_of raw info)
kept_valid raw info k =
    let types = has_types raw info k in
    record {
      headers_limit = omega (arith, headers_length raw 0 0 raw.headers, ltb-false 128 (length raw.headers) k.limits.headers);
      fields_limit = fields_limit raw 1024 k.limits.fields;
      headers = all_stand raw types k.forms.headers;
      standard_metadata = is_standard raw info k;
      parser = is_parser raw info k;
      deparser = deparser_linked raw info k;
      calculations = calculations_linked raw info k;
      checksums = checksums_linked raw info k;
      learn_lists = lists_linked raw info k;
      actions_limit = omega (arith, length-map raw.actions (action_of raw info), ltb-false 512 (length raw.actions) k.limits.actions);
      actions = actions_linked raw info k;
      tables_limit = omega (arith, tables_count raw info, ltb-false 128 (length raw.pipelines.ingress.tables + length raw.pipelines.egress.tables) k.limits.tables);
      tables = All-append (IsTable (program_of raw info)) (map (table_of raw info (ingress raw)) raw.pipelines.ingress.tables) (map (table_of raw info (egress raw)) raw.pipelines.egress.tables)
          (tables_in raw info k (ingress raw) (ingress_side raw info) k.rules.known.ingress k.limits.ingress_keys) (tables_in raw info k (egress raw) (egress_side raw info) k.rules.known.egress k.limits.egress_keys);
      conditionals = All-append (IsConditional (program_of raw info)) (map (conditional_of raw (ingress raw)) raw.pipelines.ingress.conditionals) (map (conditional_of raw (egress raw)) raw.pipelines.egress.conditionals)
          (conditionals_in raw info k (ingress raw) (ingress_side raw info) k.rules.known.ingress k.rules.ingress_typed k.sound.ingress)
          (conditionals_in raw info k (egress raw) (egress_side raw info) k.rules.known.egress k.rules.egress_typed k.sound.egress);
      ingress = node_linked (program_of raw info) (ingress raw) (ingress_side raw info) raw.pipelines.ingress.init_table;
      egress = node_linked (program_of raw info) (egress raw) (egress_side raw info) raw.pipelines.egress.init_table;
      no_loop = nodes_have_no_loop raw info k.rules.ingress_loop k.rules.egress_loop;
    }

-- a program that breaks none of the rules is valid
pub is_valid : ProgramsAreValid
is_valid raw info sound json_rules info_rules =
    let forms = breaks_no_form raw json_rules in
    kept_valid raw info (record { sound = sound; forms = forms.0; limits = forms.1; rules = breaks_no_rule raw info info_rules })
