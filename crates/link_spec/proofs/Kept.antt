-- What a program's raw records keep that break none of the rules, part by part.
use Rattle.std.proofs.Common.{◌≡◌, ℕ, ◌+◌, nat_lt, Bool, true, false, not, ◌&&◌, ◌||◌, if◌then◌else◌, length, map, Option, Some, None, is_some, refl}
use Rattle.std.specs.List.{list_any, list_all}
use Rattle.std.proofs.lemmas.Bool.{and_parts, or_parts, not-true}
use Rattle.p4_types.specs.declared.info.Info.{Info}
use Rattle.bm_records.specs.declared.raw.Pipeline.{Pipeline}
use Rattle.bm_records.specs.declared.raw.RawProgram.{RawProgram}
use Rattle.bm_json.specs.LeftOut.{type_left_out, is_ragged, names_ragged, extracts_ragged, calculation_left_out, checksum_left_out, learn_list_left_out, action_left_out, state_left_out, table_left_out, selector_left_out, expression_left_out, pipeline_left_out, headers_left_out, packets_left_out, objects_left_out, steps_left_out, has_left_out}
use Rattle.bm_json.specs.Limits as limits
use Rattle.bm_json.specs.Program as json
use Rattle.bm_rules.specs.Names.{named, name_nothing}
use Rattle.bm_rules.specs.Fields.{has_header, is_readable, is_part, exceeds}
use Rattle.bm_rules.specs.Graphs.{has_loop, state_edges, node_edges}
use Rattle.bm_rules.specs.References.{node_names, nexts, list_names_nothing, headers_known, packets_known, action_known, table_known, selector_known, is_known, pipeline_known, references_known, state_known, input_known, checksum_known}
use Rattle.bm_rules.specs.Operations.{parser_op_unknown, parser_op_typed, condition_typed, primitive_typed, operations_unknown, expressions_typed}
use Rattle.bm_rules.specs.Kinds.{is_condition}
use Rattle.bm_rules.specs.Agreement.{tables_agree, references_agree, profiles_agree, counters_agree, digests_agree, has_egress_spec}
use Rattle.link_spec.proofs.Tests.{three_hold, four_hold, five_hold, three_fail, four_fail, five_fail}
use Rattle.bm_rules.specs.Flaw.{names_clash, keys_exceed, nodes_loop, later_flaw, flaw}

-- ---- chains of tests

passed : (b : Bool) (n : ℕ) (rest : Option ℕ) → (if b then Some n else rest) ≡ None → (b ≡ false) × (rest ≡ None)
passed true n rest h = absurd cc
passed false n rest h = (refl, h)

passed_not : (b : Bool) (n : ℕ) (rest : Option ℕ) → (if not b then Some n else rest) ≡ None → (b ≡ true) × (rest ≡ None)
passed_not true n rest h = (refl, h)
passed_not false n rest h = absurd cc

-- ---- forms that are left out, and limits

-- nothing is left out
pub record LeavesNothing (raw : RawProgram) : Type 0 where
  pub types : list_any type_left_out raw.header_types ≡ false
  pub headers : list_any (is_ragged raw.header_types) raw.headers ≡ false
  pub written : list_any (names_ragged raw.header_types raw.headers) raw.deparser.order ≡ false
  pub extracted : list_any (λ state. list_any (extracts_ragged raw.header_types raw.headers) state.parser_ops) raw.parser.parse_states ≡ false
  pub calculations : list_any calculation_left_out raw.calculations ≡ false
  pub learn_lists : list_any learn_list_left_out raw.learn_lists ≡ false
  pub actions : list_any action_left_out raw.actions ≡ false
  pub states : list_any state_left_out raw.parser.parse_states ≡ false
  pub ingress : pipeline_left_out raw.pipelines.ingress ≡ false
  pub egress : pipeline_left_out raw.pipelines.egress ≡ false

leaves : (raw : RawProgram) → has_left_out raw ≡ false → LeavesNothing raw
unfolding has_left_out
leaves raw h =
    let all = four_fail (headers_left_out raw) (packets_left_out raw) (objects_left_out raw) (steps_left_out raw) h in
    let headers = three_fail raw.lists_left_out (list_any type_left_out raw.header_types) (list_any (is_ragged raw.header_types) raw.headers) all.0 in
    let packets = or_parts (list_any (names_ragged raw.header_types raw.headers) raw.deparser.order) (list_any (λ state. list_any (extracts_ragged raw.header_types raw.headers) state.parser_ops) raw.parser.parse_states) all.1 in
    let objects = four_fail (list_any calculation_left_out raw.calculations) (list_any checksum_left_out raw.checksums) (list_any learn_list_left_out raw.learn_lists) (list_any action_left_out raw.actions) all.2 in
    let steps = three_fail (list_any state_left_out raw.parser.parse_states) (pipeline_left_out raw.pipelines.ingress) (pipeline_left_out raw.pipelines.egress) all.3 in
    record {
      types = headers.1;
      headers = headers.2;
      written = packets.0;
      extracted = packets.1;
      calculations = objects.0;
      learn_lists = objects.2;
      actions = objects.3;
      states = steps.0;
      ingress = steps.1;
      egress = steps.2;
    }

-- the selectors of a pipeline are not left out
pub selectors_kept : (pipeline : Pipeline) → pipeline_left_out pipeline ≡ false → list_any (λ profile. selector_left_out profile.selector) pipeline.action_profiles ≡ false
selectors_kept pipeline h =
    (three_fail (list_any table_left_out pipeline.tables) (list_any (λ profile. selector_left_out profile.selector) pipeline.action_profiles)
    (list_any (λ conditional. expression_left_out conditional.expression) pipeline.conditionals) h).1

-- the limits are kept
pub record KeepsLimits (raw : RawProgram) : Type 0 where
  pub headers : nat_lt 128 (length raw.headers) ≡ false
  pub fields : limits.has_more_fields 1024 raw.header_types raw.headers ≡ false
  pub tables : nat_lt 128 (length raw.pipelines.ingress.tables + length raw.pipelines.egress.tables) ≡ false
  pub ingress_keys : list_any (λ table. nat_lt 16 (length table.key)) raw.pipelines.ingress.tables ≡ false
  pub egress_keys : list_any (λ table. nat_lt 16 (length table.key)) raw.pipelines.egress.tables ≡ false
  pub elements : list_any (λ list. nat_lt 128 (length list.elements)) raw.learn_lists ≡ false
  pub actions : nat_lt 512 (length raw.actions) ≡ false
  pub in_actions : list_any limits.action_exceeds raw.actions ≡ false
  pub states : nat_lt 256 (length raw.parser.parse_states) ≡ false

keeps : (raw : RawProgram) → limits.exceeds raw ≡ false → KeepsLimits raw
unfolding limits.exceeds
keeps raw h =
    let all = five_fail (limits.headers_exceed raw) (limits.counters_exceed raw.counter_arrays) (limits.pipelines_exceed raw.pipelines) (limits.learn_lists_exceed raw.learn_lists) (limits.objects_exceed raw) h in
    let headers = or_parts (nat_lt 128 (length raw.headers)) (limits.has_more_fields 1024 raw.header_types raw.headers) all.0 in
    let pipelines = four_fail (nat_lt 128 (length raw.pipelines.ingress.tables + length raw.pipelines.egress.tables)) (nat_lt 128 (length raw.pipelines.ingress.action_profiles + length raw.pipelines.egress.action_profiles))
    (list_any (λ table. nat_lt 16 (length table.key)) raw.pipelines.ingress.tables) (list_any (λ table. nat_lt 16 (length table.key)) raw.pipelines.egress.tables) all.2 in
    let lists = or_parts (nat_lt 128 (length raw.learn_lists)) (list_any (λ list. nat_lt 128 (length list.elements)) raw.learn_lists) all.3 in
    let objects = three_fail (nat_lt 512 (length raw.actions)) (list_any limits.action_exceeds raw.actions) (nat_lt 256 (length raw.parser.parse_states)) all.4 in
    record {
      headers = headers.0;
      fields = headers.1;
      tables = pipelines.0;
      ingress_keys = pipelines.2;
      egress_keys = pipelines.3;
      elements = lists.1;
      actions = objects.0;
      in_actions = objects.1;
      states = objects.2;
    }

-- neither L2 nor L3 is broken
pub breaks_no_form : (raw : RawProgram) → json.flaw_of raw ≡ None → LeavesNothing raw × KeepsLimits raw
breaks_no_form raw h =
    let one = passed (has_left_out raw) 2 (if limits.exceeds raw then Some 3 else None) h in
    let other = passed (limits.exceeds raw) 3 None one.1 in
    (leaves raw one.0, keeps raw other.0)

-- ---- references

-- each name stands for what there is
pub record IsKnown (raw : RawProgram) : Type 0 where
  pub written : list_all (has_header raw) raw.deparser.order ≡ true
  pub init_state : is_some (named (λ x. x.name) raw.parser.init_state raw.parser.parse_states) ≡ true
  pub states : list_all (state_known raw) raw.parser.parse_states ≡ true
  pub calculations : list_all (λ x. list_all (input_known raw) x.input) raw.calculations ≡ true
  pub checksums : list_all (checksum_known raw) raw.checksums ≡ true
  pub learn_lists : list_all (λ x. list_all (is_part (is_readable raw)) x.elements) raw.learn_lists ≡ true
  pub actions : list_all (action_known raw) raw.actions ≡ true
  pub ingress : pipeline_known raw raw.pipelines.ingress ≡ true
  pub egress : pipeline_known raw raw.pipelines.egress ≡ true
  pub named_calculations : name_nothing (map (λ x. x.name) raw.calculations) (map (λ x. x.calculation) raw.checksums) ≡ false

known : (raw : RawProgram) → references_known raw ≡ true → IsKnown raw
known raw h =
    let last = and_parts (headers_known raw && packets_known raw && list_all (action_known raw) raw.actions && pipeline_known raw raw.pipelines.ingress && pipeline_known raw raw.pipelines.egress) (not (list_names_nothing raw)) h in
    let all = five_hold (headers_known raw) (packets_known raw) (list_all (action_known raw) raw.actions) (pipeline_known raw raw.pipelines.ingress) (pipeline_known raw raw.pipelines.egress) last.0 in
    let headers = three_hold (list_all (λ header. is_some (named (λ x. x.name) header.header_type raw.header_types)) raw.headers) (list_all (has_header raw) raw.deparser.order)
    (is_some (named (λ x. x.name) raw.parser.init_state raw.parser.parse_states)) all.0 in
    let packets = four_hold (list_all (state_known raw) raw.parser.parse_states) (list_all (λ x. list_all (input_known raw) x.input) raw.calculations) (list_all (checksum_known raw) raw.checksums)
    (list_all (λ x. list_all (is_part (is_readable raw)) x.elements) raw.learn_lists) all.1 in
    let nothing = three_fail (name_nothing (map (λ x. x.name) raw.calculations) (map (λ x. x.calculation) raw.checksums)) (name_nothing (node_names raw.pipelines.ingress) (nexts raw.pipelines.ingress))
    (name_nothing (node_names raw.pipelines.egress) (nexts raw.pipelines.egress)) (not-true (list_names_nothing raw) last.1) in
    record {
      written = headers.1;
      init_state = headers.2;
      states = packets.0;
      calculations = packets.1;
      checksums = packets.2;
      learn_lists = packets.3;
      actions = all.2;
      ingress = all.3;
      egress = all.4;
      named_calculations = nothing.0;
    }

-- the same of a pipeline
pub record PipelineKnown (raw : RawProgram) (pipeline : Pipeline) : Type 0 where
  pub tables : list_all (table_known raw) pipeline.tables ≡ true
  pub profiles : list_all (λ x. selector_known raw x.selector) pipeline.action_profiles ≡ true
  pub conditionals : list_all (λ x. is_known raw 0 x.expression) pipeline.conditionals ≡ true

pub in_pipeline : (raw : RawProgram) (pipeline : Pipeline) → pipeline_known raw pipeline ≡ true → PipelineKnown raw pipeline
in_pipeline raw pipeline h =
    let all = three_hold (list_all (table_known raw) pipeline.tables) (list_all (λ x. selector_known raw x.selector) pipeline.action_profiles) (list_all (λ x. is_known raw 0 x.expression) pipeline.conditionals) h in
    record { tables = all.0; profiles = all.1; conditionals = all.2 }

-- ---- the other rules

-- keys are not too wide, there is no loop, operations are known, expressions are typed, and `egress_spec` has 9 bits
pub record KeepsRules (raw : RawProgram) : Type 0 where
  pub known : IsKnown raw
  pub keys : list_any (λ state. exceeds 16 raw state.transition_key) raw.parser.parse_states ≡ false
  pub states_loop : has_loop (state_edges raw.parser.parse_states) ≡ false
  pub ingress_loop : has_loop (node_edges raw.pipelines.ingress) ≡ false
  pub egress_loop : has_loop (node_edges raw.pipelines.egress) ≡ false
  pub ops_served : list_any (λ state. list_any parser_op_unknown state.parser_ops) raw.parser.parse_states ≡ false
  pub ops_typed : list_all (λ state. list_all parser_op_typed state.parser_ops) raw.parser.parse_states ≡ true
  pub checksums_typed : list_all (λ x. condition_typed x.if_cond) raw.checksums ≡ true
  pub actions_typed : list_all (λ action. list_all primitive_typed action.primitives) raw.actions ≡ true
  pub ingress_typed : list_all (λ x. is_condition x.expression) raw.pipelines.ingress.conditionals ≡ true
  pub egress_typed : list_all (λ x. is_condition x.expression) raw.pipelines.egress.conditionals ≡ true
  pub egress_spec : has_egress_spec raw ≡ true

first_of_six : (a b c d e f : Bool) → (a || b || c || d || e || f) ≡ false → a ≡ false
first_of_six a b c d e f h = (five_fail a b c d e (or_parts (a || b || c || d || e) f h).0).0

-- no rule from L4 to L15 is broken
pub breaks_no_rule : (raw : RawProgram) (info : Info) → flaw raw info ≡ None → KeepsRules raw
unfolding flaw keys_exceed nodes_loop
breaks_no_rule raw info h =
    let r7 : Option ℕ = if nodes_loop raw.pipelines then Some 7 else later_flaw raw info in
    let r6 : Option ℕ = if has_loop (state_edges raw.parser.parse_states) then Some 6 else r7 in
    let r1 : Option ℕ = if keys_exceed raw then Some 1 else r6 in
    let r5 : Option ℕ = if not (references_known raw) then Some 5 else r1 in
    let s4 = passed (names_clash raw) 4 r5 h in
    let s5 = passed_not (references_known raw) 5 r1 s4.1 in
    let s1 = passed (keys_exceed raw) 1 r6 s5.1 in
    let s6 = passed (has_loop (state_edges raw.parser.parse_states)) 6 r7 s1.1 in
    let s7 = passed (nodes_loop raw.pipelines) 7 (later_flaw raw info) s6.1 in
    let r15 : Option ℕ = if not (has_egress_spec raw) then Some 15 else None in
    let r14 : Option ℕ = if not (digests_agree raw info) then Some 14 else r15 in
    let r13 : Option ℕ = if not (counters_agree raw info) then Some 13 else r14 in
    let r12 : Option ℕ = if not (profiles_agree raw info) then Some 12 else r13 in
    let r11 : Option ℕ = if not (references_agree raw info) then Some 11 else r12 in
    let r10 : Option ℕ = if not (tables_agree raw info) then Some 10 else r11 in
    let r9 : Option ℕ = if not (expressions_typed raw) then Some 9 else r10 in
    let s8 = passed (operations_unknown raw) 8 r9 s7.1 in
    let s9 = passed_not (expressions_typed raw) 9 r10 s8.1 in
    let s10 = passed_not (tables_agree raw info) 10 r11 s9.1 in
    let s11 = passed_not (references_agree raw info) 11 r12 s10.1 in
    let s12 = passed_not (profiles_agree raw info) 12 r13 s11.1 in
    let s13 = passed_not (counters_agree raw info) 13 r14 s12.1 in
    let s14 = passed_not (digests_agree raw info) 14 r15 s13.1 in
    let s15 = passed_not (has_egress_spec raw) 15 None s14.1 in
    let loops = or_parts (has_loop (node_edges raw.pipelines.ingress)) (has_loop (node_edges raw.pipelines.egress)) s7.0 in
    let typed = five_hold (list_all (λ state. list_all parser_op_typed state.parser_ops) raw.parser.parse_states) (list_all (λ x. condition_typed x.if_cond) raw.checksums)
    (list_all (λ action. list_all primitive_typed action.primitives) raw.actions) (list_all (λ x. is_condition x.expression) raw.pipelines.ingress.conditionals)
    (list_all (λ x. is_condition x.expression) raw.pipelines.egress.conditionals) s9.0 in
    record {
      known = known raw s5.0;
      keys = s1.0;
      states_loop = s6.0;
      ingress_loop = loops.0;
      egress_loop = loops.1;
      ops_served = first_of_six _ _ _ _ _ _ s8.0;
      ops_typed = typed.0;
      checksums_typed = typed.1;
      actions_typed = typed.2;
      ingress_typed = typed.3;
      egress_typed = typed.4;
      egress_spec = s15.0;
    }
