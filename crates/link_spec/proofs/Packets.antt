-- The parser's states, calculations, checksums and learn lists name what there is.
use Rattle.std.proofs.Common.{◌≡◌, ℕ, ◌<◌, ◌≤◌, nat_lt, Bool, true, false, cond, ◌||◌, List, [], ◌∷◌, length, map, Option, Some, None, is_some, refl, sym, ap, subst}
use Rattle.std.specs.Prelude.{All, IfSome, option_map, option_and_then, slice_index_or, sum_by}
use Rattle.std.specs.List.{list_any, list_all}
use Rattle.std.specs.Set.{is_member}
use Rattle.std.specs.Str.{bytes_eq}
use Rattle.std.proofs.lemmas.Bool.{and_parts, or_parts, ltb-false}
use Rattle.std.proofs.lemmas.List.{length-map}
use Rattle.std.proofs.lemmas.List.Elements.{All-map}
use Rattle.std.proofs.lemmas.List.Sums.{AllPass-from_list_all, sum_by-cons}
use Rattle.std.proofs.lemmas.Slice.Eq.{bytes_eq-Decides}
use Rattle.p4_types.specs.declared.info.Info.{Info}
use Rattle.bm_expr.specs.Fits.{NumberFits}
use Rattle.bm_expr.specs.declared.store.FieldPlace.{FieldPlace}
use Rattle.bm_expr.specs.Trees as to
use Rattle.bm_pipeline.specs.declared.headers.FieldRef.TheVariants as refs
use Rattle.bm_pipeline.specs.Places.{counts, key_bytes, width_of}
use Rattle.bm_pipeline.specs.Places as places
use Rattle.bm_pipeline.specs.Validity.{IsRead, IsParserOp, IsTruth, IsInput, IsChecksum, IsLearnList}
use Rattle.bm_values.specs.Trees.{Tree}
use Rattle.bm_values.specs.declared.raw.Part.{Part}
use Rattle.bm_values.specs.declared.raw.Part.TheVariants as parts
use Rattle.bm_values.specs.declared.raw.FieldName.{FieldName}
use Rattle.bm_records.specs.declared.raw.ParserOp.{ParserOp}
use Rattle.bm_records.specs.declared.raw.ParserOp.TheVariants as raw_ops
use Rattle.bm_records.specs.declared.raw.Transition.{Transition}
use Rattle.bm_records.specs.declared.raw.CalculationInput.{CalculationInput}
use Rattle.bm_records.specs.declared.raw.CalculationInput.TheVariants as raw_inputs
use Rattle.bm_records.specs.declared.raw.Checksum.{Checksum}
use Rattle.bm_records.specs.declared.raw.LearnList.{LearnList}
use Rattle.bm_records.specs.declared.raw.RawProgram.{RawProgram}
use Rattle.bm_json.specs.LeftOut.{is_left_out, expression_left_out, parser_op_left_out, input_left_out, learn_list_left_out, extracts_ragged}
use Rattle.bm_json.specs.Sound.{IsSoundTree, IsSoundParserOp, IsSoundInput}
use Rattle.bm_rules.specs.Names.{named}
use Rattle.bm_rules.specs.Fields.{has_header, is_readable, is_writable, is_validity, is_part, field_named, part_bytes, exceeds}
use Rattle.bm_rules.specs.References.{is_known, parser_op_known, condition_known, checksum_known, input_known}
use Rattle.bm_rules.specs.Operations.{parser_op_unknown, parser_op_typed, condition_typed}
use Rattle.link_spec.specs.Fields.{at, header_at, field_at, part_ref}
use Rattle.link_spec.specs.Expressions.{truth_of}
use Rattle.link_spec.specs.Objects.{parser_op_of, state_at, state_of, transition_of, input_of, calculation_of, checksum_of, learn_list_of}
use Rattle.link_spec.specs.Linked.{program_of}
use Rattle.link_spec.proofs.Found.{each_fails, position_within, unwrapped_within, any_found}
use Rattle.link_spec.proofs.Headers.{HasTypes, same_sum, at_most, is_width}
use Rattle.link_spec.proofs.Fields.{header_exists, header_in_packets, field_fits, writable, readable, part_readable, target_written}
use Rattle.link_spec.proofs.Expressions.{Reads, value_linked, condition_linked}

reads_by : (raw : RawProgram) (info : Info) (args : ℕ) → HasTypes raw → (name : FieldName) (validity : Bool) → cond validity (has_header raw name.header) (is_some (field_named raw name)) ≡ true
    → NumberFits (counts (program_of raw info) args) (cond validity (to.OfTruth (to.IsValid (header_at raw name.header))) (to.Field (field_at raw name)))
reads_by raw info args types name true known = header_exists raw info name.header known
reads_by raw info args types name false known = field_fits raw info args types name.header name.field known

-- what expressions read is among the fields and headers of the program
pub reads : (raw : RawProgram) (info : Info) → HasTypes raw → (args : ℕ) → Reads raw (counts (program_of raw info) args) args
reads raw info types args = record { fields = λ name known. reads_by raw info args types name (is_validity name) known; headers = header_exists raw info; args_data = refl }

-- a list of parts that are served and may be read
pub all_readable : (raw : RawProgram) (info : Info) → HasTypes raw → (names : List (Part FieldName)) → list_all (is_part (is_readable raw)) names ≡ true → list_any is_left_out names ≡ false
    → All (IsRead (program_of raw info)) (map (part_ref raw) names)
all_readable raw info types names known kept =
    All-map (IsRead (program_of raw info)) (part_ref raw) names
    (λ k d l. part_readable raw info types (slice_index_or names k d) (AllPass-from_list_all (is_part (is_readable raw)) names known k d l) (each_fails is_left_out names kept k d l))

-- ---- states of the parser

-- what is asked of an operation of the parser
pub record OpKept (raw : RawProgram) (op : ParserOp) : Type 0 where
  pub known : parser_op_known raw op ≡ true
  pub typed : parser_op_typed op ≡ true
  pub kept : parser_op_left_out op ≡ false
  pub served : parser_op_unknown op ≡ false
  pub sound : IsSoundParserOp op
  pub whole : extracts_ragged raw.header_types raw.headers op ≡ false

op_linked : (raw : RawProgram) (info : Info) → HasTypes raw → (op : ParserOp) → OpKept raw op → IsParserOp (program_of raw info) (parser_op_of raw op)
op_linked raw info types (raw_ops.Extract (parts.Served name)) op = header_in_packets raw info name op.known op.whole
op_linked raw info types (raw_ops.Extract parts.LeftOut) op = let no : true ≡ false = op.kept in absurd cc
op_linked raw info types (raw_ops.Set target value) op =
    let known = and_parts (is_part (is_writable raw) target) (is_known raw 0 value) op.known in
    let kept = or_parts (is_left_out target) (expression_left_out value) op.kept in
    (target_written raw info types target known.0 kept.0, value_linked raw (program_of raw info) 0 (reads raw info types 0) value op.typed known.1 op.sound)
op_linked raw info types raw_ops.LeftOut op = let no : true ≡ false = op.kept in absurd cc
op_linked raw info types (raw_ops.Unknown name) op = let no : true ≡ false = op.served in absurd cc

-- operations are linked to what names what there is
pub ops_linked : (raw : RawProgram) (info : Info) → HasTypes raw → (ops : List ParserOp) → All (OpKept raw) ops → All (IsParserOp (program_of raw info)) (map (parser_op_of raw) ops)
ops_linked raw info types ops each = All-map (IsParserOp (program_of raw info)) (parser_op_of raw) ops (λ k d l. op_linked raw info types (slice_index_or ops k d) (each k d l))

ref_width : (validity : Bool) (header : ℕ) (place : FieldPlace) → width_of (cond validity (refs.Valid header) (refs.Field place)) ≡ cond validity 1 place.width
ref_width true header place = refl
ref_width false header place = refl

same_bytes : (raw : RawProgram) (name : Part FieldName) → is_left_out name ≡ false → part_bytes raw name ≡ places.whole_bytes (width_of (part_ref raw name))
same_bytes raw (parts.Served name) kept = ap places.whole_bytes (sym (ref_width (is_validity name) (header_at raw name.header) (field_at raw name)))
same_bytes raw parts.LeftOut kept = absurd cc

bytes_together : (raw : RawProgram) (names : List (Part FieldName)) → list_any is_left_out names ≡ false → sum_by (part_bytes raw) names ≡ key_bytes (map (part_ref raw) names)
bytes_together raw [] kept = refl
bytes_together raw (name ∷ names) kept =
    let k = or_parts (is_left_out name) (list_any is_left_out names) kept in
    same_sum (part_bytes raw name) (places.whole_bytes (width_of (part_ref raw name))) (sum_by (part_bytes raw) names) (key_bytes (map (part_ref raw) names)) _ _
    (same_bytes raw name k.0) (bytes_together raw names k.1)
    (sum_by-cons (part_bytes raw) name names) (sum_by-cons (λ field. places.whole_bytes (width_of field)) (part_ref raw name) (map (part_ref raw) names))

-- a key that is not too wide takes no more bytes than there is room for
pub key_fits : (raw : RawProgram) (room : ℕ) (names : List (Part FieldName)) → list_any is_left_out names ≡ false → exceeds room raw names ≡ false → key_bytes (map (part_ref raw) names) ≤ room
key_fits raw room names kept fits = at_most room (sum_by (part_bytes raw) names) (key_bytes (map (part_ref raw) names)) fits (bytes_together raw names kept)

next_within : (raw : RawProgram) (name : Option (List ℕ)) → IfSome (option_and_then (state_at raw) name) (λ next. next < length (map (state_of raw) raw.parser.parse_states))
next_within raw None = tt
next_within raw (Some name) = position_within (λ state. bytes_eq state.name name) raw.parser.parse_states (length (map (state_of raw) raw.parser.parse_states)) (sym (length-map raw.parser.parse_states (state_of raw)))

-- transitions lead to states
pub transitions_linked : (raw : RawProgram) (transitions : List Transition)
    → All (λ transition. IfSome transition.next_state (λ next. next < length (map (state_of raw) raw.parser.parse_states))) (map (transition_of raw) transitions)
transitions_linked raw transitions =
    All-map (λ transition. IfSome transition.next_state (λ next. next < length (map (state_of raw) raw.parser.parse_states))) (transition_of raw) transitions
    (λ k d l. next_within raw (slice_index_or transitions k d).next_state)

-- ---- calculations and checksums

input_linked : (raw : RawProgram) (info : Info) → HasTypes raw → (input : CalculationInput) → input_known raw input ≡ true → input_left_out input ≡ false → IsSoundInput input → IsInput (program_of raw info) (input_of raw input)
input_linked raw info types (raw_inputs.Field name) known kept sound = readable raw info types name known
input_linked raw info types (raw_inputs.Literal value width) known kept sound = is_width width sound (or_parts (is_left_out value) (is_left_out width) kept).1
input_linked raw info types raw_inputs.LeftOut known kept sound = absurd cc

-- inputs of a calculation are there
pub inputs_linked : (raw : RawProgram) (info : Info) → HasTypes raw → (inputs : List CalculationInput) → list_all (input_known raw) inputs ≡ true → list_any input_left_out inputs ≡ false → All IsSoundInput inputs
    → All (IsInput (program_of raw info)) (map (input_of raw) inputs)
inputs_linked raw info types inputs known kept sound =
    All-map (IsInput (program_of raw info)) (input_of raw) inputs
    (λ k d l. input_linked raw info types (slice_index_or inputs k d) (AllPass-from_list_all (input_known raw) inputs known k d l) (each_fails input_left_out inputs kept k d l) (sound k d l))

bytes_turned : (xs ys : List ℕ) → bytes_eq xs ys ≡ true → bytes_eq ys xs ≡ true
bytes_turned xs ys e = (bytes_eq-Decides ys xs).1 (sym ((bytes_eq-Decides xs ys).0 e))

-- a name that is one of the names of some objects is found among them
pub member_found : {X : Type 0} (name_of : X → List ℕ) (name : List ℕ) (xs : List X) → is_member bytes_eq (map name_of xs) name ≡ true → is_some (named name_of name xs) ≡ true
member_found name_of name xs member = any_found (λ x. bytes_eq (name_of x) name) xs (turned name_of name xs member)
  where
    turned_step : (a b c d : Bool) → (a ≡ true → c ≡ true) → (b ≡ true → d ≡ true) → (a || b) ≡ true → (c || d) ≡ true
    turned_step true b true d f g h = refl
    turned_step true b false d f g h = absurd (let no : false ≡ true = f refl in let c : ⊥ = cc in c)
    turned_step false b true d f g h = refl
    turned_step false b false d f g h = g h

    turned : {X : Type 0} (name_of : X → List ℕ) (name : List ℕ) (xs : List X) → is_member bytes_eq (map name_of xs) name ≡ true → list_any (λ x. bytes_eq (name_of x) name) xs ≡ true
    turned name_of name [] member = member
    turned name_of name (x ∷ xs) member =
        turned_step (bytes_eq name (name_of x)) (is_member bytes_eq (map name_of xs) name) (bytes_eq (name_of x) name) (list_any (λ x. bytes_eq (name_of x) name) xs)
        (bytes_turned name (name_of x)) (turned name_of name xs) member

-- what is asked of a checksum
pub record ChecksumKept (raw : RawProgram) (checksum : Checksum) : Type 0 where
  pub known : checksum_known raw checksum ≡ true
  pub calculation : is_some (named (λ x. x.name) checksum.calculation raw.calculations) ≡ true
  pub typed : condition_typed checksum.if_cond ≡ true
  pub sound : IfSome checksum.if_cond IsSoundTree

condition_there : (raw : RawProgram) (info : Info) → HasTypes raw → (condition : Option Tree) → condition_known raw condition ≡ true → condition_typed condition ≡ true → IfSome condition IsSoundTree
    → IfSome (option_map (truth_of raw) condition) (IsTruth (program_of raw info))
condition_there raw info types None known typed sound = tt
condition_there raw info types (Some condition) known typed sound = condition_linked raw (program_of raw info) (reads raw info types 0) condition typed known sound

-- a checksum is linked to what there is
pub checksum_linked : (raw : RawProgram) (info : Info) → HasTypes raw → (checksum : Checksum) → ChecksumKept raw checksum → IsChecksum (program_of raw info) (checksum_of raw checksum)
checksum_linked raw info types checksum c =
    let known = and_parts (is_writable raw checksum.target) (condition_known raw checksum.if_cond) c.known in
    record {
      target = writable raw info types checksum.target known.0;
      calculation = subst (λ n. at (λ calculation. calculation.name) checksum.calculation raw.calculations < n) (sym (length-map raw.calculations (calculation_of raw)))
          (unwrapped_within (λ calculation. bytes_eq calculation.name checksum.calculation) raw.calculations c.calculation);
      if_cond = condition_there raw info types checksum.if_cond known.1 c.typed c.sound;
    }

-- ---- learn lists

-- a learn list names what there is
pub list_linked : (raw : RawProgram) (info : Info) → HasTypes raw → (list : LearnList) → list_all (is_part (is_readable raw)) list.elements ≡ true → learn_list_left_out list ≡ false
    → nat_lt 128 (length list.elements) ≡ false → IsLearnList (program_of raw info) (learn_list_of raw info list)
list_linked raw info types list known kept limit =
    record {
      limit = subst (λ n. n ≤ 128) (sym (length-map list.elements (part_ref raw))) (ltb-false 128 (length list.elements) limit);
      elements = all_readable raw info types list.elements known kept;
    }
