-- Actions and their primitives name what there is.
use Rattle.std.proofs.Common.{◌≡◌, ◌⊎◌, inl, inr, ℕ, ◌<◌, nat_lt, true, false, List, length, map, Option, Some, None, is_some, refl, sym, ap, ◌∙◌, subst, arith}
use Rattle.std.specs.Prelude.{All, slice_index_or, ◌==◌}
use Rattle.std.specs.List.{list_any, list_all}
use Rattle.std.specs.Str.{bytes_eq}
use Rattle.std.proofs.lemmas.Bool.{and_parts, or_parts, ltb-false, cases_order}
use Rattle.std.proofs.lemmas.List.{length-map}
use Rattle.std.proofs.lemmas.List.Elements.{All-map}
use Rattle.std.proofs.lemmas.Slice.Eq.{bytes_eq-Decides}
use Rattle.std.proofs.lemmas.List.Sums.{AllPass-from_list_all}
use Rattle.p4_types.specs.declared.info.Info.{Info}
use Rattle.bm_expr.specs.Store.{AreApart}
use Rattle.bm_pipeline.specs.Validity.{IsWidth, AreOfOneType, IsPrimitive, IsAction}
use Rattle.bm_values.specs.declared.raw.Part.TheVariants as parts
use Rattle.bm_values.specs.Literals.{width_bits}
use Rattle.bm_records.specs.declared.raw.Header.{Header}
use Rattle.bm_records.specs.declared.raw.LearnListName.{LearnListName}
use Rattle.bm_records.specs.declared.raw.LearnListName.TheVariants as lists
use Rattle.bm_records.specs.declared.raw.Primitive.{Primitive}
use Rattle.bm_records.specs.declared.raw.Primitive.TheVariants as raws
use Rattle.bm_records.specs.declared.raw.Action.{Action}
use Rattle.bm_records.specs.declared.raw.RawProgram.{RawProgram}
use Rattle.bm_json.specs.LeftOut.{is_left_out, expression_left_out, name_left_out, primitive_left_out, action_left_out}
use Rattle.bm_json.specs.Limits.{action_exceeds}
use Rattle.bm_json.specs.Sound.{IsSoundPrimitive, IsSoundAction}
use Rattle.bm_rules.specs.Fields.{header_named, has_header, fields_of, is_writable, is_part}
use Rattle.bm_rules.specs.References.{is_known, have_one_type, has_counter, has_list, primitive_known, action_known}
use Rattle.bm_rules.specs.Operations.{primitive_typed}
use Rattle.link_spec.specs.Fields.{header_at, fields_named, fields_before, header_place}
use Rattle.link_spec.specs.Objects.{list_at, learn_list_of, primitive_of, action_of}
use Rattle.link_spec.specs.Linked.{program_of}
use Rattle.link_spec.proofs.Found.{each_fails, unwrapped_within, any_found}
use Rattle.link_spec.proofs.Headers.{HasTypes, fields_apart, is_width}
use Rattle.link_spec.proofs.Fields.{HeaderFound, header_found, header_at_is, fields_named_is, header_exists, header_placed, target_written}
use Rattle.link_spec.proofs.Expressions.{value_linked, value_settled}
use Rattle.link_spec.proofs.Packets.{reads}

-- ---- headers of one type

-- two headers that are there, of one type
record OneType (raw : RawProgram) (target source : List ℕ) : Type 0 where
  to : has_header raw target ≡ true
  from : has_header raw source ≡ true
  as_many : length (fields_named raw target) ≡ length (fields_named raw source)

types_of : (raw : RawProgram) (one other : Option Header) → have_one_type one other ≡ true → (is_some one ≡ true) × (is_some other ≡ true)
types_of raw None other h = absurd cc
types_of raw (Some x) None h = absurd cc
types_of raw (Some x) (Some y) h = (refl, refl)

same_type : (x y : Header) → have_one_type (Some x) (Some y) ≡ true → x.header_type ≡ y.header_type
same_type x y h = (bytes_eq-Decides x.header_type y.header_type).0 h

one_type : (raw : RawProgram) (target source : List ℕ) → have_one_type (header_named raw target) (header_named raw source) ≡ true → OneType raw target source
one_type raw target source h =
    let there = types_of raw (header_named raw target) (header_named raw source) h in
    let f : HeaderFound raw target = header_found raw target there.0 in
    let g : HeaderFound raw source = header_found raw source there.1 in
    let both : have_one_type (Some f.object) (Some g.object) ≡ true = ap (λ o. have_one_type o (Some g.object)) (sym f.is) ∙ (ap (have_one_type (header_named raw target)) (sym g.is) ∙ h) in
    record {
      to = there.0;
      from = there.1;
      as_many = ap length (fields_named_is raw target f) ∙ (ap (λ type. length (fields_of raw (record f.object { header_type = type }))) (same_type f.object g.object both) ∙ ap length (sym (fields_named_is raw source g)));
    }

apart_by : (raw : RawProgram) (target source : List ℕ) (f : HeaderFound raw target) (g : HeaderFound raw source) → (header_at raw target ≡ header_at raw source → ⊥)
    → (f.place ≡ g.place) ⊎ ((f.place < g.place) ⊎ (g.place < f.place)) → AreApart (header_place raw source) (header_place raw target)
apart_by raw target source f g other (inl same) = absurd (other (header_at_is raw target f ∙ (same ∙ sym (header_at_is raw source g))))
apart_by raw target source f g other (inr (inl less)) =
    inr (omega (arith, fields_apart raw f.place g.place f.object f.there less, ap (fields_before raw) (header_at_is raw target f), ap (fields_before raw) (header_at_is raw source g), ap length (fields_named_is raw target f)))
apart_by raw target source f g other (inr (inr less)) =
    inl (omega (arith, fields_apart raw g.place f.place g.object g.there less, ap (fields_before raw) (header_at_is raw target f), ap (fields_before raw) (header_at_is raw source g), ap length (fields_named_is raw source g)))

-- headers of one type are linked to such
headers_of_one_type : (raw : RawProgram) (info : Info) (target source : List ℕ) → have_one_type (header_named raw target) (header_named raw source) ≡ true
    → AreOfOneType (program_of raw info) (header_place raw target) (header_place raw source)
headers_of_one_type raw info target source h =
    let o = one_type raw target source h in
    let f : HeaderFound raw target = header_found raw target o.to in
    let g : HeaderFound raw source = header_found raw source o.from in
    record {
      to = header_placed raw info target o.to;
      from = header_placed raw info source o.from;
      as_many = o.as_many;
      apart = λ other. apart_by raw target source f g other (cases_order f.place g.place);
    }

-- ---- primitives

list_within : (raw : RawProgram) (list : LearnListName) → has_list raw list ≡ true → name_left_out list ≡ false → list_at raw list < length raw.learn_lists
list_within raw (lists.Name name) known kept = unwrapped_within (λ list. bytes_eq list.name name) raw.learn_lists known
list_within raw (lists.Id (parts.Served id)) known kept = unwrapped_within (λ list. list.id == id) raw.learn_lists (any_found (λ list. list.id == id) raw.learn_lists known)
list_within raw (lists.Id parts.LeftOut) known kept = absurd cc
list_within raw lists.LeftOut known kept = absurd cc

-- what is asked of a primitive of an action with so many data
pub record PrimitiveKept (raw : RawProgram) (args : ℕ) (primitive : Primitive) : Type 0 where
  pub known : primitive_known raw args primitive ≡ true
  pub typed : primitive_typed primitive ≡ true
  pub kept : primitive_left_out primitive ≡ false
  pub sound : IsSoundPrimitive primitive

-- a primitive is linked to one that names what there is
primitive_linked : (raw : RawProgram) (info : Info) → HasTypes raw → (args : ℕ) (primitive : Primitive) → PrimitiveKept raw args primitive → IsPrimitive (program_of raw info) args (primitive_of raw info primitive)
primitive_linked raw info types args (raws.Assign target value) p =
    let known = and_parts (is_part (is_writable raw) target) (is_known raw args value) p.known in
    let kept = or_parts (is_left_out target) (expression_left_out value) p.kept in
    (target_written raw info types target known.0 kept.0, value_linked raw (program_of raw info) args (reads raw info types args) value p.typed known.1 p.sound)
primitive_linked raw info types args (raws.AddHeader (parts.Served name)) p = header_placed raw info name p.known
primitive_linked raw info types args (raws.AddHeader parts.LeftOut) p = let no : true ≡ false = p.kept in absurd cc
primitive_linked raw info types args (raws.RemoveHeader (parts.Served name)) p = header_exists raw info name p.known
primitive_linked raw info types args (raws.RemoveHeader parts.LeftOut) p = let no : true ≡ false = p.kept in absurd cc
primitive_linked raw info types args (raws.AssignHeader (parts.Served target) (parts.Served source)) p = headers_of_one_type raw info target source p.known
primitive_linked raw info types args (raws.AssignHeader (parts.Served target) parts.LeftOut) p = let no : true ≡ false = p.kept in absurd cc
primitive_linked raw info types args (raws.AssignHeader parts.LeftOut source) p = let no : true ≡ false = p.kept in absurd cc
primitive_linked raw info types args raws.Drop p = tt
primitive_linked raw info types args (raws.Count counter index) p =
    let known = and_parts (is_part (has_counter raw) counter) (is_known raw args index) p.known in
    let typed = value_settled raw index p.typed in
    (value_linked raw (program_of raw info) args (reads raw info types args) index typed.0 known.1 p.sound, typed.1)
primitive_linked raw info types args (raws.GenerateDigest list) p =
    subst (λ n. list_at raw list < n) (sym (length-map raw.learn_lists (learn_list_of raw info))) (list_within raw list p.known p.kept)
primitive_linked raw info types args raws.NoOp p = tt
primitive_linked raw info types args raws.LeftOut p = tt
primitive_linked raw info types args (raws.Unknown name) p = tt

-- ---- actions

-- what is asked of an action
pub record ActionKept (raw : RawProgram) (action : Action) : Type 0 where
  pub known : action_known raw action ≡ true
  pub typed : list_all primitive_typed action.primitives ≡ true
  pub kept : action_left_out action ≡ false
  pub limits : action_exceeds action ≡ false
  pub sound : IsSoundAction action

-- an action is linked to one that names what there is
pub action_linked : (raw : RawProgram) (info : Info) → HasTypes raw → (action : Action) → ActionKept raw action → IsAction (program_of raw info) (action_of raw info action)
action_linked raw info types action a =
    let limits = or_parts (nat_lt 8 (length action.runtime_data)) (nat_lt 64 (length action.primitives)) a.limits in
    let kept = or_parts (list_any (λ datum. is_left_out datum.width) action.runtime_data) (list_any primitive_left_out action.primitives) a.kept in
    let many : length (map (λ datum. width_bits datum.width) action.runtime_data) ≡ length action.runtime_data = length-map action.runtime_data (λ datum. width_bits datum.width) in
    record {
      number = omega (arith, many, ltb-false 8 (length action.runtime_data) limits.0);
      widths = All-map IsWidth (λ datum. width_bits datum.width) action.runtime_data
          (λ k d l. is_width (slice_index_or action.runtime_data k d).width (a.sound.runtime_data k d l) (each_fails (λ datum. is_left_out datum.width) action.runtime_data kept.0 k d l));
      limit = omega (arith, length-map action.primitives (primitive_of raw info), ltb-false 64 (length action.primitives) limits.1);
      primitives = subst (λ n. All (IsPrimitive (program_of raw info) n) (map (primitive_of raw info) action.primitives)) (sym many)
          (All-map (IsPrimitive (program_of raw info) (length action.runtime_data)) (primitive_of raw info) action.primitives
          (λ k d l. primitive_linked raw info types (length action.runtime_data) (slice_index_or action.primitives k d)
          (record {
            known = AllPass-from_list_all (primitive_known raw (length action.runtime_data)) action.primitives a.known k d l;
            typed = AllPass-from_list_all primitive_typed action.primitives a.typed k d l;
            kept = each_fails primitive_left_out action.primitives kept.1 k d l;
            sound = a.sound.primitives k d l;
          })));
    }
