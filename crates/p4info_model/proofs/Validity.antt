-- A P4Info without a flaw is valid.
use Rattle.std.proofs.Common.{◌≡◌, ℕ, ◌+◌, ◌≤◌, ◌==◌, ◌%◌, refl, sym, ◌∙◌, Bool, true, false, cond, not, ◌||◌, ◌&&◌, nat_eq, nat_lt, nat_le, ℤ, List, [], ◌∷◌, length, map, sum_by, Option, Some, None, is_none, unwrap_or, IsSome, IfSome, IsTrue, All, get_or, arith}
use Rattle.std.proofs.Common.{pos, negsuc}
use Rattle.std.specs.List.{list_any}
use Rattle.std.specs.Set.{is_member, distinct_count}
use Rattle.std.specs.Cmp.{nat_eq_equiv}
use Rattle.std.proofs.lemmas.Bool.Decides.{nat_tests}
use Rattle.std.proofs.lemmas.List.{length-map}
use Rattle.std.proofs.lemmas.List.Elements.{All-map}
use Rattle.std.proofs.lemmas.List.Sums.{sum_by-cons}
use Rattle.std.proofs.lemmas.Map.Made.{distinct_count-le, IsDistinct-from_count}
use Rattle.p4_types.specs.declared.p4info.Action.{Action}
use Rattle.p4_types.specs.declared.p4info.ActionProfile.{ActionProfile}
use Rattle.p4_types.specs.declared.p4info.ControllerPacketMetadata.{ControllerPacketMetadata}
use Rattle.p4_types.specs.declared.p4info.DirectCounter.{DirectCounter}
use Rattle.p4_types.specs.declared.p4info.Metadata.{Metadata}
use Rattle.p4_types.specs.declared.p4info.P4Info.{P4Info}
use Rattle.p4_types.specs.declared.p4info.Table.{Table}
use Rattle.info_rules.specs.Numbers.{width_of, kind_of, scope_of, size_of}
use Rattle.info_rules.specs.Objects.{id_of, repeats, ids_clash}
use Rattle.info_rules.specs.Rules.{breaks_i2, breaks_i3, breaks_i4, breaks_i5, breaks_i6, breaks_i7, breaks_i8, breaks_i9, same_pair, lacks_some, differ, action_uses, lacks_default, profiles_of_tables, profile_tables, tables_of_profiles, table_counters, counters_of_tables, tables_of_counters, table_breaks_i7, table_breaks_i8, profile_breaks_i8, exceeds_limits, has_two_lpm, bits_of}
use Rattle.info_rules.specs.Flaw.{flaw}
use Rattle.p4info_model.specs.Lookups.{table_at, action_at, profile_at, direct_counter_at}
use Rattle.p4info_model.specs.Resolved.{field_of, ref_of, table_of, param_of, action_of, profile_of, direct_counter_of, header_field_of, header_of, info_of}
use Rattle.p4info_model.specs.Valid.{IsWidth, AreApart, IsValidTable, IsValidAction, IsValidProfile, IsValidDirectCounter, IsValidHeader, IsValid}
use Rattle.info_rules.proofs.Sameness.{list_any_map}
use Rattle.p4info_model.proofs.Kept.{neither, each, each_map, list_any_flat, implied, there, numbers_kept}

pub three : (a b c : Bool) → (a || b || c) ≡ false → (a ≡ false) × (b ≡ false) × (c ≡ false)
three true b c e = absurd cc
three false true c e = absurd cc
three false false c e = (refl, refl, e)

four : (a b c d : Bool) → (a || b || c || d) ≡ false → (a ≡ false) × (b ≡ false) × (c ≡ false) × (d ≡ false)
four true b c d e = absurd cc
four false true c d e = absurd cc
four false false true d e = absurd cc
four false false false d e = (refl, refl, refl, e)

pub six : (a b c d f g : Bool) → (a || b || c || d || f || g) ≡ false → (a ≡ false) × (b ≡ false) × (c ≡ false) × (d ≡ false) × (f ≡ false) × (g ≡ false)
six true b c d f g e = absurd cc
six false true c d f g e = absurd cc
six false false true d f g e = absurd cc
six false false false true f g e = absurd cc
six false false false false true g e = absurd cc
six false false false false false g e = (refl, refl, refl, refl, refl, e)

passes : (b : Bool) → not b ≡ false → b ≡ true
passes true e = refl
passes false e = absurd cc

both : (a b : Bool) → (a && b) ≡ true → (a ≡ true) × (b ≡ true)
both true b e = (refl, e)
both false b e = absurd cc

-- a width that is one
width_by : (n : ℕ) (b : Bool) → b ≡ (nat_le 1 n && nat_le n 128) → is_none (cond b (Some n) None) ≡ false → IsWidth (unwrap_or (cond b (Some n) None) 1)
width_by n true h e = (grind (arith, nat_tests), grind (arith, nat_tests))
width_by n false h e = absurd cc

width_ok : (z : ℤ) → is_none (width_of z) ≡ false → IsWidth (unwrap_or (width_of z) 1)
width_ok (pos n) e = width_by n (nat_le 1 n && nat_le n 128) refl e
width_ok (negsuc n) e = absurd cc

at_least : (id : ℕ) → (id == 0) ≡ false → 1 ≤ id
at_least id e = grind (arith, nat_tests)

at_most : (n m : ℕ) → nat_lt n m ≡ false → m ≤ n
at_most n m e = grind (arith, nat_tests)

apart : (ids : List ℕ) → ids_clash ids ≡ false → AreApart ids
unfolding ids_clash
apart ids e =
    let n = neither (list_any (λ id. id == 0) ids) (repeats nat_eq ids) e in
    let fewer : distinct_count nat_eq ids ≤ length ids = distinct_count-le nat_eq ids in
    let more : length ids ≤ distinct_count nat_eq ids = at_most (distinct_count nat_eq ids) (length ids) n.1 in
    record {
      given = each (λ id. id == 0) (λ id. 1 ≤ id) at_least ids n.0;
      distinct = IsDistinct-from_count nat_eq_equiv ids (omega arith);
    }

-- the default action is one of the table's
default_by : (b c : Bool) (id : ℕ) (P : ℕ → Type 0) → (c ≡ true → P id) → (not b && not c) ≡ false → IfSome (cond b None (Some id)) P
default_by true c id P h e = tt
default_by false true id P h e = h refl
default_by false false id P h e = absurd cc

-- the same number, from either side
turned : (x y : ℕ) → (x == y) ≡ true → (y == x) ≡ true
turned x y e = grind (arith, nat_tests)

-- a pair is among a list of pairs with one second
second_is : (a b g : ℕ) (l : List ℕ) → list_any (same_pair (a, b)) (map (λ t. (t, g)) l) ≡ true → (g == b) ≡ true
second_is a b g [] e = absurd cc
second_is a b g (t ∷ l) e = pick (a == t) (b == g) (g == b) _ (grind (arith, nat_tests)) (second_is a b g l) e
  where
    pick : (x y z r : Bool) → y ≡ z → (r ≡ true → z ≡ true) → ((x && y) || r) ≡ true → z ≡ true
    pick true true z r s h e = sym s
    pick true false z r s h e = h e
    pick false y z r s h e = h e

-- a pair is among a list of pairs with one first
first_is : (a b g : ℕ) (l : List ℕ) → list_any (same_pair (a, b)) (map (λ c. (g, c)) l) ≡ true → (g == a) ≡ true
first_is a b g [] e = absurd cc
first_is a b g (t ∷ l) e = pick (a == g) (b == t) (g == a) _ (grind (arith, nat_tests)) (first_is a b g l) e
  where
    pick : (x y z r : Bool) → x ≡ z → (r ≡ true → z ≡ true) → ((x && y) || r) ≡ true → z ≡ true
    pick true y z r s h e = sym s
    pick false y z r s h e = h e

-- what the rules say of a table, as tests that fail
record Table_passes (m : P4Info) (t : Table) : Type 0 where
  widths : list_any (λ x. is_none (width_of x.bitwidth)) t.match_fields ≡ false
  parts : table_breaks_i7 t ≡ false
  sizes : table_breaks_i8 t ≡ false
  actions : list_any (λ r. not (is_member nat_eq (map (λ x. id_of x.preamble) m.actions) r)) (map (λ r. r.id) t.action_refs) ≡ false
  default : lacks_default t ≡ false
  profile : list_any (λ part. not (is_member same_pair (tables_of_profiles m) part)) (cond (t.implementation_id == 0) [] ((id_of t.preamble, t.implementation_id) ∷ [])) ≡ false
  counters : list_any (λ part. not (is_member same_pair (tables_of_counters m) part)) (table_counters t) ≡ false

-- an action that is among the ids is found
action_found : (m : P4Info) (id : ℕ) → is_member nat_eq (map (λ x. id_of x.preamble) m.actions) id ≡ true → IsSome (action_at (info_of m) id)
action_found m id e = there action_of (λ x. x.preamble.id == id) m.actions
    (implied (λ x. nat_eq id (id_of x.preamble)) (λ x. id_of x.preamble == id) (λ x h. turned id (id_of x.preamble) h) m.actions (sym (list_any_map (nat_eq id) (λ x. id_of x.preamble) m.actions) ∙ e))

-- a profile that a pair names is found
profile_found : (m : P4Info) (a b : ℕ) → is_member same_pair (tables_of_profiles m) (a, b) ≡ true → IsSome (profile_at (info_of m) b)
profile_found m a b e = there profile_of (λ x. x.preamble.id == b) m.action_profiles
    (implied (λ p. list_any (same_pair (a, b)) (profile_tables p)) (λ x. id_of x.preamble == b) (λ p h. second_is a b (id_of p.preamble) p.table_ids h) m.action_profiles (sym (list_any_flat (same_pair (a, b)) profile_tables m.action_profiles) ∙ e))

-- a direct counter that a pair names is found
counter_found : (m : P4Info) (a b : ℕ) → is_member same_pair (tables_of_counters m) (a, b) ≡ true → IsSome (direct_counter_at (info_of m) b)
counter_found m a b e = there direct_counter_of (λ x. x.preamble.id == b) m.direct_counters
    (implied (λ c. same_pair (a, b) (c.direct_table_id, id_of c.preamble)) (λ x. id_of x.preamble == b) (λ c h. turned b (id_of c.preamble) ((both (a == c.direct_table_id) (b == id_of c.preamble) h).1)) m.direct_counters (sym (list_any_map (same_pair (a, b)) (λ c. (c.direct_table_id, id_of c.preamble)) m.direct_counters) ∙ e))

-- a table that a pair of the one kind names is found
table_with_profile : (m : P4Info) (a b : ℕ) → is_member same_pair (profiles_of_tables m) (a, b) ≡ true → IsSome (table_at (info_of m) a)
table_with_profile m a b e = there table_of (λ x. x.preamble.id == a) m.tables
    (implied (λ t. list_any (same_pair (a, b)) (cond (t.implementation_id == 0) [] ((id_of t.preamble, t.implementation_id) ∷ []))) (λ x. id_of x.preamble == a)
    (λ t h. one (t.implementation_id == 0) (id_of t.preamble) t.implementation_id h) m.tables
    (sym (list_any_flat (same_pair (a, b)) (λ t. cond (t.implementation_id == 0) [] ((id_of t.preamble, t.implementation_id) ∷ [])) m.tables) ∙ e))
  where
    one : (c : Bool) (x y : ℕ) → list_any (same_pair (a, b)) (cond c [] ((x, y) ∷ [])) ≡ true → (x == a) ≡ true
    one true x y h = absurd cc
    one false x y h = grind (arith, nat_tests)

-- a table that a pair of the other kind names is found
table_with_counter : (m : P4Info) (a b : ℕ) → is_member same_pair (counters_of_tables m) (a, b) ≡ true → IsSome (table_at (info_of m) a)
table_with_counter m a b e = there table_of (λ x. x.preamble.id == a) m.tables
    (implied (λ t. list_any (same_pair (a, b)) (table_counters t)) (λ x. id_of x.preamble == a) (λ t h. first_is a b (id_of t.preamble) t.direct_resource_ids h) m.tables (sym (list_any_flat (same_pair (a, b)) table_counters m.tables) ∙ e))

-- the profile that a table names
profile_by : (b : Bool) (id tid : ℕ) (bad : ℕ × ℕ → Bool) (P : ℕ → Type 0) → (bad (tid, id) ≡ false → P id) → list_any bad (cond b [] ((tid, id) ∷ [])) ≡ false → IfSome (cond b None (Some id)) P
profile_by true id tid bad P h e = tt
profile_by false id tid bad P h e = h ((neither (bad (tid, id)) false e).0)

table_valid : (m : P4Info) (t : Table) → Table_passes m t → IsValidTable (info_of m) (table_of t)
table_valid m t p =
    let r7 = three (list_any (λ x. is_none (kind_of x.match_type)) t.match_fields) (list_any (λ x. is_none (scope_of x.scope)) t.action_refs) (ids_clash (map (λ x. x.id) t.match_fields)) p.parts in
    record {
      widths = each_map field_of (λ x. is_none (width_of x.bitwidth)) (λ x. IsWidth x.bitwidth) (λ x h. width_ok x.bitwidth h) t.match_fields p.widths;
      fields = rw (numbers_kept field_of (λ x. x.id) (λ x. x.id) (λ x. refl) t.match_fields) (apart (map (λ x. x.id) t.match_fields) r7.2);
      few = rw (length-map t.match_fields field_of) (at_most 16 (length t.match_fields) ((neither (is_none (size_of t.size)) (nat_lt 16 (length t.match_fields)) p.sizes).1));
      actions = each_map ref_of (λ r. not (is_member nat_eq (map (λ x. id_of x.preamble) m.actions) r.id)) (λ x. IsSome (action_at (info_of m) x.id)) (λ r h. action_found m r.id (passes _ h)) t.action_refs (sym (list_any_map (λ r. not (is_member nat_eq (map (λ x. id_of x.preamble) m.actions) r)) (λ r. r.id) t.action_refs) ∙ p.actions);
      default = default_by (t.const_default_action_id == 0) (list_any (λ r. r.id == t.const_default_action_id) t.action_refs) t.const_default_action_id (λ id. IsTrue (list_any (λ x. x.id == id) (map ref_of t.action_refs))) (λ h. list_any_map (λ x. x.id == t.const_default_action_id) ref_of t.action_refs ∙ h) p.default;
      profile = profile_by (t.implementation_id == 0) t.implementation_id (id_of t.preamble) (λ part. not (is_member same_pair (tables_of_profiles m) part)) (λ id. IsSome (profile_at (info_of m) id)) (λ h. profile_found m (id_of t.preamble) t.implementation_id (passes _ h)) p.profile;
      counters = each (λ c. not (is_member same_pair (tables_of_counters m) (id_of t.preamble, c))) (λ id. IsSome (direct_counter_at (info_of m) id)) (λ c h. counter_found m (id_of t.preamble) c (passes _ h)) t.direct_resource_ids (sym (list_any_map (λ part. not (is_member same_pair (tables_of_counters m) part)) (λ c. (id_of t.preamble, c)) t.direct_resource_ids) ∙ p.counters);
    }

action_valid : (a : Action) → list_any (λ x. is_none (width_of x.bitwidth)) a.params ≡ false → ids_clash (map (λ x. x.id) a.params) ≡ false → nat_lt 8 (length a.params) ≡ false → IsValidAction (action_of a)
action_valid a w i l = record {
  widths = each_map param_of (λ x. is_none (width_of x.bitwidth)) (λ x. IsWidth x.bitwidth) (λ x h. width_ok x.bitwidth h) a.params w;
  params = rw (numbers_kept param_of (λ x. x.id) (λ x. x.id) (λ x. refl) a.params) (apart (map (λ x. x.id) a.params) i);
  few = rw (length-map a.params param_of) (at_most 8 (length a.params) l);
}

profile_valid : (m : P4Info) (p : ActionProfile) → list_any (λ part. not (is_member same_pair (profiles_of_tables m) part)) (profile_tables p) ≡ false → IsValidProfile (info_of m) (profile_of p)
profile_valid m p e = record {
  tables = each (λ t. not (is_member same_pair (profiles_of_tables m) (t, id_of p.preamble))) (λ id. IsSome (table_at (info_of m) id)) (λ t h. table_with_profile m t (id_of p.preamble) (passes _ h)) p.table_ids (sym (list_any_map (λ part. not (is_member same_pair (profiles_of_tables m) part)) (λ t. (t, id_of p.preamble)) p.table_ids) ∙ e);
}

direct_counter_valid : (m : P4Info) (c : DirectCounter) → not (is_member same_pair (counters_of_tables m) (c.direct_table_id, id_of c.preamble)) ≡ false → IsValidDirectCounter (info_of m) (direct_counter_of c)
direct_counter_valid m c e = record { table = table_with_counter m c.direct_table_id (id_of c.preamble) (passes _ e) }

-- the bits of a header whose widths are widths
same_width : (z : ℤ) → is_none (width_of z) ≡ false → unwrap_or (width_of z) 1 ≡ unwrap_or (width_of z) 0
same_width z e = by_option (width_of z) e
  where
    by_option : (o : Option ℕ) → is_none o ≡ false → unwrap_or o 1 ≡ unwrap_or o 0
    by_option None e = absurd cc
    by_option (Some n) e = refl

same_bits : (xs : List Metadata) → list_any (λ x. is_none (width_of x.bitwidth)) xs ≡ false → sum_by (λ x. x.bitwidth) (map header_field_of xs) ≡ sum_by (λ x. unwrap_or (width_of x.bitwidth) 0) xs
same_bits [] e = refl
same_bits (x ∷ xs) e =
    let n = neither (is_none (width_of x.bitwidth)) (list_any (λ x. is_none (width_of x.bitwidth)) xs) e in
    sum_by-cons (λ x. x.bitwidth) (header_field_of x) (map header_field_of xs) ∙ (same_sum _ _ _ _ (same_width x.bitwidth n.0) (same_bits xs n.1) ∙ sym (sum_by-cons (λ x. unwrap_or (width_of x.bitwidth) 0) x xs))
  where
    same_sum : (a b c d : ℕ) → a ≡ b → c ≡ d → a + c ≡ b + d
    same_sum a b c d e f = cc

whole_bytes : (n : ℕ) → not (n % 8 == 0) ≡ false → n % 8 ≡ 0
whole_bytes n e = grind (arith, nat_tests)

header_valid : (h : ControllerPacketMetadata) → list_any (λ x. is_none (width_of x.bitwidth)) h.metadata ≡ false → ids_clash (map (λ x. x.id) h.metadata) ≡ false → nat_lt 128 (length h.metadata) ≡ false → not (bits_of h % 8 == 0) ≡ false → IsValidHeader (header_of h)
header_valid h w i l b = record {
  widths = each_map header_field_of (λ x. is_none (width_of x.bitwidth)) (λ x. IsWidth x.bitwidth) (λ x e. width_ok x.bitwidth e) h.metadata w;
  fields = rw (numbers_kept header_field_of (λ x. x.id) (λ x. x.id) (λ x. refl) h.metadata) (apart (map (λ x. x.id) h.metadata) i);
  few = rw (length-map h.metadata header_field_of) (at_most 128 (length h.metadata) l);
  whole = rw (same_bits h.metadata w) (whole_bytes (bits_of h) b);
}

-- a test of each that no item fails
pub none_fails : {X : Type 0} (bad : X → Bool) (xs : List X) → list_any bad xs ≡ false → All (λ x. bad x ≡ false) xs
none_fails bad xs e = each bad (λ x. bad x ≡ false) (λ x h. h) xs e

-- the parts of the rules
abbrev lacks_actions : P4Info → Bool
lacks_actions m = lacks_some nat_eq (map (λ x. id_of x.preamble) m.actions) (action_uses m)

abbrev profiles_differ : P4Info → Bool
profiles_differ m = differ same_pair (profiles_of_tables m) (tables_of_profiles m)

abbrev counters_differ : P4Info → Bool
counters_differ m = differ same_pair (counters_of_tables m) (tables_of_counters m)

abbrev tables_lack_width : P4Info → Bool
tables_lack_width m = list_any (λ t. list_any (λ x. is_none (width_of x.bitwidth)) t.match_fields) m.tables

abbrev actions_lack_width : P4Info → Bool
actions_lack_width m = list_any (λ a. list_any (λ x. is_none (width_of x.bitwidth)) a.params) m.actions

abbrev headers_lack_width : P4Info → Bool
headers_lack_width m = list_any (λ h. list_any (λ x. is_none (width_of x.bitwidth)) h.metadata) m.controller_packet_metadata

abbrev actions_clash : P4Info → Bool
actions_clash m = list_any (λ a. ids_clash (map (λ x. x.id) a.params)) m.actions

abbrev headers_clash : P4Info → Bool
headers_clash m = list_any (λ h. ids_clash (map (λ x. x.id) h.metadata)) m.controller_packet_metadata

-- each table passes the tests
uses_pass : (m : P4Info) → breaks_i5 m ≡ false → breaks_i6 m ≡ false → breaks_i7 m ≡ false → breaks_i8 m ≡ false → All (Table_passes m) m.tables
uses_pass m e5 e6 e7 e8 =
    let r5 = four (lacks_actions m) (list_any lacks_default m.tables) (profiles_differ m) (counters_differ m) e5 in
    let p5 = neither (lacks_some same_pair (tables_of_profiles m) (profiles_of_tables m)) (lacks_some same_pair (profiles_of_tables m) (tables_of_profiles m)) r5.2 in
    let q5 = neither (lacks_some same_pair (tables_of_counters m) (counters_of_tables m)) (lacks_some same_pair (counters_of_tables m) (tables_of_counters m)) r5.3 in
    let r6 = three (tables_lack_width m) (actions_lack_width m) (headers_lack_width m) e6 in
    let r7 = three (list_any table_breaks_i7 m.tables) (actions_clash m) (headers_clash m) e7 in
    let r8 = six (exceeds_limits m) (list_any table_breaks_i8 m.tables) (list_any (λ a. nat_lt 8 (length a.params)) m.actions) (list_any profile_breaks_i8 m.action_profiles) (list_any (λ c. is_none (size_of c.size)) m.counters) (list_any (λ h. nat_lt 128 (length h.metadata)) m.controller_packet_metadata) e8 in
    let widths = none_fails (λ t. list_any (λ x. is_none (width_of x.bitwidth)) t.match_fields) m.tables r6.0 in
    let parts = none_fails table_breaks_i7 m.tables r7.0 in
    let sizes = none_fails table_breaks_i8 m.tables r8.1 in
    let actions = none_fails (λ t. list_any (λ r. not (is_member nat_eq (map (λ x. id_of x.preamble) m.actions) r)) (map (λ r. r.id) t.action_refs)) m.tables (sym (list_any_flat (λ r. not (is_member nat_eq (map (λ x. id_of x.preamble) m.actions) r)) (λ t. map (λ r. r.id) t.action_refs) m.tables) ∙ r5.0) in
    let defaults = none_fails lacks_default m.tables r5.1 in
    let profiles = none_fails (λ t. list_any (λ part. not (is_member same_pair (tables_of_profiles m) part)) (cond (t.implementation_id == 0) [] ((id_of t.preamble, t.implementation_id) ∷ []))) m.tables (sym (list_any_flat (λ part. not (is_member same_pair (tables_of_profiles m) part)) (λ t. cond (t.implementation_id == 0) [] ((id_of t.preamble, t.implementation_id) ∷ [])) m.tables) ∙ p5.0) in
    let counters = none_fails (λ t. list_any (λ part. not (is_member same_pair (tables_of_counters m) part)) (table_counters t)) m.tables (sym (list_any_flat (λ part. not (is_member same_pair (tables_of_counters m) part)) table_counters m.tables) ∙ q5.0) in
    λ k d l. record { widths = widths k d l; parts = parts k d l; sizes = sizes k d l; actions = actions k d l; default = defaults k d l; profile = profiles k d l; counters = counters k d l }

profiles_pass : (m : P4Info) → breaks_i5 m ≡ false → All (IsValidProfile (info_of m)) (map profile_of m.action_profiles)
profiles_pass m e5 =
    let r5 = four (lacks_actions m) (list_any lacks_default m.tables) (profiles_differ m) (counters_differ m) e5 in
    let p5 = neither (lacks_some same_pair (tables_of_profiles m) (profiles_of_tables m)) (lacks_some same_pair (profiles_of_tables m) (tables_of_profiles m)) r5.2 in
    each_map profile_of (λ p. list_any (λ part. not (is_member same_pair (profiles_of_tables m) part)) (profile_tables p)) (IsValidProfile (info_of m)) (profile_valid m) m.action_profiles (sym (list_any_flat (λ part. not (is_member same_pair (profiles_of_tables m) part)) profile_tables m.action_profiles) ∙ p5.1)

direct_counters_pass : (m : P4Info) → breaks_i5 m ≡ false → All (IsValidDirectCounter (info_of m)) (map direct_counter_of m.direct_counters)
direct_counters_pass m e5 =
    let r5 = four (lacks_actions m) (list_any lacks_default m.tables) (profiles_differ m) (counters_differ m) e5 in
    let q5 = neither (lacks_some same_pair (tables_of_counters m) (counters_of_tables m)) (lacks_some same_pair (counters_of_tables m) (tables_of_counters m)) r5.3 in
    each_map direct_counter_of (λ c. not (is_member same_pair (counters_of_tables m) (c.direct_table_id, id_of c.preamble))) (IsValidDirectCounter (info_of m)) (direct_counter_valid m) m.direct_counters (sym (list_any_map (λ part. not (is_member same_pair (counters_of_tables m) part)) (λ c. (c.direct_table_id, id_of c.preamble)) m.direct_counters) ∙ q5.1)

actions_pass : (m : P4Info) → breaks_i6 m ≡ false → breaks_i7 m ≡ false → breaks_i8 m ≡ false → All IsValidAction (map action_of m.actions)
actions_pass m e6 e7 e8 =
    let r6 = three (tables_lack_width m) (actions_lack_width m) (headers_lack_width m) e6 in
    let r7 = three (list_any table_breaks_i7 m.tables) (actions_clash m) (headers_clash m) e7 in
    let r8 = six (exceeds_limits m) (list_any table_breaks_i8 m.tables) (list_any (λ a. nat_lt 8 (length a.params)) m.actions) (list_any profile_breaks_i8 m.action_profiles) (list_any (λ c. is_none (size_of c.size)) m.counters) (list_any (λ h. nat_lt 128 (length h.metadata)) m.controller_packet_metadata) e8 in
    let widths = none_fails (λ a. list_any (λ x. is_none (width_of x.bitwidth)) a.params) m.actions r6.1 in
    let ids = none_fails (λ a. ids_clash (map (λ x. x.id) a.params)) m.actions r7.1 in
    let few = none_fails (λ a. nat_lt 8 (length a.params)) m.actions r8.2 in
    All-map IsValidAction action_of m.actions (λ k d l. action_valid (get_or m.actions k d) (widths k d l) (ids k d l) (few k d l))

headers_pass : (m : P4Info) → breaks_i6 m ≡ false → breaks_i7 m ≡ false → breaks_i8 m ≡ false → breaks_i9 m ≡ false → All IsValidHeader (map header_of m.controller_packet_metadata)
headers_pass m e6 e7 e8 e9 =
    let r6 = three (tables_lack_width m) (actions_lack_width m) (headers_lack_width m) e6 in
    let r7 = three (list_any table_breaks_i7 m.tables) (actions_clash m) (headers_clash m) e7 in
    let r8 = six (exceeds_limits m) (list_any table_breaks_i8 m.tables) (list_any (λ a. nat_lt 8 (length a.params)) m.actions) (list_any profile_breaks_i8 m.action_profiles) (list_any (λ c. is_none (size_of c.size)) m.counters) (list_any (λ h. nat_lt 128 (length h.metadata)) m.controller_packet_metadata) e8 in
    let a9 = neither (list_any has_two_lpm m.tables) (list_any (λ h. not (bits_of h % 8 == 0)) m.controller_packet_metadata) e9 in
    let widths = none_fails (λ h. list_any (λ x. is_none (width_of x.bitwidth)) h.metadata) m.controller_packet_metadata r6.2 in
    let ids = none_fails (λ h. ids_clash (map (λ x. x.id) h.metadata)) m.controller_packet_metadata r7.2 in
    let few = none_fails (λ h. nat_lt 128 (length h.metadata)) m.controller_packet_metadata r8.5 in
    let whole = none_fails (λ h. not (bits_of h % 8 == 0)) m.controller_packet_metadata a9.1 in
    All-map IsValidHeader header_of m.controller_packet_metadata (λ k d l. header_valid (get_or m.controller_packet_metadata k d) (widths k d l) (ids k d l) (few k d l) (whole k d l))

-- where no rule is the first that is broken, none is broken
pub none_broken : (a b c d e f g h : Bool) → cond {A = Option ℕ} a (Some 2) (cond b (Some 3) (cond c (Some 4) (cond d (Some 5) (cond e (Some 6) (cond f (Some 7) (cond g (Some 8) (cond h (Some 9) None))))))) ≡ None → (d ≡ false) × (e ≡ false) × (f ≡ false) × (g ≡ false) × (h ≡ false)
none_broken true b c d e f g h n = absurd cc
none_broken false true c d e f g h n = absurd cc
none_broken false false true d e f g h n = absurd cc
none_broken false false false true e f g h n = absurd cc
none_broken false false false false true f g h n = absurd cc
none_broken false false false false false true g h n = absurd cc
none_broken false false false false false false true h n = absurd cc
none_broken false false false false false false false true n = absurd cc
none_broken false false false false false false false false n = (refl, refl, refl, refl, refl)

-- a P4Info without a flaw is valid
pub valid : (m : P4Info) → flaw m ≡ None → IsValid (info_of m)
unfolding flaw
valid m e =
    let n = none_broken (breaks_i2 m) (breaks_i3 m) (breaks_i4 m) (breaks_i5 m) (breaks_i6 m) (breaks_i7 m) (breaks_i8 m) (breaks_i9 m) e in
    let pass = uses_pass m n.0 n.1 n.2 n.3 in
    record {
      tables = All-map (IsValidTable (info_of m)) table_of m.tables (λ k d l. table_valid m (get_or m.tables k d) (pass k d l));
      actions = actions_pass m n.1 n.2 n.3;
      profiles = profiles_pass m n.0;
      direct_counters = direct_counters_pass m n.0;
      headers = headers_pass m n.1 n.2 n.3 n.4;
    }
