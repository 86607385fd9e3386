-- A P4Info without a flaw is read back from what it is written as.
use Rattle.std.proofs.Common.{◌≡◌, ℕ, suc, ◌==◌, ◌<◌, ◌^◌, refl, ap, sym, subst, ◌∙◌, Bool, true, false, cond, ◌&&◌, nat_eq, nat_lt, nat_le, ℤ, pos, negsuc, List, [], ◌∷◌, ◌++◌, length, map, Option, Some, None, is_none, unwrap_or, All, get_or, arith, lit<}
use Rattle.std.specs.List.{list_any}
use Rattle.std.proofs.lemmas.Bool.Decides.{nat_tests}
use Rattle.std.proofs.lemmas.List.{length-map}
use Rattle.std.proofs.lemmas.List.Folds.{list_any-append}
use Rattle.wire_fields.specs.Fields.{Varint, WireField}
use Rattle.wire_fields.specs.Spelling.{spelling}
use Rattle.wire_messages.specs.Written.{Carried, payloads, sent, written}
use Rattle.p4_types.specs.declared.p4info.Action as message_action
use Rattle.p4_types.specs.declared.p4info.ActionProfile as message_profile
use Rattle.p4_types.specs.declared.p4info.ActionRef as message_ref
use Rattle.p4_types.specs.declared.p4info.ControllerPacketMetadata as message_header
use Rattle.p4_types.specs.declared.p4info.Counter as message_counter
use Rattle.p4_types.specs.declared.p4info.CounterSpec as message_spec
use Rattle.p4_types.specs.declared.p4info.Digest as message_digest
use Rattle.p4_types.specs.declared.p4info.DirectCounter as message_direct
use Rattle.p4_types.specs.declared.p4info.MatchField as message_field
use Rattle.p4_types.specs.declared.p4info.Metadata as message_metadata
use Rattle.p4_types.specs.declared.p4info.P4Info.{P4Info}
use Rattle.p4_types.specs.declared.p4info.Param as message_param
use Rattle.p4_types.specs.declared.p4info.Preamble.{Preamble}
use Rattle.p4_types.specs.declared.p4info.Table as message_table
use Rattle.p4_types.specs.declared.info.Info.{Info}
use Rattle.p4_types.specs.declared.info.MatchKind.TheVariants as kinds
use Rattle.p4_types.specs.declared.info.Scope.TheVariants as scopes
use Rattle.p4v1_wire.specs.InfoMessages.{no_spec, match_field_message, action_ref_message, table_message, param_message, action_message, action_profile_message, counter_message, direct_counter_message, header_field_message, controller_header_message, digest_message, message_of, InfoFits}
use Rattle.p4v1_wire.specs.InfoRows.{kind_number, scope_number, preamble_rows, counter_spec_rows, CounterInRange, DirectCounterInRange, CounterSpecInRange, info_rows, InfoInRange}
use Rattle.p4v1_wire.specs.ReadBack.{counted, itself, where_fields}
use Rattle.p4v1_wire.specs.Rows.{fields_by}
use Rattle.p4v1_wire.proofs.InfoBack.{spec_or, info_back}
use Rattle.p4info_model.specs.Answers.{IsReadAs}
use Rattle.info_rules.specs.Flaw.{flaw}
use Rattle.info_rules.specs.Numbers.{width_of, size_of, kind_of, scope_of, named}
use Rattle.info_rules.specs.Objects.{repeats, id_of, name_of, preamble_of, ids, ids_clash, is_of_another_kind}
use Rattle.p4info_model.specs.Resolved.{field_of, ref_of, table_of, param_of, action_of, profile_of, unit_of, counter_of, direct_counter_of, header_field_of, header_of, carried, digest_of, info_of}
use Rattle.info_rules.specs.Rules.{breaks_i2, breaks_i3, breaks_i4, breaks_i5, breaks_i6, breaks_i7, breaks_i8, breaks_i9, table_breaks_i7, table_breaks_i8, profile_breaks_i8, exceeds_limits}
use Rattle.p4info_model.specs.Valid.{AreSizesSmall, IsMade, IsValid, IsWidth}
use Rattle.info_rules.proofs.Sameness.{list_any_map, map_itself}
use Rattle.p4info_model.proofs.Kept.{neither}
use Rattle.p4info_model.proofs.Validity.{none_fails, three, six, none_broken}

same_cons : {X : Type 0} (x y : X) (xs ys : List X) → x ≡ y → xs ≡ ys → x ∷ xs ≡ y ∷ ys
same_cons x y xs ys e f = cc

-- what each item becomes by two steps, where it has a property
by_steps : {X Y Z : Type 0} (f : X → Y) (g : Y → Z) (h : X → Z) (P : X → Type 0) → ((x : X) → P x → g (f x) ≡ h x) → (xs : List X) → All P xs → map g (map f xs) ≡ map h xs
by_steps f g h P step [] all = refl
by_steps f g h P step (x ∷ xs) all = same_cons (g (f x)) (h x) (map g (map f xs)) (map h xs) (step x (all 0 x (omega arith))) (by_steps f g h P step xs (λ k d l. all (suc k) d (omega arith)))

-- items that two steps leave as they are
unchanged : {X Y : Type 0} (f : X → Y) (g : Y → X) (P : X → Type 0) → ((x : X) → P x → g (f x) ≡ x) → (xs : List X) → All P xs → map g (map f xs) ≡ xs
unchanged f g P step xs all = by_steps f g (λ x. x) P step xs all ∙ map_itself xs

-- what is seen of each item stays
seen : {X Y : Type 0} (f : X → X) (g h : X → Y) → ((x : X) → g (f x) ≡ h x) → (xs : List X) → map g (map f xs) ≡ map h xs
seen f g h same [] = refl
seen f g h same (x ∷ xs) = same_cons (g (f x)) (h x) (map g (map f xs)) (map h xs) (same x) (seen f g h same xs)

width_by : (n : ℕ) (b : Bool) → is_none (cond b (Some n) None) ≡ false → pos (unwrap_or (cond b (Some n) None) 1) ≡ pos n
width_by n true e = refl
width_by n false e = absurd cc

width_stays : (z : ℤ) → is_none (width_of z) ≡ false → pos (unwrap_or (width_of z) 1) ≡ z
width_stays (pos n) e = width_by n (nat_le 1 n && nat_le n 128) e
width_stays (negsuc n) e = absurd cc

size_stays : (z : ℤ) → is_none (size_of z) ≡ false → pos (unwrap_or (size_of z) 0) ≡ z
size_stays (pos n) e = refl
size_stays (negsuc n) e = absurd cc

is_number : (n k : ℕ) → true ≡ (n == k) → pos k ≡ pos n
is_number n k e = ap pos (grind (arith, nat_tests))

kind_by : (n : ℕ) (a b c d f : Bool) → a ≡ (n == 2) → b ≡ (n == 3) → c ≡ (n == 4) → d ≡ (n == 5) → f ≡ (n == 6)
    → is_none (cond a (Some kinds.Exact) (cond b (Some kinds.Lpm) (cond c (Some kinds.Ternary) (cond d (Some kinds.Range) (cond f (Some kinds.Optional) None))))) ≡ false
    → pos (kind_number (unwrap_or (cond a (Some kinds.Exact) (cond b (Some kinds.Lpm) (cond c (Some kinds.Ternary) (cond d (Some kinds.Range) (cond f (Some kinds.Optional) None))))) kinds.Exact)) ≡ pos n
kind_by n true b c d f ea eb ec ed ef e = is_number n 2 ea
kind_by n false true c d f ea eb ec ed ef e = is_number n 3 eb
kind_by n false false true d f ea eb ec ed ef e = is_number n 4 ec
kind_by n false false false true f ea eb ec ed ef e = is_number n 5 ed
kind_by n false false false false true ea eb ec ed ef e = is_number n 6 ef
kind_by n false false false false false ea eb ec ed ef e = absurd cc

kind_stays : (z : ℤ) → is_none (kind_of z) ≡ false → pos (kind_number (unwrap_or (kind_of z) kinds.Exact)) ≡ z
kind_stays (pos n) e = kind_by n (n == 2) (n == 3) (n == 4) (n == 5) (n == 6) refl refl refl refl refl e
kind_stays (negsuc n) e = absurd cc

scope_by : (n : ℕ) (a b c : Bool) → a ≡ (n == 0) → b ≡ (n == 1) → c ≡ (n == 2)
    → is_none (cond a (Some scopes.TableAndDefault) (cond b (Some scopes.TableOnly) (cond c (Some scopes.DefaultOnly) None))) ≡ false
    → pos (scope_number (unwrap_or (cond a (Some scopes.TableAndDefault) (cond b (Some scopes.TableOnly) (cond c (Some scopes.DefaultOnly) None))) scopes.TableAndDefault)) ≡ pos n
scope_by n true b c ea eb ec e = is_number n 0 ea
scope_by n false true c ea eb ec e = is_number n 1 eb
scope_by n false false true ea eb ec e = is_number n 2 ec
scope_by n false false false ea eb ec e = absurd cc

scope_stays : (z : ℤ) → is_none (scope_of z) ≡ false → pos (scope_number (unwrap_or (scope_of z) scopes.TableAndDefault)) ≡ z
scope_stays (pos n) e = scope_by n (n == 0) (n == 1) (n == 2) refl refl refl e
scope_stays (negsuc n) e = absurd cc

named_by : (id : ℕ) (b : Bool) → b ≡ (id == 0) → unwrap_or (cond b None (Some id)) 0 ≡ id
named_by id true e = grind (arith, nat_tests)
named_by id false e = refl

named_stays : (id : ℕ) → unwrap_or (named id) 0 ≡ id
named_stays id = named_by id (id == 0) refl

-- a preamble that has an id is written
written_preamble : (b : Bool) (p : Preamble) (rest : List WireField) → b ≡ false → where_fields (map (λ payload. record { number = 1; payload = payload }) (cond b [] (Varint p.id ∷ [])) ++ rest) p ≡ Some p
written_preamble true p rest e = absurd cc
written_preamble false p rest e = refl

preamble_stays : (given : Option Preamble) → (id_of given == 0) ≡ false → counted preamble_rows itself (Some (preamble_of given)) ≡ given
unfolding preamble_rows written
preamble_stays None e = absurd cc
preamble_stays (Some p) e = written_preamble (p.id == 0) p _ e

field_stays : (x : message_field.MatchField) → (is_none (width_of x.bitwidth) ≡ false) × (is_none (kind_of x.match_type) ≡ false) → match_field_message (field_of x) ≡ x
field_stays x e = rw (width_stays x.bitwidth e.0, kind_stays x.match_type e.1) refl

ref_stays : (x : message_ref.ActionRef) → is_none (scope_of x.scope) ≡ false → action_ref_message (ref_of x) ≡ x
ref_stays x e = rw (scope_stays x.scope e) refl

param_stays : (x : message_param.Param) → is_none (width_of x.bitwidth) ≡ false → param_message (param_of x) ≡ x
param_stays x e = rw (width_stays x.bitwidth e) refl

header_field_stays : (x : message_metadata.Metadata) → is_none (width_of x.bitwidth) ≡ false → header_field_message (header_field_of x) ≡ x
header_field_stays x e = rw (width_stays x.bitwidth e) refl

-- what the rules say of a table's own fields
record Table_stands (t : message_table.Table) : Type 0 where
  id : (id_of t.preamble == 0) ≡ false
  widths : list_any (λ x. is_none (width_of x.bitwidth)) t.match_fields ≡ false
  kinds : list_any (λ x. is_none (kind_of x.match_type)) t.match_fields ≡ false
  scopes : list_any (λ x. is_none (scope_of x.scope)) t.action_refs ≡ false
  size : is_none (size_of t.size) ≡ false

table_stays : (t : message_table.Table) → Table_stands t → table_message (table_of t) ≡ t
table_stays t s =
    let widths = none_fails (λ x. is_none (width_of x.bitwidth)) t.match_fields s.widths in
    let kinds = none_fails (λ x. is_none (kind_of x.match_type)) t.match_fields s.kinds in
    rw (
      preamble_stays t.preamble s.id,
      unchanged field_of match_field_message (λ x. (is_none (width_of x.bitwidth) ≡ false) × (is_none (kind_of x.match_type) ≡ false)) field_stays t.match_fields (λ k d l. (widths k d l, kinds k d l)),
      unchanged ref_of action_ref_message (λ x. is_none (scope_of x.scope) ≡ false) ref_stays t.action_refs (none_fails (λ x. is_none (scope_of x.scope)) t.action_refs s.scopes),
      named_stays t.const_default_action_id,
      named_stays t.implementation_id,
      size_stays t.size s.size,
    ) refl

action_stays : (a : message_action.Action) → ((id_of a.preamble == 0) ≡ false) × (list_any (λ x. is_none (width_of x.bitwidth)) a.params ≡ false) → action_message (action_of a) ≡ a
action_stays a e = rw (preamble_stays a.preamble e.0, unchanged param_of param_message (λ x. is_none (width_of x.bitwidth) ≡ false) param_stays a.params (none_fails (λ x. is_none (width_of x.bitwidth)) a.params e.1)) refl

profile_stays : (p : message_profile.ActionProfile) → ((id_of p.preamble == 0) ≡ false) × (is_none (size_of p.size) ≡ false) × (is_none (size_of p.max_group_size) ≡ false) → action_profile_message (profile_of p) ≡ p
profile_stays p e = rw (preamble_stays p.preamble e.0, size_stays p.size e.1, size_stays p.max_group_size e.2) refl

header_stays : (h : message_header.ControllerPacketMetadata) → ((id_of h.preamble == 0) ≡ false) × (list_any (λ x. is_none (width_of x.bitwidth)) h.metadata ≡ false) → controller_header_message (header_of h) ≡ h
header_stays h e = rw (preamble_stays h.preamble e.0, unchanged header_field_of header_field_message (λ x. is_none (width_of x.bitwidth) ≡ false) header_field_stays h.metadata (none_fails (λ x. is_none (width_of x.bitwidth)) h.metadata e.1)) refl

-- what a counter counts, as it is written
abbrev spec_written : Option message_spec.CounterSpec → Option message_spec.CounterSpec
spec_written given = counted counter_spec_rows itself (Some (record { unit = unit_of given }))

abbrev counter_written : message_counter.Counter → message_counter.Counter
counter_written c = record c { spec = spec_written c.spec }

abbrev direct_written : message_direct.DirectCounter → message_direct.DirectCounter
direct_written c = record c { spec = spec_written c.spec }

abbrev digest_written : message_digest.Digest → message_digest.Digest
digest_written d = record d { type_spec = carried d.type_spec }

counter_becomes : (c : message_counter.Counter) → ((id_of c.preamble == 0) ≡ false) × (is_none (size_of c.size) ≡ false) → counter_message (counter_of c) ≡ counter_written c
counter_becomes c e = rw (preamble_stays c.preamble e.0, size_stays c.size e.1) refl

direct_becomes : (c : message_direct.DirectCounter) → (id_of c.preamble == 0) ≡ false → direct_counter_message (direct_counter_of c) ≡ direct_written c
direct_becomes c e = rw (preamble_stays c.preamble e) refl

carried_stays : (given : Option (List ℕ)) → sent (payloads (Carried (carried given))) ≡ carried given
carried_stays None = refl
carried_stays (Some []) = refl
carried_stays (Some (byte ∷ bytes)) = refl

carried_twice : (given : Option (List ℕ)) → carried (carried given) ≡ carried given
carried_twice None = refl
carried_twice (Some []) = refl
carried_twice (Some (byte ∷ bytes)) = refl

digest_becomes : (d : message_digest.Digest) → (id_of d.preamble == 0) ≡ false → digest_message (digest_of d) ≡ digest_written d
digest_becomes d e = rw (preamble_stays d.preamble e, carried_stays d.type_spec) refl

-- the message that a P4Info is written as: counters say what they count unless it is the default, digests have no empty type
abbrev written_as : P4Info → P4Info
written_as m = record m { counters = map counter_written m.counters; direct_counters = map direct_written m.direct_counters; digests = map digest_written m.digests }

-- what the rules say of the objects' own fields
record Stands (m : P4Info) : Type 0 where
  tables : All Table_stands m.tables
  actions : All (λ a. ((id_of a.preamble == 0) ≡ false) × (list_any (λ x. is_none (width_of x.bitwidth)) a.params ≡ false)) m.actions
  profiles : All (λ p. ((id_of p.preamble == 0) ≡ false) × (is_none (size_of p.size) ≡ false) × (is_none (size_of p.max_group_size) ≡ false)) m.action_profiles
  counters : All (λ c. ((id_of c.preamble == 0) ≡ false) × (is_none (size_of c.size) ≡ false)) m.counters
  direct_counters : All (λ c. (id_of c.preamble == 0) ≡ false) m.direct_counters
  headers : All (λ h. ((id_of h.preamble == 0) ≡ false) × (list_any (λ x. is_none (width_of x.bitwidth)) h.metadata ≡ false)) m.controller_packet_metadata
  digests : All (λ d. (id_of d.preamble == 0) ≡ false) m.digests

tables_stay : (m : P4Info) → Stands m → map table_message (map table_of m.tables) ≡ m.tables
tables_stay m s = unchanged table_of table_message Table_stands table_stays m.tables s.tables

actions_stay : (m : P4Info) → Stands m → map action_message (map action_of m.actions) ≡ m.actions
actions_stay m s = unchanged action_of action_message (λ a. ((id_of a.preamble == 0) ≡ false) × (list_any (λ x. is_none (width_of x.bitwidth)) a.params ≡ false)) action_stays m.actions s.actions

profiles_stay : (m : P4Info) → Stands m → map action_profile_message (map profile_of m.action_profiles) ≡ m.action_profiles
profiles_stay m s = unchanged profile_of action_profile_message (λ p. ((id_of p.preamble == 0) ≡ false) × (is_none (size_of p.size) ≡ false) × (is_none (size_of p.max_group_size) ≡ false)) profile_stays m.action_profiles s.profiles

headers_stay : (m : P4Info) → Stands m → map controller_header_message (map header_of m.controller_packet_metadata) ≡ m.controller_packet_metadata
headers_stay m s = unchanged header_of controller_header_message (λ h. ((id_of h.preamble == 0) ≡ false) × (list_any (λ x. is_none (width_of x.bitwidth)) h.metadata ≡ false)) header_stays m.controller_packet_metadata s.headers

written_so : (m : P4Info) → Stands m → message_of (info_of m) ≡ written_as m
written_so m s = rw (
  tables_stay m s,
  actions_stay m s,
  profiles_stay m s,
  by_steps counter_of counter_message counter_written (λ c. ((id_of c.preamble == 0) ≡ false) × (is_none (size_of c.size) ≡ false)) counter_becomes m.counters s.counters,
  by_steps direct_counter_of direct_counter_message direct_written (λ c. (id_of c.preamble == 0) ≡ false) direct_becomes m.direct_counters s.direct_counters,
  headers_stay m s,
  by_steps digest_of digest_message digest_written (λ d. (id_of d.preamble == 0) ≡ false) digest_becomes m.digests s.digests,
) refl

i2_same : (m : P4Info) → breaks_i2 (written_as m) ≡ breaks_i2 m
i2_same m = rw (
  seen counter_written (λ x. id_of x.preamble) (λ x. id_of x.preamble) (λ x. refl) m.counters,
  seen direct_written (λ x. id_of x.preamble) (λ x. id_of x.preamble) (λ x. refl) m.direct_counters,
  seen digest_written (λ x. id_of x.preamble) (λ x. id_of x.preamble) (λ x. refl) m.digests,
) refl

i3_same : (m : P4Info) → breaks_i3 (written_as m) ≡ breaks_i3 m
i3_same m = rw (
  list_any_map (λ x. is_of_another_kind 18 (id_of x.preamble)) counter_written m.counters,
  list_any_map (λ x. is_of_another_kind 19 (id_of x.preamble)) direct_written m.direct_counters,
  list_any_map (λ x. is_of_another_kind 23 (id_of x.preamble)) digest_written m.digests,
) refl

i4_same : (m : P4Info) → breaks_i4 (written_as m) ≡ breaks_i4 m
i4_same m = rw (
  seen counter_written (λ x. name_of x.preamble) (λ x. name_of x.preamble) (λ x. refl) m.counters,
  seen direct_written (λ x. name_of x.preamble) (λ x. name_of x.preamble) (λ x. refl) m.direct_counters,
  seen digest_written (λ x. name_of x.preamble) (λ x. name_of x.preamble) (λ x. refl) m.digests,
) refl

i5_same : (m : P4Info) → breaks_i5 (written_as m) ≡ breaks_i5 m
i5_same m = rw (seen {Y = ℕ × ℕ} direct_written (λ c. (c.direct_table_id, id_of c.preamble)) (λ c. (c.direct_table_id, id_of c.preamble)) (λ c. refl) m.direct_counters) refl

i8_same : (m : P4Info) → breaks_i8 (written_as m) ≡ breaks_i8 m
i8_same m = rw (
  length-map m.counters counter_written,
  length-map m.direct_counters direct_written,
  length-map m.digests digest_written,
  list_any_map (λ c. is_none (size_of c.size)) counter_written m.counters,
) refl

same_first : (b c d e h b' c' d' e' h' f g i : Bool) → b ≡ b' → c ≡ c' → d ≡ d' → e ≡ e' → h ≡ h'
    → cond {A = Option ℕ} b (Some 2) (cond c (Some 3) (cond d (Some 4) (cond e (Some 5) (cond f (Some 6) (cond g (Some 7) (cond h (Some 8) (cond i (Some 9) None)))))))
    ≡ cond {A = Option ℕ} b' (Some 2) (cond c' (Some 3) (cond d' (Some 4) (cond e' (Some 5) (cond f (Some 6) (cond g (Some 7) (cond h' (Some 8) (cond i (Some 9) None)))))))
same_first b c d e h b' c' d' e' h' f g i eb ec ed ee eh = rw (eb, ec, ed, ee, eh) refl

flaw_same : (m : P4Info) → flaw (written_as m) ≡ flaw m
unfolding flaw
flaw_same m = same_first _ _ _ _ _ _ _ _ _ _ (breaks_i6 m) (breaks_i7 m) (breaks_i9 m) (i2_same m) (i3_same m) (i4_same m) (i5_same m) (i8_same m)

unit_by : (given : Option message_spec.CounterSpec) → unit_of given ≡ (unwrap_or given no_spec).unit
unit_by None = refl
unit_by (Some spec) = refl

unit_stays : (z : ℤ) → CounterSpecInRange (record { unit = z }) → unit_of (counted counter_spec_rows itself (Some (record { unit = z }))) ≡ z
unit_stays z fits = unit_by (counted counter_spec_rows itself (Some (record { unit = z }))) ∙ ap (λ s. s.unit) (spec_or (record { unit = z }) fits)

counters_stay : (xs : List message_counter.Counter) → All CounterInRange (map counter_of xs) → map counter_of (map counter_written xs) ≡ map counter_of xs
unfolding CounterInRange
counters_stay [] all = refl
counters_stay (x ∷ xs) all = same_cons (counter_of (counter_written x)) (counter_of x) _ _ (rw (unit_stays (unit_of x.spec) ((all 0 (counter_of x) (omega arith)).2)) refl) (counters_stay xs (λ k d l. all (suc k) d (omega arith)))

directs_stay : (xs : List message_direct.DirectCounter) → All DirectCounterInRange (map direct_counter_of xs) → map direct_counter_of (map direct_written xs) ≡ map direct_counter_of xs
unfolding DirectCounterInRange
directs_stay [] all = refl
directs_stay (x ∷ xs) all = same_cons (direct_counter_of (direct_written x)) (direct_counter_of x) _ _ (rw (unit_stays (unit_of x.spec) ((all 0 (direct_counter_of x) (omega arith)).2)) refl) (directs_stay xs (λ k d l. all (suc k) d (omega arith)))

digest_stays : (d : message_digest.Digest) → digest_of (digest_written d) ≡ digest_of d
digest_stays d = rw (carried_twice d.type_spec) refl

objects_stay : (m : P4Info) → InfoInRange (info_of m) → info_of (written_as m) ≡ info_of m
unfolding InfoInRange
objects_stay m fits = rw (
  counters_stay m.counters fits.4,
  directs_stay m.direct_counters fits.5,
  seen digest_written digest_of digest_of digest_stays m.digests,
) refl

split : (xs ys : List ℕ) → list_any (λ id. id == 0) (xs ++ ys) ≡ false → (list_any (λ id. id == 0) xs ≡ false) × (list_any (λ id. id == 0) ys ≡ false)
split xs ys e = neither (list_any (λ id. id == 0) xs) (list_any (λ id. id == 0) ys) (sym (list_any-append (λ id. id == 0) xs ys) ∙ e)

have_ids : {X : Type 0} (given : X → Option Preamble) (xs : List X) → list_any (λ id. id == 0) (map (λ x. id_of (given x)) xs) ≡ false → All (λ x. (id_of (given x) == 0) ≡ false) xs
have_ids given xs e = none_fails (λ x. id_of (given x) == 0) xs (sym (list_any_map (λ id. id == 0) (λ x. id_of (given x)) xs) ∙ e)

-- the objects have ids
record Have_ids (m : P4Info) : Type 0 where
  tables : All (λ x. (id_of x.preamble == 0) ≡ false) m.tables
  actions : All (λ x. (id_of x.preamble == 0) ≡ false) m.actions
  profiles : All (λ x. (id_of x.preamble == 0) ≡ false) m.action_profiles
  counters : All (λ x. (id_of x.preamble == 0) ≡ false) m.counters
  direct_counters : All (λ x. (id_of x.preamble == 0) ≡ false) m.direct_counters
  headers : All (λ x. (id_of x.preamble == 0) ≡ false) m.controller_packet_metadata
  digests : All (λ x. (id_of x.preamble == 0) ≡ false) m.digests

all_have_ids : (m : P4Info) → breaks_i2 m ≡ false → Have_ids m
unfolding ids_clash
all_have_ids m e =
    let given = (neither (list_any (λ id. id == 0) (ids m)) (repeats nat_eq (ids m)) e).0 in
    let g = split (map (λ x. id_of x.preamble) m.tables ++ map (λ x. id_of x.preamble) m.actions ++ map (λ x. id_of x.preamble) m.action_profiles ++ map (λ x. id_of x.preamble) m.counters ++ map (λ x. id_of x.preamble) m.direct_counters ++ map (λ x. id_of x.preamble) m.controller_packet_metadata) (map (λ x. id_of x.preamble) m.digests) given in
    let f = split (map (λ x. id_of x.preamble) m.tables ++ map (λ x. id_of x.preamble) m.actions ++ map (λ x. id_of x.preamble) m.action_profiles ++ map (λ x. id_of x.preamble) m.counters ++ map (λ x. id_of x.preamble) m.direct_counters) (map (λ x. id_of x.preamble) m.controller_packet_metadata) g.0 in
    let d = split (map (λ x. id_of x.preamble) m.tables ++ map (λ x. id_of x.preamble) m.actions ++ map (λ x. id_of x.preamble) m.action_profiles ++ map (λ x. id_of x.preamble) m.counters) (map (λ x. id_of x.preamble) m.direct_counters) f.0 in
    let c = split (map (λ x. id_of x.preamble) m.tables ++ map (λ x. id_of x.preamble) m.actions ++ map (λ x. id_of x.preamble) m.action_profiles) (map (λ x. id_of x.preamble) m.counters) d.0 in
    let b = split (map (λ x. id_of x.preamble) m.tables ++ map (λ x. id_of x.preamble) m.actions) (map (λ x. id_of x.preamble) m.action_profiles) c.0 in
    let a = split (map (λ x. id_of x.preamble) m.tables) (map (λ x. id_of x.preamble) m.actions) b.0 in
    record {
      tables = have_ids (λ x. x.preamble) m.tables a.0;
      actions = have_ids (λ x. x.preamble) m.actions a.1;
      profiles = have_ids (λ x. x.preamble) m.action_profiles b.1;
      counters = have_ids (λ x. x.preamble) m.counters c.1;
      direct_counters = have_ids (λ x. x.preamble) m.direct_counters d.1;
      headers = have_ids (λ x. x.preamble) m.controller_packet_metadata f.1;
      digests = have_ids (λ x. x.preamble) m.digests g.1;
    }

table_stands : (t : message_table.Table) → (id_of t.preamble == 0) ≡ false → list_any (λ x. is_none (width_of x.bitwidth)) t.match_fields ≡ false → table_breaks_i7 t ≡ false → table_breaks_i8 t ≡ false → Table_stands t
table_stands t i w e7 e8 =
    let r7 = three (list_any (λ x. is_none (kind_of x.match_type)) t.match_fields) (list_any (λ x. is_none (scope_of x.scope)) t.action_refs) (ids_clash (map (λ x. x.id) t.match_fields)) e7 in
    record { id = i; widths = w; kinds = r7.0; scopes = r7.1; size = (neither (is_none (size_of t.size)) (nat_lt 16 (length t.match_fields)) e8).0 }

stands : (m : P4Info) → breaks_i2 m ≡ false → breaks_i6 m ≡ false → breaks_i7 m ≡ false → breaks_i8 m ≡ false → Stands m
stands m e2 e6 e7 e8 =
    let given = all_have_ids m e2 in
    let r6 = three (list_any (λ t. list_any (λ x. is_none (width_of x.bitwidth)) t.match_fields) m.tables) (list_any (λ a. list_any (λ x. is_none (width_of x.bitwidth)) a.params) m.actions) (list_any (λ h. list_any (λ x. is_none (width_of x.bitwidth)) h.metadata) m.controller_packet_metadata) e6 in
    let r7 = three (list_any table_breaks_i7 m.tables) (list_any (λ a. ids_clash (map (λ x. x.id) a.params)) m.actions) (list_any (λ h. ids_clash (map (λ x. x.id) h.metadata)) m.controller_packet_metadata) e7 in
    let r8 = six (exceeds_limits m) (list_any table_breaks_i8 m.tables) (list_any (λ a. nat_lt 8 (length a.params)) m.actions) (list_any profile_breaks_i8 m.action_profiles) (list_any (λ c. is_none (size_of c.size)) m.counters) (list_any (λ h. nat_lt 128 (length h.metadata)) m.controller_packet_metadata) e8 in
    let widths = none_fails (λ t. list_any (λ x. is_none (width_of x.bitwidth)) t.match_fields) m.tables r6.0 in
    let parts = none_fails table_breaks_i7 m.tables r7.0 in
    let sizes = none_fails table_breaks_i8 m.tables r8.1 in
    let params = none_fails (λ a. list_any (λ x. is_none (width_of x.bitwidth)) a.params) m.actions r6.1 in
    let profiles = none_fails profile_breaks_i8 m.action_profiles r8.3 in
    let counters = none_fails (λ c. is_none (size_of c.size)) m.counters r8.4 in
    let fields = none_fails (λ h. list_any (λ x. is_none (width_of x.bitwidth)) h.metadata) m.controller_packet_metadata r6.2 in
    record {
      tables = λ k d l. table_stands (get_or m.tables k d) (given.tables k d l) (widths k d l) (parts k d l) (sizes k d l);
      actions = λ k d l. (given.actions k d l, params k d l);
      profiles = λ k d l.
          let both = neither (is_none (size_of (get_or m.action_profiles k d).size)) (is_none (size_of (get_or m.action_profiles k d).max_group_size)) (profiles k d l) in
          (given.profiles k d l, both.0, both.1);
      counters = λ k d l. (given.counters k d l, counters k d l);
      direct_counters = given.direct_counters;
      headers = λ k d l. (given.headers k d l, fields k d l);
      digests = given.digests;
    }

not_two : (b : Bool) (r : Option ℕ) → cond b (Some 2) r ≡ None → b ≡ false
not_two true r e = absurd cc
not_two false r e = refl

flawless_stands : (m : P4Info) → flaw m ≡ None → Stands m
unfolding flaw
flawless_stands m e =
    let n = none_broken (breaks_i2 m) (breaks_i3 m) (breaks_i4 m) (breaks_i5 m) (breaks_i6 m) (breaks_i7 m) (breaks_i8 m) (breaks_i9 m) e in
    stands m (not_two (breaks_i2 m) _ e) n.1 n.2 n.3

-- the objects of a message without a flaw are the meaning of the message that they are written as, which has no flaw
again : (m : P4Info) → flaw m ≡ None → InfoInRange (info_of m) → (flaw (message_of (info_of m)) ≡ None) × (info_of m ≡ info_of (message_of (info_of m)))
again m e fits =
    let so = written_so m (flawless_stands m e) in
    (ap flaw so ∙ (flaw_same m ∙ e), sym (ap info_of so ∙ objects_stay m fits))

small : (bits : ℕ) → IsWidth bits → bits < 2 ^ 31
small bits w =
    let bound : 128 < 2 ^ 31 = lit< tt in
    omega (arith, w.1, bound)

-- the numbers of a P4Info without a flaw fit
numbers_fit : (info : Info) → IsValid info → AreSizesSmall info → InfoInRange info → InfoFits info
numbers_fit info valid sizes fits = record {
  in_range = fits;
  tables = λ k d l. (sizes.tables k d l, λ i c h. small _ ((valid.tables k d l).widths i c h));
  actions = λ k d l. λ i c h. small _ ((valid.actions k d l).widths i c h);
  action_profiles = λ k d l. (sizes.profiles k d l, sizes.groups k d l);
  counters = sizes.counters;
  controller_headers = λ k d l. λ i c h. small _ ((valid.headers k d l).widths i c h);
}

-- the canonical bytes of a P4Info are read as its objects
pub read_again : (info : Info) → IsMade info → IsValid info → AreSizesSmall info → InfoInRange info → length (spelling (fields_by info_rows info)) < 2 ^ 64 → IsReadAs (spelling (fields_by info_rows info)) info
read_again info made valid sizes fits short =
    let m = made.0 in
    rw (info_back info (numbers_fit info valid sizes fits) short) (of_made m info made.1 made.2 fits)
  where
    of_made : (m : P4Info) (info : Info) → flaw m ≡ None → info ≡ info_of m → InfoInRange info → (flaw (message_of info) ≡ None) × (info ≡ info_of (message_of info))
    of_made m info e is fits = subst (λ i. InfoInRange i → (flaw (message_of i) ≡ None) × (i ≡ info_of (message_of i))) (sym is) (again m e) fits
