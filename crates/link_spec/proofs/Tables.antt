-- Tables and conditionals name what there is.
use Rattle.std.proofs.Common.{◌≡◌, ℕ, ◌+◌, ◌<◌, ◌≤◌, nat_lt, Bool, true, false, cond, List, [], ◌∷◌, length, map, Option, Some, None, is_some, refl, sym, ap, ◌∙◌, subst, arith}
use Rattle.std.specs.Prelude.{All, IfSome, IsSomeAnd, option_map, option_and_then, slice_get, slice_index_or, ◌==◌}
use Rattle.std.specs.List.{find, list_all, zip}
use Rattle.std.specs.Str.{bytes_eq}
use Rattle.std.proofs.lemmas.Bool.{and_parts, eqb-true, ltb-false}
use Rattle.std.proofs.lemmas.List.{length-map}
use Rattle.std.proofs.lemmas.List.Elements.{All-nil, All-cons, All-map}
use Rattle.std.proofs.lemmas.List.Sums.{AllPass-from_list_all}
use Rattle.p4_types.specs.declared.info.Info.{Info}
use Rattle.p4_types.specs.declared.info.Table as info_tables
use Rattle.bm_pipeline.specs.declared.program.Program.{Program}
use Rattle.bm_pipeline.specs.declared.tables.Node.{Node}
use Rattle.bm_pipeline.specs.declared.tables.Next.TheVariants as nexts
use Rattle.bm_pipeline.specs.Validity.{IsRead, IsNode, IsNext, IsTableAction, IsDefaultEntry, IsTable, IsConditional}
use Rattle.bm_records.specs.declared.raw.Action as raw_actions
use Rattle.bm_records.specs.declared.raw.ActionProfile.{ActionProfile}
use Rattle.bm_records.specs.declared.raw.Conditional as raw_conditionals
use Rattle.bm_records.specs.declared.raw.DefaultEntry as raw_defaults
use Rattle.bm_records.specs.declared.raw.NextTable.{NextTable}
use Rattle.bm_records.specs.declared.raw.RawProgram.{RawProgram}
use Rattle.bm_records.specs.declared.raw.Selector.{Selector}
use Rattle.bm_records.specs.declared.raw.Table as raw_tables
use Rattle.bm_json.specs.LeftOut.{selector_left_out}
use Rattle.bm_json.specs.Sound.{IsSoundTree}
use Rattle.bm_rules.specs.Kinds.{is_condition}
use Rattle.bm_rules.specs.Names.{named, place_of}
use Rattle.bm_rules.specs.Fields.{is_readable}
use Rattle.bm_rules.specs.References as rules
use Rattle.bm_rules.specs.References.{profiles, is_known, action_by_id, pairs_known, has_data, default_known, profile_known, table_known, selector_known}
use Rattle.link_spec.specs.Fields.{field_ref, of_part}
use Rattle.link_spec.specs.Objects.{action_of}
use Rattle.link_spec.specs.Tables.{Side, node_by, node_of, next_to, next_by, next_on, action_place, is_among, table_action, table_actions, action_name, default_of, selector_in, selector_of, table_with, table_of, conditional_of}
use Rattle.link_spec.specs.Linked.{program_of}
use Rattle.link_spec.proofs.Found.{Found, found, of_found, image_at, position_within, unwrapped, unwrapped_within, some_has}
use Rattle.link_spec.proofs.Headers.{HasTypes}
use Rattle.link_spec.proofs.Fields.{readable}
use Rattle.link_spec.proofs.Expressions.{condition_linked}
use Rattle.link_spec.proofs.Tests.{four_hold}
use Rattle.link_spec.proofs.Packets.{reads, all_readable}

-- ---- nodes

-- the tables and conditionals of a pipeline stand among those of a program
pub record IsSide (program : Program) (side : Side) : Type 0 where
  pub tables : side.tables + length side.pipeline.tables ≤ length program.tables
  pub conditionals : side.conditionals + length side.pipeline.conditionals ≤ length program.conditionals

node_there : (program : Program) (side : Side) → IsSide program side → (table conditional : Option ℕ) → IfSome table (λ i. i < length side.pipeline.tables) → IfSome conditional (λ i. i < length side.pipeline.conditionals)
    → IfSome (node_by side table conditional) (IsNode program)
node_there program side s (Some table) conditional h k = let inside : table < length side.pipeline.tables = h in omega (arith, s.tables)
node_there program side s None (Some conditional) h k = let inside : conditional < length side.pipeline.conditionals = k in omega (arith, s.conditionals)
node_there program side s None None h k = tt

-- a name of a node is linked to one of the program's
pub node_linked : (program : Program) (side : Side) → IsSide program side → (name : Option (List ℕ)) → IfSome (node_of side name) (IsNode program)
node_linked program side s None = tt
node_linked program side s (Some name) =
    node_there program side s (place_of (λ x. x.name) name side.pipeline.tables) (place_of (λ x. x.name) name side.pipeline.conditionals)
    (position_within (λ x. bytes_eq x.name name) side.pipeline.tables (length side.pipeline.tables) refl)
    (position_within (λ x. bytes_eq x.name name) side.pipeline.conditionals (length side.pipeline.conditionals) refl)

next_there : (program : Program) (node : Option Node) → IfSome node (IsNode program) → IsNext program (next_to node)
next_there program None h = All-nil (IsNode program)
next_there program (Some node) h = All-cons (IsNode program) node [] h (All-nil (IsNode program))

next_named : (program : Program) (side : Side) → IsSide program side → (next : Option NextTable) → IsNext program (next_by side next)
next_named program side s None = All-nil (IsNode program)
next_named program side s (Some next) = next_there program (node_of side next.node) (node_linked program side s next.node)

-- what follows an outcome is there
next_linked : (program : Program) (side : Side) → IsSide program side → (table : raw_tables.Table) (outcome : List ℕ) → IsNext program (next_on side table outcome)
next_linked program side s table outcome = next_named program side s (named (λ next. next.outcome) outcome table.next_tables)

-- ---- actions

name_known : (name : List ℕ) (action : Option raw_actions.Action) → rules.has_name name action ≡ true → is_some action ≡ true
name_known name None h = absurd cc
name_known name (Some action) h = refl

data_known : (count : ℕ) (action : Option raw_actions.Action) → has_data count action ≡ true → is_some action ≡ true
data_known count None h = absurd cc
data_known count (Some action) h = refl

-- the action of an id that is known is there
action_within : (raw : RawProgram) (info : Info) (id : ℕ) → is_some (action_by_id raw id) ≡ true → action_place raw id < length (program_of raw info).actions
action_within raw info id known =
    subst (λ n. action_place raw id < n) (sym (length-map raw.actions (action_of raw info))) (unwrapped_within (λ action. action.id == id) raw.actions known)

actions_linked : (raw : RawProgram) (info : Info) (side : Side) → IsSide (program_of raw info) side → (table : raw_tables.Table) (given : Option info_tables.Table) (before : List (List ℕ)) (pairs : List (ℕ × List ℕ))
    → list_all (λ pair. rules.has_name pair.1 (action_by_id raw pair.0)) pairs ≡ true → All (IsTableAction (program_of raw info)) (table_actions raw info side table given before pairs)
actions_linked raw info side s table given before [] known = All-nil (IsTableAction (program_of raw info))
actions_linked raw info side s table given before (pair ∷ pairs) known =
    let k = and_parts (rules.has_name pair.1 (action_by_id raw pair.0)) (list_all (λ pair. rules.has_name pair.1 (action_by_id raw pair.0)) pairs) known in
    All-cons (IsTableAction (program_of raw info)) (table_action raw info side table given before pair) (table_actions raw info side table given (pair.1 ∷ before) pairs)
    (record { place = action_within raw info pair.0 (name_known pair.1 (action_by_id raw pair.0) k.0); next = next_linked (program_of raw info) side s table pair.1 })
    (actions_linked raw info side s table given (pair.1 ∷ before) pairs k.1)

default_next : (program : Program) (side : Side) → IsSide program side → (table : raw_tables.Table) (name : List ℕ) (among : Bool) → IsNext program (cond among (next_on side table name) nexts.NotNamed)
default_next program side s table name true = next_linked program side s table name
default_next program side s table name false = All-nil (IsNode program)

as_many : (count n m : ℕ) → (n == count) ≡ true → m ≡ count → m ≡ n
as_many count n m same e = e ∙ sym (eqb-true n count same)

data_given : (raw : RawProgram) (info : Info) (id count given : ℕ) → has_data count (action_by_id raw id) ≡ true → given ≡ count
    → IsSomeAnd (slice_get (map (action_of raw info) raw.actions) (action_place raw id)) (λ action. given ≡ length action.runtime_data)
data_given raw info id count given known same =
    let f : Found raw_actions.Action (λ action. action.id == id) raw.actions = found (λ action. action.id == id) raw.actions (data_known count (action_by_id raw id) known) in
    let here : has_data count (Some f.object) ≡ true = ap (has_data count) (sym f.is) ∙ known in
    some_has (λ action. given ≡ length action.runtime_data) (slice_get (map (action_of raw info) raw.actions) (action_place raw id)) (action_of raw info f.object)
    (ap (slice_get (map (action_of raw info) raw.actions)) (unwrapped (λ action. action.id == id) raw.actions f) ∙ image_at (action_of raw info) raw.actions f.place f.object f.there)
    (as_many count (length f.object.runtime_data) given here same ∙ sym (length-map f.object.runtime_data _))

default_linked : (raw : RawProgram) (info : Info) (side : Side) → IsSide (program_of raw info) side → (table : raw_tables.Table) (given : Option info_tables.Table) (entry : Option raw_defaults.DefaultEntry) → default_known raw entry ≡ true
    → IfSome (option_map (default_of raw info side table given) entry) (IsDefaultEntry (program_of raw info))
default_linked raw info side s table given None known = tt
default_linked raw info side s table given (Some entry) known =
    record {
      action = record {
        place = action_within raw info entry.action_id (data_known (length entry.action_data) (action_by_id raw entry.action_id) known);
        next = default_next (program_of raw info) side s table (action_name raw entry.action_id) (is_among table.actions (action_name raw entry.action_id));
      };
      action_data = data_given raw info entry.action_id (length entry.action_data) (length (map (of_part 0 (λ value. value)) entry.action_data)) known (length-map entry.action_data (of_part 0 (λ value. value)));
    }

-- ---- selectors

-- what is asked of an action profile
pub record ProfileKept (raw : RawProgram) (profile : ActionProfile) : Type 0 where
  pub known : selector_known raw profile.selector ≡ true
  pub kept : selector_left_out profile.selector ≡ false

selector_read : (raw : RawProgram) (info : Info) → HasTypes raw → (selector : Option Selector) → selector_known raw selector ≡ true → selector_left_out selector ≡ false → All (IsRead (program_of raw info)) (selector_in raw selector)
selector_read raw info types None known kept = All-nil (IsRead (program_of raw info))
selector_read raw info types (Some selector) known kept = all_readable raw info types selector.input known kept

profile_read : (raw : RawProgram) (info : Info) → HasTypes raw → (profile : Option ActionProfile) → IfSome profile (ProfileKept raw)
    → All (IsRead (program_of raw info)) (selector_in raw (option_and_then (λ profile. profile.selector) profile))
profile_read raw info types None h = All-nil (IsRead (program_of raw info))
profile_read raw info types (Some profile) h = let k : ProfileKept raw profile = h in selector_read raw info types profile.selector k.known k.kept

if_found : {X : Type 0} (P : X → Type 0) (p : X → Bool) (xs : List X) → All P xs → (o : Option X) → find p xs ≡ o → IfSome o P
if_found P p xs all None e = tt
if_found P p xs all (Some x) e = of_found P p xs x all e

selector_linked : (raw : RawProgram) (info : Info) → HasTypes raw → All (ProfileKept raw) (profiles raw) → (name : Option (List ℕ)) → All (IsRead (program_of raw info)) (selector_of raw name)
selector_linked raw info types each None = All-nil (IsRead (program_of raw info))
selector_linked raw info types each (Some name) =
    profile_read raw info types (named (λ profile. profile.name) name (profiles raw))
    (if_found (ProfileKept raw) (λ profile. bytes_eq profile.name name) (profiles raw) each (named (λ profile. profile.name) name (profiles raw)) refl)

-- ---- tables and conditionals

-- what is asked of a table
pub record TableKept (raw : RawProgram) (table : raw_tables.Table) : Type 0 where
  pub known : table_known raw table ≡ true
  pub limit : nat_lt 16 (length table.key) ≡ false

with_table : (raw : RawProgram) (info : Info) → HasTypes raw → All (ProfileKept raw) (profiles raw) → (side : Side) → IsSide (program_of raw info) side → (table : raw_tables.Table) → TableKept raw table
    → (given : Option info_tables.Table) → IsTable (program_of raw info) (table_with raw info side table given)
with_table raw info types each side s table t given =
    let k = four_hold (list_all (λ key. is_readable raw key.target) table.key) (pairs_known raw table.action_ids table.actions) (profile_known raw table.action_profile) (default_known raw table.default_entry) t.known in
    record {
      limit = omega (arith, length-map table.key (λ key. field_ref raw key.target), ltb-false 16 (length table.key) t.limit);
      key = All-map (IsRead (program_of raw info)) (λ key. field_ref raw key.target) table.key
          (λ i d l. readable raw info types (slice_index_or table.key i d).target (AllPass-from_list_all (λ key. is_readable raw key.target) table.key k.0 i d l));
      actions = actions_linked raw info side s table given [] (zip table.action_ids table.actions) k.1;
      hit = next_linked (program_of raw info) side s table _;
      miss = next_linked (program_of raw info) side s table _;
      base_default_next = node_linked (program_of raw info) side s table.base_default_next;
      default_entry = default_linked raw info side s table given table.default_entry k.3;
      selector = selector_linked raw info types each table.action_profile;
    }

-- a table is linked to one that names what there is
pub table_linked : (raw : RawProgram) (info : Info) → HasTypes raw → All (ProfileKept raw) (profiles raw) → (side : Side) → IsSide (program_of raw info) side → (table : raw_tables.Table) → TableKept raw table
    → IsTable (program_of raw info) (table_of raw info side table)
table_linked raw info types each side s table t = with_table raw info types each side s table t (named (λ x. x.preamble.name) table.name info.tables)

-- what is asked of a conditional
pub record ConditionalKept (raw : RawProgram) (conditional : raw_conditionals.Conditional) : Type 0 where
  pub known : is_known raw 0 conditional.expression ≡ true
  pub typed : is_condition conditional.expression ≡ true
  pub sound : IsSoundTree conditional.expression

-- a conditional is linked to one that names what there is
pub conditional_linked : (raw : RawProgram) (info : Info) → HasTypes raw → (side : Side) → IsSide (program_of raw info) side → (conditional : raw_conditionals.Conditional) → ConditionalKept raw conditional
    → IsConditional (program_of raw info) (conditional_of raw side conditional)
conditional_linked raw info types side s conditional c =
    record {
      expression = condition_linked raw (program_of raw info) (reads raw info types 0) conditional.expression c.typed c.known c.sound;
      true_next = node_linked (program_of raw info) side s conditional.true_next;
      false_next = node_linked (program_of raw info) side s conditional.false_next;
    }
