-- Tables and conditionals of both pipelines, by places: those of ingress stand before those of egress.
use Rattle.std.specs.Prelude.{ℕ, ◌+◌, ◌==◌, Bool, false, if◌then◌else◌, List, [], ◌∷◌, ◌++◌, length, map, Option, Some, None, unwrap_or, option_map, option_and_then, codes}
use Rattle.std.specs.List.{find, position, zip, list_any}
use Rattle.std.specs.Str.{bytes_eq}
use Rattle.p4_types.specs.declared.info.Info.{Info}
use Rattle.p4_types.specs.declared.info.Table as info_tables
use Rattle.p4_types.specs.declared.info.Action as info_actions
use Rattle.p4info_model.specs.Lookups.{action_at}
use Rattle.bm_records.specs.declared.raw.RawProgram.{RawProgram}
use Rattle.bm_records.specs.declared.raw.Pipeline as raw_pipelines
use Rattle.bm_records.specs.declared.raw.Table as raw_tables
use Rattle.bm_records.specs.declared.raw.NextTable.{NextTable}
use Rattle.bm_records.specs.declared.raw.Conditional as raw_conditionals
use Rattle.bm_records.specs.declared.raw.DefaultEntry as raw_defaults
use Rattle.bm_records.specs.declared.raw.Selector.{Selector}
use Rattle.bm_pipeline.specs.declared.headers.FieldRef.{FieldRef}
use Rattle.bm_pipeline.specs.declared.tables.Node.{Node}
use Rattle.bm_pipeline.specs.declared.tables.Node.TheVariants as nodes
use Rattle.bm_pipeline.specs.declared.tables.Next.{Next}
use Rattle.bm_pipeline.specs.declared.tables.Next.TheVariants as nexts
use Rattle.bm_pipeline.specs.declared.tables.TableAction.{TableAction}
use Rattle.bm_pipeline.specs.declared.tables.DefaultEntry.{DefaultEntry}
use Rattle.bm_pipeline.specs.declared.tables.Table.{Table}
use Rattle.bm_pipeline.specs.declared.tables.Conditional.{Conditional}
use Rattle.bm_rules.specs.Names.{named, place_of}
use Rattle.bm_rules.specs.References.{profiles}
use Rattle.link_spec.specs.Fields.{field_ref, part_ref, of_part}
use Rattle.link_spec.specs.Expressions.{truth_of}

-- a pipeline, and how many tables and conditionals stand before its own
pub record Side : Type 0 where
  pub pipeline : raw_pipelines.Pipeline
  pub tables : ℕ
  pub conditionals : ℕ

-- the ingress
abbrev pub ingress : RawProgram → Side
ingress raw = record { pipeline = raw.pipelines.ingress; tables = 0; conditionals = 0 }

-- the egress, behind the ingress
abbrev pub egress : RawProgram → Side
egress raw = record { pipeline = raw.pipelines.egress; tables = length raw.pipelines.ingress.tables; conditionals = length raw.pipelines.ingress.conditionals }

-- a node by the places of a table and of a conditional in a pipeline
abbrev pub node_by : Side → Option ℕ → Option ℕ → Option Node
node_by side (Some table) conditional = Some (nodes.Table (side.tables + table))
node_by side None (Some conditional) = Some (nodes.Conditional (side.conditionals + conditional))
node_by side None None = None

-- the node of a name; a table goes before a conditional of its name
abbrev pub node_named : Side → List ℕ → Option Node
node_named side name = node_by side (place_of (λ x. x.name) name side.pipeline.tables) (place_of (λ x. x.name) name side.pipeline.conditionals)

-- the node of a name, where one is given
abbrev pub node_of : Side → Option (List ℕ) → Option Node
node_of side name = option_and_then (node_named side) name

-- a node that follows, or the end
abbrev pub next_to : Option Node → Next
next_to None = nexts.End
next_to (Some node) = nexts.Node node

-- what follows on an outcome that is named, or is not
abbrev pub next_by : Side → Option NextTable → Next
next_by side None = nexts.NotNamed
next_by side (Some next) = next_to (node_of side next.node)

-- what follows a table on an outcome
abbrev pub next_on : Side → raw_tables.Table → List ℕ → Next
next_on side table outcome = next_by side (named (λ next. next.outcome) outcome table.next_tables)

-- an action of the P4Info has a name
abbrev pub has_name : List ℕ → Option info_actions.Action → Bool
has_name name None = false
has_name name (Some action) = bytes_eq action.preamble.name name

-- the id of a table's action reference of a name in the P4Info
abbrev pub reference_in : Info → List ℕ → Option info_tables.Table → Option ℕ
reference_in info name None = None
reference_in info name (Some table) = option_map (λ reference. reference.id) (find (λ reference. has_name name (action_at info reference.id)) table.action_refs)

-- the place of the action of an id
abbrev pub action_place : RawProgram → ℕ → ℕ
action_place raw id = unwrap_or (position (λ action. action.id == id) raw.actions) 0

-- the name is one of these
abbrev pub is_among : List (List ℕ) → List ℕ → Bool
is_among names name = list_any (λ other. bytes_eq other name) names

-- an action of a table: just the first of a name has a reference
abbrev pub table_action : RawProgram → Info → Side → raw_tables.Table → Option info_tables.Table → List (List ℕ) → ℕ × List ℕ → TableAction
table_action raw info side table given before pair =
    record { action = action_place raw pair.0; reference = if is_among before pair.1 then None else reference_in info pair.1 given; next = next_on side table pair.1 }

-- the actions of a table, behind those of these names
abbrev pub table_actions : RawProgram → Info → Side → raw_tables.Table → Option info_tables.Table → List (List ℕ) → List (ℕ × List ℕ) → List TableAction
table_actions raw info side table given before [] = []
table_actions raw info side table given before (pair ∷ pairs) = table_action raw info side table given before pair ∷ table_actions raw info side table given (pair.1 ∷ before) pairs

-- the name of the action of an id, empty where there is none
abbrev pub action_name : RawProgram → ℕ → List ℕ
action_name raw id = unwrap_or (option_map (λ action. action.name) (find (λ action. action.id == id) raw.actions)) []

-- the action of a default entry, with what follows it where its name is one of the table's
abbrev pub default_action : RawProgram → Info → Side → raw_tables.Table → Option info_tables.Table → ℕ → TableAction
default_action raw info side table given id =
    record {
      action = action_place raw id;
      reference = reference_in info (action_name raw id) given;
      next = if is_among table.actions (action_name raw id) then next_on side table (action_name raw id) else nexts.NotNamed;
    }

-- a default entry
abbrev pub default_of : RawProgram → Info → Side → raw_tables.Table → Option info_tables.Table → raw_defaults.DefaultEntry → DefaultEntry
default_of raw info side table given entry = record { action = default_action raw info side table given entry.action_id; action_data = map (of_part 0 (λ value. value)) entry.action_data }

-- the fields of a selector, none where there is no selector
abbrev pub selector_in : RawProgram → Option Selector → List FieldRef
selector_in raw None = []
selector_in raw (Some selector) = map (part_ref raw) selector.input

-- the selector of an action profile, where there is one
abbrev pub selector_of : RawProgram → Option (List ℕ) → List FieldRef
selector_of raw None = []
selector_of raw (Some name) = selector_in raw (option_and_then (λ profile. profile.selector) (named (λ profile. profile.name) name (profiles raw)))

-- a table, with the table of its name in the P4Info where there is one
abbrev pub table_with : RawProgram → Info → Side → raw_tables.Table → Option info_tables.Table → Table
table_with raw info side table given =
    record {
      id = option_map (λ x. x.preamble.id) given;
      key = map (λ key. field_ref raw key.target) table.key;
      actions = table_actions raw info side table given [] (zip table.action_ids table.actions);
      hit = next_on side table (codes "__HIT__");
      miss = next_on side table (codes "__MISS__");
      base_default_next = node_of side table.base_default_next;
      default_entry = option_map (default_of raw info side table given) table.default_entry;
      selector = selector_of raw table.action_profile;
    }

-- a table
abbrev pub table_of : RawProgram → Info → Side → raw_tables.Table → Table
table_of raw info side table = table_with raw info side table (named (λ x. x.preamble.name) table.name info.tables)

-- a conditional
abbrev pub conditional_of : RawProgram → Side → raw_conditionals.Conditional → Conditional
conditional_of raw side conditional = record { expression = truth_of raw conditional.expression; true_next = node_of side conditional.true_next; false_next = node_of side conditional.false_next }

-- all tables
abbrev pub tables_of : RawProgram → Info → List Table
tables_of raw info = map (table_of raw info (ingress raw)) raw.pipelines.ingress.tables ++ map (table_of raw info (egress raw)) raw.pipelines.egress.tables

-- all conditionals
abbrev pub conditionals_of : RawProgram → List Conditional
conditionals_of raw = map (conditional_of raw (ingress raw)) raw.pipelines.ingress.conditionals ++ map (conditional_of raw (egress raw)) raw.pipelines.egress.conditionals
