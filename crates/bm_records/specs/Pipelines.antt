-- Tables, action profiles, conditionals and pipelines (BMv2 JSON form, "pipelines").
use Rattle.std.specs.Prelude.{ℕ, ◌==◌, if◌then◌else◌, List, [], ◌∷◌, length, Option, Some, None, is_some, codes, ⊤}
use Rattle.std.specs.Str.{bytes_eq}
use Rattle.p4_types.specs.declared.info.MatchKind.{MatchKind}
use Rattle.p4_types.specs.declared.info.MatchKind.TheVariants as match_kinds
use Rattle.serde_json.specs.Data.{Data, Members, no_members, member}
use Rattle.serde_json.specs.Find.{get, as_null, as_str, as_object}
use Rattle.bm_records.specs.declared.raw.KeyField.{KeyField}
use Rattle.bm_records.specs.declared.raw.TableKind.{TableKind}
use Rattle.bm_records.specs.declared.raw.TableKind.TheVariants as table_kinds
use Rattle.bm_records.specs.declared.raw.NextTable.{NextTable}
use Rattle.bm_records.specs.declared.raw.DefaultEntry.{DefaultEntry}
use Rattle.bm_records.specs.declared.raw.Table.{Table}
use Rattle.bm_records.specs.declared.raw.Selector.{Selector}
use Rattle.bm_records.specs.declared.raw.ActionProfile.{ActionProfile}
use Rattle.bm_records.specs.declared.raw.Conditional.{Conditional}
use Rattle.bm_records.specs.declared.raw.Gress.{Gress}
use Rattle.bm_records.specs.declared.raw.Gress.TheVariants as gresses
use Rattle.bm_records.specs.declared.raw.Pipeline.{Pipeline}
use Rattle.bm_records.specs.declared.raw.Pipelines.{Pipelines}
use Rattle.list_types.specs.Options.{◌>>=◌}
use Rattle.json_shapes.specs.Shapes.{natural_of, required, nullable, optional, list_of, list_or_empty, unless_absent, nothing_in, filled}
use Rattle.json_shapes.specs.Arrays.{item_count, item_at, of_count}
use Rattle.bm_values.specs.Literals.{literal_of}
use Rattle.bm_values.specs.Values.{field_name, field_value}
use Rattle.bm_values.specs.Expressions.{expression_of}

-- the kind of a match, by its `match_type`
abbrev pub match_kind : List ℕ → Option MatchKind
match_kind text =
    if bytes_eq text (codes "exact") then Some match_kinds.Exact
    else if bytes_eq text (codes "lpm") then Some match_kinds.Lpm
    else if bytes_eq text (codes "ternary") then Some match_kinds.Ternary
    else if bytes_eq text (codes "range") then Some match_kinds.Range
    else if bytes_eq text (codes "optional") then Some match_kinds.Optional
    else None

-- a field of a key, without a mask
unfoldable pub key_field_of : Data → Option KeyField
key_field_of d = do
  text ← required as_str (codes "match_type") d
  kind ← match_kind text
  target ← required field_name (codes "target") d
  _ ← unless_absent as_null (codes "mask") d
  Some (record { kind = kind; target = target })

-- the kind of a table, by its `type`
abbrev pub table_kind : List ℕ → Option TableKind
table_kind text =
    if bytes_eq text (codes "simple") then Some table_kinds.Simple
    else if bytes_eq text (codes "indirect") then Some table_kinds.Indirect
    else if bytes_eq text (codes "indirect_ws") then Some table_kinds.IndirectWithSelector
    else None

-- an indirect table names its action profile
abbrev pub profile_by : TableKind → Data → Option (Option (List ℕ))
profile_by table_kinds.Simple d = Some None
profile_by _ d = required as_str (codes "action_profile") d >>= λ name. Some (Some name)

-- what follows on an outcome: a node, or the end of the pipeline where null stands
abbrev pub next_table : List ℕ → Data → Option NextTable
next_table outcome d = nullable as_str d >>= λ node. Some (record { outcome = outcome; node = node })

-- what follows on each outcome
abbrev pub each_next : Members → Option (List NextTable)
each_next no_members = Some []
each_next (member outcome d ms) = next_table outcome d >>= λ next. each_next ms >>= λ others. Some (next ∷ others)

-- what `next_tables` names; null stands for an empty one
abbrev pub nexts_in : Option Data → Option (List NextTable)
nexts_in None = Some []
nexts_in (Some d) = if is_some (as_null d) then Some [] else as_object d >>= each_next

-- what follows a table on each outcome
unfoldable pub next_tables_of : Data → Option (List NextTable)
next_tables_of d = nexts_in (get (codes "next_tables") d)

-- a default entry: the id of its action, and its action data
unfoldable pub default_of : Data → Option DefaultEntry
default_of d = do
  action_id ← required natural_of (codes "action_id") d
  action_data ← required (list_of literal_of) (codes "action_data") d
  Some (record { action_id = action_id; action_data = action_data })

-- there are as many of one as of the other
abbrev pub as_many : ℕ → ℕ → Option ⊤
as_many n m = if n == m then Some tt else None

-- a table with its actions' ids and names side by side
unfoldable pub table_of : Data → Option Table
table_of d = do
  name ← required as_str (codes "name") d
  key ← required (list_of key_field_of) (codes "key") d
  text ← required as_str (codes "type") d
  kind ← table_kind text
  action_profile ← profile_by kind d
  action_ids ← required (list_of natural_of) (codes "action_ids") d
  actions ← required (list_of as_str) (codes "actions") d
  _ ← as_many (length action_ids) (length actions)
  next_tables ← next_tables_of d
  base_default_next ← optional as_str (codes "base_default_next") d
  default_entry ← unless_absent default_of (codes "default_entry") d
  has_entries ← filled (codes "entries") d
  Some (record { name = name; key = key; kind = kind; action_profile = action_profile; action_ids = action_ids; actions = actions; next_tables = next_tables; base_default_next = base_default_next; default_entry = default_entry; has_entries = has_entries })

-- a selector: the fields that are its input
unfoldable pub selector_of : Data → Option Selector
selector_of d = do
  input ← required (list_of field_value) (codes "input") d
  Some (record { input = input })

-- an action profile: its name, and its selector where it has one
unfoldable pub profile_of : Data → Option ActionProfile
profile_of d = do
  name ← required as_str (codes "name") d
  selector ← optional selector_of (codes "selector") d
  Some (record { name = name; selector = selector })

-- a conditional: its name, its expression, and what follows where it is true and where it is false
unfoldable pub conditional_of : Data → Option Conditional
conditional_of d = do
  name ← required as_str (codes "name") d
  expression ← required expression_of (codes "expression") d
  true_next ← required (nullable as_str) (codes "true_next") d
  false_next ← required (nullable as_str) (codes "false_next") d
  Some (record { name = name; expression = expression; true_next = true_next; false_next = false_next })

-- ingress or egress, by the name of a pipeline
abbrev pub gress : List ℕ → Option Gress
gress text =
    if bytes_eq text (codes "ingress") then Some gresses.Ingress
    else if bytes_eq text (codes "egress") then Some gresses.Egress
    else None

-- a pipeline: its side, its first node, its tables, action profiles and conditionals; it has no action calls
unfoldable pub pipeline_of : Data → Option Pipeline
pipeline_of d = do
  text ← required as_str (codes "name") d
  side ← gress text
  init_table ← required (nullable as_str) (codes "init_table") d
  tables ← required (list_of table_of) (codes "tables") d
  action_profiles ← list_or_empty profile_of (codes "action_profiles") d
  conditionals ← list_or_empty conditional_of (codes "conditionals") d
  _ ← nothing_in (codes "action_calls") d
  Some (record { gress = side; init_table = init_table; tables = tables; action_profiles = action_profiles; conditionals = conditionals })

-- two pipelines in either order, one of which is the ingress and one the egress
abbrev pub sides : Gress → Gress → Pipeline → Pipeline → Option Pipelines
sides gresses.Ingress gresses.Egress first second = Some (record { ingress = first; egress = second })
sides gresses.Egress gresses.Ingress first second = Some (record { ingress = second; egress = first })
sides gresses.Ingress gresses.Ingress first second = None
sides gresses.Egress gresses.Egress first second = None

-- an ingress and an egress, in either order, as the first two items
abbrev pub both_at : Data → Option Pipelines
both_at d = do
  first ← item_at pipeline_of 0 d
  second ← item_at pipeline_of 1 d
  sides first.gress second.gress first second

-- an ingress and an egress
unfoldable pub pipelines_of : Data → Option Pipelines
pipelines_of d = item_count d >>= λ n. of_count 2 n (both_at d)
