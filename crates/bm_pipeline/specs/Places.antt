-- What stands at the places that a program names.
use Rattle.std.specs.Prelude.{ℕ, ◌+◌, ◌/◌, List, [], ◌∷◌, ◌++◌, length, Option, Some, None, slice_get, sum_by}
use Rattle.std.specs.List.{filter_map, flat_map}
use Rattle.bm_expr.specs.declared.fitting.Counts.{Counts}
use Rattle.bm_pipeline.specs.declared.headers.FieldRef.{FieldRef}
use Rattle.bm_pipeline.specs.declared.headers.FieldRef.TheVariants as refs
use Rattle.bm_pipeline.specs.declared.parser.ParseState.{ParseState}
use Rattle.bm_pipeline.specs.declared.program.Program.{Program}
use Rattle.bm_pipeline.specs.declared.tables.Conditional.{Conditional}
use Rattle.bm_pipeline.specs.declared.tables.DefaultEntry.{DefaultEntry}
use Rattle.bm_pipeline.specs.declared.tables.Next.{Next}
use Rattle.bm_pipeline.specs.declared.tables.Next.TheVariants as nexts
use Rattle.bm_pipeline.specs.declared.tables.Node.{Node}
use Rattle.bm_pipeline.specs.declared.tables.Node.TheVariants as nodes
use Rattle.bm_pipeline.specs.declared.tables.Table.{Table}

-- how many fields and headers a program has, beside so many data
abbrev pub counts : Program → ℕ → Counts
counts program args = record { fields = program.fields; headers = length program.headers; args = args }

-- the width in bits of what is read as a field
abbrev pub width_of : FieldRef → ℕ
width_of (refs.Field place) = place.width
width_of (refs.Valid header) = 1

-- how many whole bytes a number of so many bits takes
abbrev pub whole_bytes : ℕ → ℕ
whole_bytes width = (width + 7) / 8

-- how many bytes the fields of a key take, each in whole bytes
abbrev pub key_bytes : List FieldRef → ℕ
key_bytes fields = sum_by (λ field. whole_bytes (width_of field)) fields

-- a node as a list, or none
abbrev pub as_nodes : Option Node → List Node
as_nodes None = []
as_nodes (Some node) = node ∷ []

-- the node that an outcome leads to, as a list
abbrev pub next_nodes : Next → List Node
next_nodes nexts.NotNamed = []
next_nodes nexts.End = []
next_nodes (nexts.Node node) = node ∷ []

-- what follows a table's own default action, as a list
abbrev pub default_nodes : Option DefaultEntry → List Node
default_nodes None = []
default_nodes (Some default) = next_nodes default.action.next

-- all nodes that a table leads to
abbrev pub after_table : Option Table → List Node
after_table None = []
after_table (Some table) = next_nodes table.hit ++ next_nodes table.miss ++ flat_map (λ action. next_nodes action.next) table.actions
    ++ default_nodes table.default_entry ++ as_nodes table.base_default_next

-- both nodes that a conditional leads to
abbrev pub after_conditional : Option Conditional → List Node
after_conditional None = []
after_conditional (Some conditional) = as_nodes conditional.true_next ++ as_nodes conditional.false_next

-- the nodes that a node leads to
abbrev pub after_node : Program → Node → List Node
after_node program (nodes.Table place) = after_table (slice_get program.tables place)
after_node program (nodes.Conditional place) = after_conditional (slice_get program.conditionals place)

-- how many nodes a program has
abbrev pub node_count : Program → ℕ
node_count program = length program.tables + length program.conditionals

-- the states that a state leads to
abbrev pub after_state_in : Option ParseState → List ℕ
after_state_in None = []
after_state_in (Some state) = filter_map (λ transition. transition.next_state) state.transitions

-- the same of the state at a place
abbrev pub after_state : Program → ℕ → List ℕ
after_state program place = after_state_in (slice_get program.parser.parse_states place)
