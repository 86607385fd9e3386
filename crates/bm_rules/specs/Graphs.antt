-- The graphs of the parser and of a pipeline's nodes, by places.
use Rattle.std.specs.Prelude.{ℕ, zero, suc, ◌+◌, Bool, List, [], ◌∷◌, ◌++◌, length, map, Option, Some, None, slice_get}
use Rattle.std.specs.List.{list_any, flat_map}
use Rattle.bm_records.specs.declared.raw.ParseState.{ParseState}
use Rattle.bm_records.specs.declared.raw.Table.{Table}
use Rattle.bm_records.specs.declared.raw.Conditional.{Conditional}
use Rattle.bm_records.specs.declared.raw.Pipeline.{Pipeline}
use Rattle.bm_pipeline.specs.Graph.{has_path}
use Rattle.bm_rules.specs.Names.{place_of}

-- the nodes of a list, or none
abbrev pub or_none : Option (List ℕ) → List ℕ
or_none None = []
or_none (Some nodes) = nodes

-- the nodes that a node leads to, by the list of each node's
abbrev pub leads : List (List ℕ) → ℕ → List ℕ
leads edges node = or_none (slice_get edges node)

-- the places below a number
abbrev pub places : ℕ → List ℕ
places zero = []
places (suc n) = n ∷ places n

-- a graph has a loop: some path has as many edges as there are nodes
abbrev pub has_loop : List (List ℕ) → Bool
has_loop edges = list_any (has_path (leads edges) (length edges)) (places (length edges))

-- a place as a list, or none
abbrev pub as_places : Option ℕ → List ℕ
as_places None = []
as_places (Some place) = place ∷ []

-- the place of the state that is led to, where one is named
abbrev pub next_state : List ParseState → Option (List ℕ) → Option ℕ
next_state states None = None
next_state states (Some name) = place_of (λ x. x.name) name states

-- the states that each state leads to
abbrev pub state_edges : List ParseState → List (List ℕ)
state_edges states = map (λ state. flat_map (λ transition. as_places (next_state states transition.next_state)) state.transitions) states

-- the place of a node by those of a table and of a conditional: tables, of which there are so many, stand before conditionals
abbrev pub node_by : ℕ → Option ℕ → Option ℕ → Option ℕ
node_by tables (Some table) conditional = Some table
node_by tables None (Some conditional) = Some (tables + conditional)
node_by tables None None = None

-- the place of a node of a pipeline; a table goes before a conditional of its name
abbrev pub node_place : Pipeline → List ℕ → Option ℕ
node_place pipeline name = node_by (length pipeline.tables) (place_of (λ x. x.name) name pipeline.tables) (place_of (λ x. x.name) name pipeline.conditionals)

-- the place of a node, where one is named
abbrev pub optional_node : Pipeline → Option (List ℕ) → Option ℕ
optional_node pipeline None = None
optional_node pipeline (Some name) = node_place pipeline name

-- the nodes that a table leads to
abbrev pub table_edges : Pipeline → Table → List ℕ
table_edges pipeline table = flat_map (λ next. as_places (optional_node pipeline next.node)) table.next_tables ++ as_places (optional_node pipeline table.base_default_next)

-- the nodes that a conditional leads to
abbrev pub conditional_edges : Pipeline → Conditional → List ℕ
conditional_edges pipeline conditional = as_places (optional_node pipeline conditional.true_next) ++ as_places (optional_node pipeline conditional.false_next)

-- the nodes that each node of a pipeline leads to
abbrev pub node_edges : Pipeline → List (List ℕ)
node_edges pipeline = map (table_edges pipeline) pipeline.tables ++ map (conditional_edges pipeline) pipeline.conditionals
