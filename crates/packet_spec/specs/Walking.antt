-- The walk of a packet through tables and conditionals (P4-16, "Match-action pipelines"; BMv2 JSON form, "pipelines").
use Rattle.std.specs.Prelude.{◌≡◌, ℕ, zero, suc, ◌+◌, nat_lt, if◌then◌else◌, List, [], ◌∷◌, ◌++◌, take, slice_get, sum_by, Option, Some, None}
use Rattle.std.specs.List.{flat_map}
use Rattle.bm_expr.specs.Meaning.{truth_value}
use Rattle.bm_expr.specs.Store.{Contents}
use Rattle.bm_pipeline.specs.declared.actions.Action.{Action}
use Rattle.bm_pipeline.specs.declared.tables.Conditional.{Conditional}
use Rattle.bm_pipeline.specs.declared.tables.Next.{Next}
use Rattle.bm_pipeline.specs.declared.tables.Next.TheVariants as nexts
use Rattle.bm_pipeline.specs.declared.tables.Node.{Node}
use Rattle.bm_pipeline.specs.declared.tables.Node.TheVariants as nodes
use Rattle.bm_pipeline.specs.declared.tables.Table.{Table}
use Rattle.p4_types.specs.declared.info.Counter.{Counter}
use Rattle.p4_types.specs.declared.records.HitMark.{HitMark}
use Rattle.p4_types.specs.declared.records.HitMark.TheVariants as marks
use Rattle.p4_types.specs.declared.table.Entry.{Entry}
use Rattle.packet_spec.specs.Choosing.{Called, found, acts}
use Rattle.plane_spec.specs.Planes.{Plane}
use Rattle.program_spec.specs.Actions.{Effects, Counted, action_done}

-- where a walk stands: the packet's store, the last digest list that was named, and what was hit so far, in order
pub record Walk : Type 0 where
  pub store : Contents
  pub learned : Option ℕ
  pub hits : List HitMark

-- how many cells the indirect counters before this one have
abbrev pub cells_before : ℕ → Plane → ℕ
cells_before counter plane = sum_by (λ other. other.size) (take counter plane.config.info.counters)

-- the cell of a counter at an index, if it has one there
abbrev pub cell_in : Option Counter → ℕ → Plane → Counted → List HitMark
cell_in None first plane count = []
cell_in (Some counter) first plane count = if nat_lt count.index counter.size then marks.Cell (first + count.index) ∷ [] else []

-- what a count hits: a cell of its counter, or nothing where the index is beyond the counter's size
abbrev pub cell_hit : Plane → Counted → List HitMark
cell_hit plane count = cell_in (slice_get plane.config.info.counters count.counter) (plane.cells + cells_before count.counter plane) plane count

-- what a table that found this hits
abbrev pub entry_hit : Option Entry → List HitMark
entry_hit None = []
entry_hit (Some entry) = marks.Entry entry.name.table entry.seq entry.slot ∷ []

-- the effects of an action, if there is one, on a store
abbrev pub run_if : Plane → Option Action → List ℕ → Effects → Effects
run_if plane None args effects = effects
run_if plane (Some action) args effects = action_done plane.config.program action args effects

-- the effects of what a table calls
abbrev pub ran : Plane → Option Called → Effects → Effects
ran plane None effects = effects
ran plane (Some call) effects = run_if plane (slice_get plane.config.program.actions call.action.action) call.args effects

-- what a table's action starts from
abbrev pub starting : Walk → Effects
starting walk = record { store = walk.store; counted = []; learned = walk.learned }

-- the walk behind a table that found this entry and whose action had these effects
abbrev pub behind : Plane → Walk → Option Entry → Effects → Walk
behind plane walk entry effects = record { store = effects.store; learned = effects.learned; hits = walk.hits ++ entry_hit entry ++ flat_map (cell_hit plane) effects.counted }

-- what follows a named outcome, or else what is given
abbrev pub named_or : Next → Option Node → Option Node
named_or nexts.NotNamed other = other
named_or nexts.End other = None
named_or (nexts.Node node) other = Some node

-- what follows by the action's name
abbrev pub next_of_call : Option Called → Next
next_of_call None = nexts.NotNamed
next_of_call (Some call) = call.action.next

-- what follows a hit or a miss
abbrev pub next_of_outcome : Table → Option Entry → Next
next_of_outcome table None = table.miss
next_of_outcome table (Some entry) = table.hit

-- what follows a table: by `__HIT__` or `__MISS__` where it is named, else by the action's name, else what always follows
abbrev pub next_of_table : Table → Option Entry → Option Called → Option Node
next_of_table table entry call = named_or (next_of_outcome table entry) (named_or (next_of_call call) table.base_default_next)

-- the walk behind a node, and the next node
pub record Turn : Type 0 where
  pub walk : Walk
  pub next : Option Node

-- a table that found this entry and calls this
abbrev pub turned : Plane → Table → Walk → Option Entry → Option Called → Turn
turned plane table walk entry call = record { walk = behind plane walk entry (ran plane call (starting walk)); next = next_of_table table entry call }

-- a table: it takes an entry, runs an action and leads on; one that is missing leads nowhere
abbrev pub table_done : Plane → Option Table → Walk → Turn
table_done plane None walk = record { walk = walk; next = None }
table_done plane (Some table) walk = turned plane table walk (found plane table walk.store) (acts plane table (found plane table walk.store) walk.store)

-- a conditional
abbrev pub conditional_done : Option Conditional → Walk → Turn
conditional_done None walk = record { walk = walk; next = None }
conditional_done (Some conditional) walk = record { walk = walk; next = if truth_value walk.store [] conditional.expression then conditional.true_next else conditional.false_next }

-- what a node does
abbrev pub node_done : Plane → Node → Walk → Turn
node_done plane (nodes.Table place) walk = table_done plane (slice_get plane.config.program.tables place) walk
node_done plane (nodes.Conditional place) walk = conditional_done (slice_get plane.config.program.conditionals place) walk

-- a walk goes from a node, if there is one, through these nodes in order, to their end
abbrev pub Walks : Plane → Option Node → List Node → Walk → Walk → Type 0
Walks plane next [] walk end = (next ≡ None) × (end ≡ walk)
Walks plane next (node ∷ path) walk end = (next ≡ Some node) × Walks plane (node_done plane node walk).next path (node_done plane node walk).walk end

-- The same as a function, through at most so many nodes. A graph without a loop never has more.
abbrev pub walk_from : Plane → ℕ → Option Node → Walk → Walk
walk_from plane zero next walk = walk
walk_from plane (suc more) None walk = walk
walk_from plane (suc more) (Some node) walk = walk_from plane more (node_done plane node walk).next (node_done plane node walk).walk
