-- A walk goes by one path of nodes.
use Rattle.std.proofs.Common.{subst, ◌≡◌, ◌∙◌, sym, refl, ℕ, zero, suc, Bool, true, false, cond, ◌||◌, List, [], ◌∷◌, ◌++◌, length, Option, Some, None}
use Rattle.std.specs.Prelude.{slice_get}
use Rattle.std.specs.List.{find, flat_map, list_any}
use Rattle.std.proofs.lemmas.List.Folds.{list_any-append}
use Rattle.bm_expr.specs.Meaning.{truth_value}
use Rattle.bm_expr.specs.Store.{Contents}
use Rattle.bm_pipeline.specs.declared.tables.Conditional.{Conditional}
use Rattle.bm_pipeline.specs.declared.tables.DefaultEntry.{DefaultEntry}
use Rattle.bm_pipeline.specs.declared.tables.Next.{Next}
use Rattle.bm_pipeline.specs.declared.tables.Next.TheVariants as nexts
use Rattle.bm_pipeline.specs.declared.tables.Node.{Node}
use Rattle.bm_pipeline.specs.declared.tables.Node.TheVariants as nodes
use Rattle.bm_pipeline.specs.declared.tables.Table.{Table}
use Rattle.bm_pipeline.specs.declared.tables.TableAction.{TableAction}
use Rattle.bm_pipeline.specs.Graph.{has_path}
use Rattle.bm_pipeline.specs.Places.{next_nodes, as_nodes, default_nodes, after_table, after_conditional, after_node, node_count}
use Rattle.bm_pipeline.specs.Validity.{IsValid}
use Rattle.p4_types.specs.declared.table.ActionCall.{ActionCall}
use Rattle.p4_types.specs.declared.table.DefaultAction.{DefaultAction}
use Rattle.p4_types.specs.declared.table.Entry.{Entry}
use Rattle.packet_spec.specs.Choosing.{Called, found, acts, takes, is_of_id, called_with, called, called_if, default_called, miss_by, miss_called, entry_call, fnv, selector_bytes}
use Rattle.packet_spec.specs.Walking.{Walk, named_or, next_of_call, next_of_outcome, table_done, conditional_done, node_done, Walks, walk_from}
use Rattle.packet_spec.specs.Laws.{WalkEnds, WalkIsOne}
use Rattle.plane_spec.specs.Planes.{Plane, default_in}

left_fails : (a b : Bool) → (a || b) ≡ false → a ≡ false
left_fails false b e = refl
left_fails true b e = absurd cc

right_fails : (a b : Bool) → (a || b) ≡ false → b ≡ false
right_fails false b e = e
right_fails true b e = absurd cc

-- of two lists in a row the first, and the second, has no element that passes, where both together have none
in_first : (passes : Node → Bool) (xs ys : List Node) → list_any passes (xs ++ ys) ≡ false → list_any passes xs ≡ false
in_first passes xs ys none = left_fails (list_any passes xs) (list_any passes ys) (sym (list_any-append passes xs ys) ∙ none)

in_second : (passes : Node → Bool) (xs ys : List Node) → list_any passes (xs ++ ys) ≡ false → list_any passes ys ≡ false
in_second passes xs ys none = right_fails (list_any passes xs) (list_any passes ys) (sym (list_any-append passes xs ys) ∙ none)

-- what an outcome leads to does not pass
abbrev Quiet : (Node → Bool) → Next → Type 0
Quiet passes next = list_any passes (next_nodes next) ≡ false

-- the same of what follows an action of a table, if there is one
abbrev QuietAction : (Node → Bool) → Option TableAction → Type 0
QuietAction passes None = Unit {0}
QuietAction passes (Some action) = Quiet passes action.next

-- the same of a call
abbrev QuietCall : (Node → Bool) → Option Called → Type 0
QuietCall passes None = Unit {0}
QuietCall passes (Some call) = Quiet passes call.action.next

-- the same of the next node
abbrev pub QuietNode : (Node → Bool) → Option Node → Type 0
QuietNode passes None = Unit {0}
QuietNode passes (Some node) = passes node ≡ false

found_or : (passes : Node → Bool) (action : TableAction) (other : Option TableAction) (b : Bool) → Quiet passes action.next → QuietAction passes other → QuietAction passes (cond b (Some action) other)
found_or passes action other true one others = one
found_or passes action other false one others = others

found_quiet : (passes : Node → Bool) (test : TableAction → Bool) (actions : List TableAction) → list_any passes (flat_map (λ action. next_nodes action.next) actions) ≡ false → QuietAction passes (find test actions)
found_quiet passes test [] none = tt
found_quiet passes test (action ∷ actions) none =
    let others : List Node = flat_map (λ (other : TableAction). next_nodes other.next) actions in
    found_or passes action (find test actions) (test action) (in_first passes (next_nodes action.next) others none)
    (found_quiet passes test actions (in_second passes (next_nodes action.next) others none))

with_quiet : (passes : Node → Bool) (call : Called) (b : Bool) → Quiet passes call.action.next → QuietCall passes (cond b (Some call) None)
with_quiet passes call true quiet = quiet
with_quiet passes call false quiet = tt

called_with_quiet : (passes : Node → Bool) (plane : Plane) (args : List ℕ) (o : Option TableAction) → QuietAction passes o → QuietCall passes (called_with plane args o)
called_with_quiet passes plane args None quiet = tt
called_with_quiet passes plane args (Some action) quiet =
    with_quiet passes (record { action = action; args = args }) (takes (length args) (slice_get plane.config.program.actions action.action)) quiet

called_quiet : (passes : Node → Bool) (plane : Plane) (table : Table) (call : ActionCall) → list_any passes (flat_map (λ action. next_nodes action.next) table.actions) ≡ false → QuietCall passes (called plane table call)
called_quiet passes plane table call none =
    called_with_quiet passes plane call.arguments (find (λ action. is_of_id call.action action.reference) table.actions) (found_quiet passes (λ action. is_of_id call.action action.reference) table.actions none)

called_if_quiet : (passes : Node → Bool) (plane : Plane) (table : Table) (call : Option ActionCall) → list_any passes (flat_map (λ action. next_nodes action.next) table.actions) ≡ false → QuietCall passes (called_if plane table call)
called_if_quiet passes plane table None none = tt
called_if_quiet passes plane table (Some call) none = called_quiet passes plane table call none

default_quiet : (passes : Node → Bool) (plane : Plane) (default : Option DefaultEntry) → list_any passes (default_nodes default) ≡ false → QuietCall passes (default_called plane default)
default_quiet passes plane None none = tt
default_quiet passes plane (Some default) none = called_with_quiet passes plane default.action_data (Some default.action) none

miss_by_quiet : (passes : Node → Bool) (plane : Plane) (table : Table) (changed : Option DefaultAction) → list_any passes (flat_map (λ action. next_nodes action.next) table.actions) ≡ false
    → list_any passes (default_nodes table.default_entry) ≡ false → QuietCall passes (miss_by plane table changed)
miss_by_quiet passes plane table None actions default = default_quiet passes plane table.default_entry default
miss_by_quiet passes plane table (Some changed) actions default = called_quiet passes plane table changed.action actions

miss_quiet : (passes : Node → Bool) (plane : Plane) (table : Table) (id : Option ℕ) → list_any passes (flat_map (λ action. next_nodes action.next) table.actions) ≡ false
    → list_any passes (default_nodes table.default_entry) ≡ false → QuietCall passes (miss_called plane table id)
miss_quiet passes plane table None actions default = default_quiet passes plane table.default_entry default
miss_quiet passes plane table (Some id) actions default = miss_by_quiet passes plane table (default_in id plane.changed) actions default

acts_quiet : (passes : Node → Bool) (plane : Plane) (table : Table) (entry : Option Entry) (store : Contents) → list_any passes (flat_map (λ action. next_nodes action.next) table.actions) ≡ false
    → list_any passes (default_nodes table.default_entry) ≡ false → QuietCall passes (acts plane table entry store)
unfolding acts
acts_quiet passes plane table None store actions default = miss_quiet passes plane table table.id actions default
acts_quiet passes plane table (Some entry) store actions default =
    called_if_quiet passes plane table (entry_call plane (fnv (selector_bytes store table.selector)) entry.action) actions

alone : (passes : Node → Bool) (node : Node) → list_any passes (node ∷ []) ≡ false → passes node ≡ false
alone passes node none = left_fails (passes node) false none

named_quiet : (passes : Node → Bool) (next : Next) (other : Option Node) → Quiet passes next → QuietNode passes other → QuietNode passes (named_or next other)
named_quiet passes nexts.NotNamed other one others = others
named_quiet passes nexts.End other one others = tt
named_quiet passes (nexts.Node node) other one others = alone passes node one

call_quiet : (passes : Node → Bool) (call : Option Called) → QuietCall passes call → Quiet passes (next_of_call call)
call_quiet passes None quiet = refl
call_quiet passes (Some call) quiet = quiet

outcome_quiet : (passes : Node → Bool) (table : Table) (entry : Option Entry) → Quiet passes table.hit → Quiet passes table.miss → Quiet passes (next_of_outcome table entry)
outcome_quiet passes table None hit miss = miss
outcome_quiet passes table (Some entry) hit miss = hit

base_quiet : (passes : Node → Bool) (base : Option Node) → list_any passes (as_nodes base) ≡ false → QuietNode passes base
base_quiet passes None none = tt
base_quiet passes (Some node) none = alone passes node none

table_quiet : (passes : Node → Bool) (plane : Plane) (table : Table) (walk : Walk) → list_any passes (after_table (Some table)) ≡ false → QuietNode passes (table_done plane (Some table) walk).next
table_quiet passes plane table walk none =
    let hit : List Node = next_nodes table.hit in
    let miss : List Node = next_nodes table.miss in
    let actions : List Node = flat_map (λ (action : TableAction). next_nodes action.next) table.actions in
    let default : List Node = default_nodes table.default_entry in
    let base : List Node = as_nodes table.base_default_next in
    let but_base = in_first passes (hit ++ miss ++ actions ++ default) base none in
    let but_default = in_first passes (hit ++ miss ++ actions) default but_base in
    let outcomes = in_first passes (hit ++ miss) actions but_default in
    let quiet_call = acts_quiet passes plane table (found plane table walk.store) walk.store (in_second passes (hit ++ miss) actions but_default)
    (in_second passes (hit ++ miss ++ actions) default but_base) in
    named_quiet passes (next_of_outcome table (found plane table walk.store)) (named_or (next_of_call (acts plane table (found plane table walk.store) walk.store)) table.base_default_next)
    (outcome_quiet passes table (found plane table walk.store) (in_first passes hit miss outcomes) (in_second passes hit miss outcomes))
    (named_quiet passes (next_of_call (acts plane table (found plane table walk.store) walk.store)) table.base_default_next
    (call_quiet passes (acts plane table (found plane table walk.store) walk.store) quiet_call)
    (base_quiet passes table.base_default_next (in_second passes (hit ++ miss ++ actions ++ default) base none)))

table_at_quiet : (passes : Node → Bool) (plane : Plane) (o : Option Table) (walk : Walk) → list_any passes (after_table o) ≡ false → QuietNode passes (table_done plane o walk).next
table_at_quiet passes plane None walk none = tt
table_at_quiet passes plane (Some table) walk none = table_quiet passes plane table walk none

either_quiet : (passes : Node → Bool) (first second : Option Node) (b : Bool) → QuietNode passes first → QuietNode passes second → QuietNode passes (cond b first second)
either_quiet passes first second true one other = one
either_quiet passes first second false one other = other

conditional_quiet : (passes : Node → Bool) (o : Option Conditional) (walk : Walk) → list_any passes (after_conditional o) ≡ false → QuietNode passes (conditional_done o walk).next
conditional_quiet passes None walk none = tt
conditional_quiet passes (Some conditional) walk none =
    either_quiet passes conditional.true_next conditional.false_next (truth_value walk.store [] conditional.expression)
    (base_quiet passes conditional.true_next (in_first passes (as_nodes conditional.true_next) (as_nodes conditional.false_next) none))
    (base_quiet passes conditional.false_next (in_second passes (as_nodes conditional.true_next) (as_nodes conditional.false_next) none))

-- What follows a node does not pass what none that it leads to passes.
pub node_quiet : (passes : Node → Bool) (plane : Plane) (node : Node) (walk : Walk) → list_any passes (after_node plane.config.program node) ≡ false → QuietNode passes (node_done plane node walk).next
node_quiet passes plane (nodes.Table place) walk none = table_at_quiet passes plane (slice_get plane.config.program.tables place) walk none
node_quiet passes plane (nodes.Conditional place) walk none = conditional_quiet passes (slice_get plane.config.program.conditionals place) walk none

-- from a node from which no path is as long as this there is a walk
walk_ends_from : (plane : Plane) (more : ℕ) (next : Option Node) (walk : Walk) → QuietNode (has_path (after_node plane.config.program) more) next
    → (path : List Node) × Walks plane next path walk (walk_from plane more next walk)
walk_ends_from plane zero None walk none = ([], (refl, refl))
walk_ends_from plane zero (Some node) walk none = absurd cc
walk_ends_from plane (suc more) None walk none = ([], (refl, refl))
walk_ends_from plane (suc more) (Some node) walk none =
    let rest = walk_ends_from plane more (node_done plane node walk).next (node_done plane node walk).walk (node_quiet (has_path (after_node plane.config.program) more) plane node walk none) in
    (node ∷ rest.0, (refl, rest.1))

-- and each one ends so
walk_is : (plane : Plane) (more : ℕ) (next : Option Node) (path : List Node) (walk end : Walk) → QuietNode (has_path (after_node plane.config.program) more) next
    → Walks plane next path walk end → end ≡ walk_from plane more next walk
walk_is plane zero None [] walk end none walks = walks.1
walk_is plane zero None (node ∷ path) walk end none walks = absurd (let e : None ≡ Some node = walks.0 in cc)
walk_is plane zero (Some other) path walk end none walks = absurd cc
walk_is plane (suc more) None [] walk end none walks = walks.1
walk_is plane (suc more) None (node ∷ path) walk end none walks = absurd (let e : None ≡ Some node = walks.0 in cc)
walk_is plane (suc more) (Some other) [] walk end none walks = absurd (let e : Some other ≡ None = walks.0 in cc)
walk_is plane (suc more) (Some other) (node ∷ path) walk end none walks =
    let same : other ≡ node = (let e : Some other ≡ Some node = walks.0 in cc) in
    walk_is plane more (node_done plane other walk).next path (node_done plane other walk).walk end (node_quiet (has_path (after_node plane.config.program) more) plane other walk none)
    (subst (λ n. Walks plane (node_done plane n walk).next path (node_done plane n walk).walk end) (sym same) walks.1)

start_quiet : (plane : Plane) → IsValid plane.config.program → (start : Option Node) → QuietNode (has_path (after_node plane.config.program) (suc (node_count plane.config.program))) start
start_quiet plane valid None = tt
start_quiet plane valid (Some node) = valid.no_loop node

pub walk_ends : WalkEnds
walk_ends plane valid start walk = walk_ends_from plane (suc (node_count plane.config.program)) start walk (start_quiet plane valid start)

pub walk_is_one : WalkIsOne
walk_is_one plane valid start walk path end walks = walk_is plane (suc (node_count plane.config.program)) start path walk end (start_quiet plane valid start) walks
