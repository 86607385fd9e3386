-- What follows a node of a valid program is one of its nodes.
use Rattle.std.proofs.Common.{◌≡◌, Bool, false, not, List, [], ◌∷◌, ◌++◌, length, refl, Option, Some, None, ltb, arith}
use Rattle.std.specs.Prelude.{All, IfSome, slice_get}
use Rattle.std.specs.List.{flat_map, list_any}
use Rattle.std.proofs.lemmas.Bool.Decides.{nat_tests}
use Rattle.std.proofs.lemmas.List.Elements.{All-nil, All-cons, All-head, All-tail, All-append, All-weaker}
use Rattle.std.proofs.lemmas.List.Folds.{list_any_none}
use Rattle.bm_pipeline.specs.declared.program.Program.{Program}
use Rattle.bm_pipeline.specs.declared.tables.Conditional.{Conditional}
use Rattle.bm_pipeline.specs.declared.tables.DefaultEntry.{DefaultEntry}
use Rattle.bm_pipeline.specs.declared.tables.Node.{Node}
use Rattle.bm_pipeline.specs.declared.tables.Node.TheVariants as nodes
use Rattle.bm_pipeline.specs.declared.tables.Table.{Table}
use Rattle.bm_pipeline.specs.declared.tables.TableAction.{TableAction}
use Rattle.bm_pipeline.specs.Places.{next_nodes, as_nodes, default_nodes, after_table, after_conditional, after_node}
use Rattle.bm_pipeline.specs.Validity.{IsNode, IsTable, IsTableAction, IsDefaultEntry, IsConditional, IsValid}
use Rattle.packet_spec.specs.Walking.{Walk, node_done}
use Rattle.packet_spec.proofs.OneWalk.{QuietNode, node_quiet}
use Rattle.pkt_worker.proofs.HitBounds.{at_has}
use Rattle.plane_spec.specs.Planes.{Plane}

-- whether a node is none of the program's
abbrev is_foreign : Program → Node → Bool
is_foreign program (nodes.Table place) = not (ltb place (length program.tables))
is_foreign program (nodes.Conditional place) = not (ltb place (length program.conditionals))

is_own : (program : Program) (node : Node) → IsNode program node → is_foreign program node ≡ false
is_own program (nodes.Table place) lt = grind (arith, nat_tests)
is_own program (nodes.Conditional place) lt = grind (arith, nat_tests)

none_foreign : (program : Program) (list : List Node) → All (IsNode program) list → list_any (is_foreign program) list ≡ false
none_foreign program list all = list_any_none (is_foreign program) list (All-weaker (IsNode program) (λ node. is_foreign program node ≡ false) (is_own program) list all)

actions_own : (program : Program) (actions : List TableAction) → All (IsTableAction program) actions → All (IsNode program) (flat_map (λ action. next_nodes action.next) actions)
actions_own program [] all = All-nil (IsNode program)
actions_own program (action ∷ actions) all =
    let first = All-head (IsTableAction program) action actions all in
    All-append (IsNode program) (next_nodes action.next) (flat_map (λ (other : TableAction). next_nodes other.next) actions) first.next
    (actions_own program actions (All-tail (IsTableAction program) action actions all))

default_own : (program : Program) (o : Option DefaultEntry) → IfSome o (IsDefaultEntry program) → All (IsNode program) (default_nodes o)
default_own program None is = All-nil (IsNode program)
default_own program (Some default) is = is.action.next

option_own : (program : Program) (o : Option Node) → IfSome o (IsNode program) → All (IsNode program) (as_nodes o)
option_own program None is = All-nil (IsNode program)
option_own program (Some node) is = All-cons (IsNode program) node [] is (All-nil (IsNode program))

table_own : (program : Program) (o : Option Table) → ((table : Table) → o ≡ Some table → IsTable program table) → All (IsNode program) (after_table o)
table_own program None valid = All-nil (IsNode program)
table_own program (Some table) valid =
    let is : IsTable program table = valid table refl in
    let hit : List Node = next_nodes table.hit in
    let miss : List Node = next_nodes table.miss in
    let actions : List Node = flat_map (λ (action : TableAction). next_nodes action.next) table.actions in
    let default : List Node = default_nodes table.default_entry in
    All-append (IsNode program) (hit ++ miss ++ actions ++ default) (as_nodes table.base_default_next)
    (All-append (IsNode program) (hit ++ miss ++ actions) default
    (All-append (IsNode program) (hit ++ miss) actions (All-append (IsNode program) hit miss is.hit is.miss) (actions_own program table.actions is.actions))
    (default_own program table.default_entry is.default_entry))
    (option_own program table.base_default_next is.base_default_next)

conditional_own : (program : Program) (o : Option Conditional) → ((conditional : Conditional) → o ≡ Some conditional → IsConditional program conditional) → All (IsNode program) (after_conditional o)
conditional_own program None valid = All-nil (IsNode program)
conditional_own program (Some conditional) valid =
    let is : IsConditional program conditional = valid conditional refl in
    All-append (IsNode program) (as_nodes conditional.true_next) (as_nodes conditional.false_next) (option_own program conditional.true_next is.true_next) (option_own program conditional.false_next is.false_next)

after_own : (program : Program) → IsValid program → (node : Node) → All (IsNode program) (after_node program node)
after_own program valid (nodes.Table place) =
    table_own program (slice_get program.tables place) (λ table at. at_has (IsTable program) program.tables place table valid.tables at)
after_own program valid (nodes.Conditional place) =
    conditional_own program (slice_get program.conditionals place) (λ conditional at. at_has (IsConditional program) program.conditionals place conditional valid.conditionals at)

from_quiet : (program : Program) (next : Option Node) → QuietNode (is_foreign program) next → IfSome next (IsNode program)
from_quiet program None quiet = tt
from_quiet program (Some (nodes.Table place)) quiet = grind (arith, nat_tests)
from_quiet program (Some (nodes.Conditional place)) quiet = grind (arith, nat_tests)

-- what follows a node, if anything does, is a node of the program
pub next_own : (plane : Plane) → IsValid plane.config.program → (node : Node) (walk : Walk) → IfSome (node_done plane node walk).next (IsNode plane.config.program)
next_own plane valid node walk =
    from_quiet plane.config.program (node_done plane node walk).next
    (node_quiet (is_foreign plane.config.program) plane node walk (none_foreign plane.config.program (after_node plane.config.program node) (after_own plane.config.program valid node)))
