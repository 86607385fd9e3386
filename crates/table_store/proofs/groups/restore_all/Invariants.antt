use Rattle.std.proofs.Common.{◌≡◌, drop}
use Rattle.std.specs.List.{AllByRecursion}
use Rattle.table_store.specs.Groups.{AreGroups}
use Rattle.table_store.specs.Undo.{was, WasGroup, IsTouched}
use Rattle.table_store.proofs.groups.restore_all.Given as goal

abbrev pub invariant-loop-table : goal.invariant-loop-table
invariant-loop-table l =
    AreGroups l.groups.items × AllByRecursion WasGroup l.groups.items × (was l.groups.items ≡ was l.initial.groups.items)
    × AllByRecursion (IsTouched (drop l.table-index l.tables)) l.groups.items
