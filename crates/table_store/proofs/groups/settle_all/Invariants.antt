use Rattle.std.proofs.Common.{◌≡◌, drop}
use Rattle.std.specs.List.{AllByRecursion}
use Rattle.table_store.specs.Groups.{flat, AreGroups}
use Rattle.table_store.specs.Undo.{IsTouched}
use Rattle.table_store.proofs.groups.settle_all.Given as goal

abbrev pub invariant-loop-table : goal.invariant-loop-table
invariant-loop-table l =
    AreGroups l.groups.items × (flat l.groups.items ≡ flat l.initial.groups.items)
    × AllByRecursion (IsTouched (drop l.table-index l.tables)) l.groups.items
