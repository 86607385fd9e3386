use Rattle.std.proofs.Common.{ℕ, List, subst, ◌∙◌}
use Rattle.std.specs.List.{AllByRecursion}
use Rattle.std.proofs.lemmas.List.{drop_more}
use Rattle.table_store.specs.Undo.{IsTouched}
use Rattle.table_store.proofs.groups.settle_all.Goals as goal

pub loop-table-preserved : goal.loop-table-preserved
loop-table-preserved c =
    let next = drop_more c.args.tables.now c.loop-table.table-index 0 c.loop-table-test.true in
    let h = c.loop-table.invariant in
    (c.settle.ensures.groups, c.settle.ensures.entries ∙ h.1, c.settle.ensures.touched _ (subst (λ (ts : List ℕ). AllByRecursion (IsTouched ts) c.loop-table.groups.items) next h.2))
