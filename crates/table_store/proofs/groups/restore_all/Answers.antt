use Rattle.std.proofs.Common.{◌≡◌, ℕ, List, [], drop, subst, sym, ◌∙◌, arith}
use Rattle.std.specs.List.{AllByRecursion}
use Rattle.std.proofs.lemmas.List.{drop_more}
use Rattle.std.proofs.Math.ListN.{drop_of_length-le}
use Rattle.table_store.specs.Undo.{IsTouched}
use Rattle.table_store.proofs.Undo.{settled_was}
use Rattle.table_store.proofs.groups.restore_all.Goals as goal

pub loop-table-preserved : goal.loop-table-preserved
loop-table-preserved c =
    let next = drop_more c.args.tables.now c.loop-table.table-index 0 c.loop-table-test.true in
    let h = c.loop-table.invariant in (
      c.restore.ensures.groups,
      c.restore.ensures.kept,
      c.restore.ensures.before ∙ h.2,
      c.restore.ensures.touched _ (subst (λ (ts : List ℕ). AllByRecursion (IsTouched ts) c.loop-table.groups.items) next h.3),
    )

pub returns-clause-entries : goal.returns-clause-entries
returns-clause-entries c =
    let none : drop c.loop-table.table-index c.args.tables.now ≡ [] = drop_of_length-le c.args.tables.now (omega arith) in
    let settled = subst (λ (ts : List ℕ). AllByRecursion (IsTouched ts) c.loop-table.groups.items) none c.loop-table.invariant.3 in
    sym (settled_was c.loop-table.groups.items settled) ∙ c.loop-table.invariant.2
