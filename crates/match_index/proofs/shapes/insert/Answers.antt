use Rattle.std.proofs.Common.{List, refl, sym, ap, subst}
use Rattle.match_index.specs.declared.index.Row.{Row}
use Rattle.match_index.specs.declared.shapes.Shape.{Shape}
use Rattle.match_index.specs.Shapes.{AddsRow}
use Rattle.match_index.proofs.Rows.{added_row, pushed_row, same_rows, still_rows, on_err}
use Rattle.match_index.proofs.shapes.insert.Goals as goal

pub returns-in_err-put-in-Some-clause-err : goal.returns-in_err-put-in-Some-clause-err
returns-in_err-put-in-Some-clause-err c = on_err _ _ (same_rows _ _ _ _ c.args.tests.now (sym (rw c.deref.ensures.value at c.in-Some.ensures)) c.index_mut-shape.ensures.value refl c.in_err-put-in-Some.ensures.err)

pub returns-in_ok-put-in-Some-clause-ok : goal.returns-in_ok-put-in-Some-clause-ok
returns-in_ok-put-in-Some-clause-ok c = added_row _ _ _ _ c.args.tests.now c.args.row.seq (sym (rw c.deref.ensures.value at c.in-Some.ensures)) c.index_mut-shape.ensures.value refl _ (ap (λ (row : Row). row.print) c.requires) c.in_ok-put-in-Some.ensures.ok

pub returns-in_ok-push-in-None-clause-ok : goal.returns-in_ok-push-in-None-clause-ok
returns-in_ok-push-in-None-clause-ok c =
    subst (λ (shapes : List Shape). AddsRow c.args.shapes.now.items shapes c.args.tests.now c.args.row.seq) (sym c.in_ok-push-in-None.ensures.items)
    (pushed_row _ _ _ _ (sym (rw c.deref.ensures.value at c.in-None.ensures)) c.in_ok-shape-in-None.ensures)

pub returns-in_err-shape-in-None-clause-err : goal.returns-in_err-shape-in-None-clause-err
returns-in_err-shape-in-None-clause-err c = on_err _ _ (still_rows _ _ refl)

pub returns-in_err-push-in-None-clause-err : goal.returns-in_err-push-in-None-clause-err
returns-in_err-push-in-None-clause-err c = on_err _ _ (still_rows _ _ c.in_err-push-in-None.ensures.items)
