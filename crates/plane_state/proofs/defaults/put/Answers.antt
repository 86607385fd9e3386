use Rattle.std.proofs.Common.{Some, List, sym, ◌∙◌}
use Rattle.p4_types.specs.declared.table.DefaultAction.{DefaultAction}
use Rattle.plane_state.proofs.Rises.{replaced, put_in, is_default, on_ok}
use Rattle.plane_state.proofs.defaults.put.Goals as goal

pub returns-in-Ok-clause-ok : goal.returns-in-Ok-clause-ok
returns-in-Ok-clause-ok c =
    let default : DefaultAction = c.args.default in
    let old : List DefaultAction = c.args.defaults.now.items in
    on_ok c.replace.result _ _ _ c.replace.ensures.ok (replaced (λ d. d.table) old default default.table _ c.requires (rw c.as_slice.ensures at c.in-Ok.ensures.found) ∙ sym (is_default default.table (Some default.action) old))

pub returns-in-Err-clause-ok : goal.returns-in-Err-clause-ok
returns-in-Err-clause-ok c =
    let default : DefaultAction = c.args.default in
    let old : List DefaultAction = c.args.defaults.now.items in
    on_ok c.insert.result _ _ _ c.insert.ensures.ok (put_in (λ d. d.table) old default default.table _ (rw c.as_slice.ensures at c.in-Err.ensures.absent) ∙ sym (is_default default.table (Some default.action) old))
