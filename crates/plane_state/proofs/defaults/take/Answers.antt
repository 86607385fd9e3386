use Rattle.std.proofs.Common.{None, List, sym, ◌∙◌}
use Rattle.p4_types.specs.declared.table.DefaultAction.{DefaultAction}
use Rattle.plane_state.proofs.Rises.{removed, none_there, is_default, on_ok}
use Rattle.plane_state.proofs.defaults.take.Goals as goal

pub returns-in-Ok-clause-ok : goal.returns-in-Ok-clause-ok
returns-in-Ok-clause-ok c =
    let old : List DefaultAction = c.args.defaults.now.items in
    on_ok c.remove.result _ _ _ c.remove.ensures.ok (removed (λ d. d.table) old c.args.table _ c.requires (rw c.as_slice.ensures at c.in-Ok.ensures.found) ∙ sym (is_default c.args.table None old))

pub returns-in-Err-clause-ok : goal.returns-in-Err-clause-ok
returns-in-Err-clause-ok c =
    let old : List DefaultAction = c.args.defaults.now.items in
    none_there (λ d. d.table) old c.args.table _ (rw c.as_slice.ensures at c.in-Err.ensures.absent) ∙ sym (is_default c.args.table None old)
