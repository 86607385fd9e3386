use Rattle.std.proofs.Common.{sym, ap, ◌∙◌}
use Rattle.std.specs.List.{position}
use Rattle.role_arbiter.proofs.Places.{of_role, greatest_nowhere}
use Rattle.role_arbiter.proofs.changes.set_greatest.Goals as goal

pub returns-in_default-clause-items : goal.returns-in_default-clause-items
returns-in_default-clause-items c =
    sym (greatest_nowhere c.args.named.now.items c.args.role c.args.greatest (ap (λ l. position (of_role c.args.role) l) (sym c.deref.ensures.value) ∙ sym c.in_default.ensures))
