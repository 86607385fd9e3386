use Rattle.std.proofs.Common.{sym, ap, ◌∙◌}
use Rattle.std.specs.List.{position}
use Rattle.role_arbiter.proofs.Places.{of_caller, replaced_nowhere}
use Rattle.role_arbiter.proofs.changes.replace.Goals as goal

pub returns-in_default-clause-items : goal.returns-in_default-clause-items
returns-in_default-clause-items c =
    sym (replaced_nowhere c.args.sessions.now.items c.args.session (ap (λ l. position (of_caller c.args.session.caller) l) (sym c.deref.ensures.value) ∙ sym c.in_default.ensures))
