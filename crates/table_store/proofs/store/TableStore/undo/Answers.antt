use Rattle.std.proofs.Common.{length, sym, ap, ◌∙◌}
use Rattle.table_store.proofs.Undo.{settled_was, settled_store}
use Rattle.table_store.proofs.store.TableStore.undo.Goals as goal

pub invariant_of-self : goal.invariant_of-self
invariant_of-self c = settled_store _ _ _ c.restore_all.ensures.groups (c.self.invariant.former ∙ ap length (sym c.restore_all.ensures.entries)) c.restore_all.ensures.settled c.clear.ensures.items

pub returns-clause-before : goal.returns-clause-before
returns-clause-before c = settled_was _ c.restore_all.ensures.settled ∙ c.restore_all.ensures.entries ∙ ap (λ v. v.before) c.self.view_is
