use Rattle.table_store.proofs.Undo.{store_after, counted_same, counted_more}
use Rattle.table_store.proofs.store.TableStore.insert.Goals as goal

pub invariant_of-self-in_err-insert : goal.invariant_of-self-in_err-insert
invariant_of-self-in_err-insert c = store_after _ _ _ _ _ _ _ _ c.self.invariant c.insert.ensures.step c.insert.ensures.groups c.in_ok-touch.ensures.ok
    (counted_same _ _ _ c.self.invariant.entries c.in_err-insert.ensures.err)

pub invariant_of-self-2 : goal.invariant_of-self-2
invariant_of-self-2 c = store_after _ _ _ _ _ _ _ _ c.self.invariant c.insert.ensures.step c.insert.ensures.groups c.in_ok-touch.ensures.ok
    (counted_more _ _ _ _ _ c.self.invariant.entries c.in-Some.ensures.1 c.in_ok-insert.ensures.ok)
