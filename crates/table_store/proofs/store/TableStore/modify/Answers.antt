use Rattle.table_store.proofs.Undo.{store_after, counted_by}
use Rattle.table_store.proofs.store.TableStore.modify.Goals as goal

pub invariant_of-self-2 : goal.invariant_of-self-2
invariant_of-self-2 c = store_after _ _ _ _ _ _ _ _ c.self.invariant c.modify.ensures.step c.modify.ensures.groups c.in_ok-touch.ensures.ok
    (counted_by c.modify.result _ c.args.change.now _ _ c.self.invariant.entries c.modify.ensures.ok c.modify.ensures.err)
