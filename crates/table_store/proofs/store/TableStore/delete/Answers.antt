use Rattle.std.proofs.Common.{arith}
use Rattle.table_store.proofs.Undo.{store_after, counted_same}
use Rattle.table_store.proofs.store.TableStore.delete.Goals as goal

pub invariant_of-self-in_err-delete : goal.invariant_of-self-in_err-delete
invariant_of-self-in_err-delete c = store_after _ _ _ _ _ _ _ _ c.self.invariant c.delete.ensures.step c.delete.ensures.groups c.in_ok-touch.ensures.ok
    (counted_same _ _ _ c.self.invariant.entries c.in_err-delete.ensures.err)

pub invariant_of-self-2 : goal.invariant_of-self-2
invariant_of-self-2 c = store_after _ _ _ _ _ _ _ _ c.self.invariant c.delete.ensures.step c.delete.ensures.groups c.in_ok-touch.ensures.ok
    (omega (arith, c.in_ok-delete.ensures.one, c.self.invariant.entries))
