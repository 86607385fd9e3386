use Rattle.std.proofs.Common.{Some, None, sym, subst, arith}
use Rattle.digest_lists.specs.Fold as calls
use Rattle.digest_lists.specs.Laws.{IsSound}
use Rattle.digest_lists.proofs.Soundness.{each_call}
use Rattle.digest_lists.proofs.lists.Lists.set.Goals as goal

pub invariant_of-self : goal.invariant_of-self
invariant_of-self c = (c.configure.ensures.few, c.configure.ensures.room, subst IsSound (sym c.configure.ensures.items) (each_call _ (calls.Set _ (Some _)) c.self.invariant.2))

pub invariant_of-self-in-None : goal.invariant_of-self-in-None
invariant_of-self-in-None c = (omega (arith, c.forget.ensures.few, c.self.invariant.0), omega (arith, c.forget.ensures.room, c.self.invariant.1), subst IsSound (sym c.forget.ensures.items) (each_call _ (calls.Set _ None) c.self.invariant.2))
