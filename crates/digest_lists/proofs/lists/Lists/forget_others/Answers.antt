use Rattle.std.proofs.Common.{sym, subst, arith}
use Rattle.digest_lists.specs.Fold.{names}
use Rattle.digest_lists.specs.Laws.{IsSound}
use Rattle.digest_lists.proofs.Soundness.{kept_sound}
use Rattle.digest_lists.proofs.lists.Lists.forget_others.Goals as goal

pub invariant_of-self : goal.invariant_of-self
invariant_of-self c =
    (omega (arith, c.keep_named.ensures.few, c.self.invariant.0), omega (arith, c.keep_named.ensures.room, c.self.invariant.1), subst IsSound (sym c.keep_named.ensures.items) (kept_sound (λ digest. names c.args.entries.now digest.id) _ c.self.invariant.2))
