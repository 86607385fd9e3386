use Rattle.std.proofs.Common.{◌-◌, arith, ap}
use Rattle.hpack_tables.proofs.Evictions.{one_goes, all_fit}
use Rattle.hpack_tables.proofs.table.evict.Goals as goal

pub loop-size-preserved : goal.loop-size-preserved
loop-size-preserved c = one_goes _ _ _ _ c.in-Some.oldest _ _ (omega arith) c.in-Some.ensures.items (ap (λ n. c.loop-size.size - n) c.entry_size-size.ensures) c.loop-size.invariant

pub returns-clause-entries : goal.returns-clause-entries
returns-clause-entries c = all_fit _ _ _ _ (omega arith) c.loop-size.invariant
