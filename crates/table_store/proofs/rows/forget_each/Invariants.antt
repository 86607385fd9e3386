use Rattle.match_index.specs.Index.{Covers}
use Rattle.table_store.proofs.rows.forget_each.Given as goal

abbrev pub invariant-loop-row : goal.invariant-loop-row
invariant-loop-row l = Covers l.index l.entries
