-- What a worker keeps while a packet runs.
use Rattle.act_exec.specs.Marks.{Marked}
use Rattle.bm_expr.specs.Store.{Contents}

-- the packet's store, that of its copies, and what actions leave beside it
pub record Kept : Type 0 where
  pub store : Contents
  pub copy : Contents
  pub marks : Marked
