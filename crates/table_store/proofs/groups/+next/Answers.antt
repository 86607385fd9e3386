use Rattle.std.proofs.Common.{arith}
use Rattle.table_store.proofs.Orders.{first_is_lower}
use Rattle.table_store.proofs.groups.+next.Goals as goal

pub returns-else-is_empty-clause-lower : goal.returns-else-is_empty-clause-lower
returns-else-is_empty-clause-lower t c = first_is_lower _ _ _ c.requires (omega arith) c.group-item.is c.as_slice-entries.ensures
