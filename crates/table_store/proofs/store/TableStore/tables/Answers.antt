use Rattle.std.proofs.Common.{List, subst, ap}
use Rattle.std.specs.List.{AllPairs}
use Rattle.p4_types.specs.declared.table.Entry.{Entry}
use Rattle.plane_spec.specs.Order.{StandsBefore}
use Rattle.table_store.proofs.Orders.{in_order}
use Rattle.table_store.proofs.store.TableStore.tables.Goals as goal

pub returns-clause-order : goal.returns-clause-order
returns-clause-order c = subst (λ (xs : List Entry). AllPairs StandsBefore xs) (ap (λ v. v.entries) c.self.view_is) (in_order _ c.self.invariant.groups)
