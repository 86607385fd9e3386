use Rattle.std.proofs.Common.{◌-◌, arith, rules, sym}
use Rattle.hpack_tables.proofs.TableSteps.{entry_there, entry_missing}
use Rattle.hpack_tables.proofs.table.DynamicTable.entry.Goals as goal

pub returns-in-Some : goal.returns-in-Some
returns-in-Some c = entry_there _ _ _ c.args.index (c.args.index - 1 - 61) _ _ _ (sym c.self.view_is) (omega arith) (omega arith) (search rules) c.in-Some.ensures.lookup c.as_slice.ensures c.as_slice-in-Some.ensures

pub returns-in-None : goal.returns-in-None
returns-in-None c = entry_missing _ _ _ c.args.index (c.args.index - 1 - 61) (sym c.self.view_is) (omega arith) (omega arith) (search rules)
