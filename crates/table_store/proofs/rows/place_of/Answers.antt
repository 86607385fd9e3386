use Rattle.std.proofs.Common.{◌∙◌}
use Rattle.table_store.proofs.Numbers.{by_number, by_no_name}
use Rattle.table_store.proofs.rows.place_of.Goals as goal

pub returns-in-Some : goal.returns-in-Some
returns-in-Some c = c.place_of_number.ensures ∙ by_number c.args.name.now c.in-Some.entry.now _ c.requires.order c.in-Some.ensures

pub returns-in-None : goal.returns-in-None
returns-in-None c = by_no_name c.args.name.now _ c.in-None.ensures
