use Rattle.std.proofs.Common.{sym}
use Rattle.row_index.proofs.Shaping.{unused_there, none_unused}
use Rattle.row_index.proofs.shapes.unused.Goals as goal

pub returns-in-Some-clause-some : goal.returns-in-Some-clause-some
returns-in-Some-clause-some c = unused_there c.args.shapes.now.list.items c.in-Some.place (sym c.in-Some.ensures)

pub returns-in-None-clause-none : goal.returns-in-None-clause-none
returns-in-None-clause-none c = none_unused c.args.shapes.now.list.items (sym c.in-None.ensures)
