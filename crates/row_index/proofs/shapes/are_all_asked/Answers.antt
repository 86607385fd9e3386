use Rattle.std.proofs.Common.{arith}
use Rattle.std.proofs.lemmas.Bool.{eqb-true}
use Rattle.row_index.proofs.Shaping.{all_asked}
use Rattle.row_index.proofs.shapes.are_all_asked.Goals as goal

pub returns : goal.returns
returns c = λ h. all_asked c.args.shapes.now.list.items c.args.shapes.now.asks.items c.requires (omega (arith, eqb-true c.len.result c.len-2.result h, c.len.ensures, c.len-2.ensures))
