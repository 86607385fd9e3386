use Rattle.std.proofs.Common.{List, sym, subst, arith}
use Rattle.row_index.specs.declared.shapes.Shape.{Shape}
use Rattle.row_index.specs.Shapes.{Settles}
use Rattle.row_index.proofs.Shaping.{settles_at, settles_push}
use Rattle.row_index.proofs.shapes.settle.Goals as goal

pub returns-in-Some-clause-settles : goal.returns-in-Some-clause-settles
returns-in-Some-clause-settles c = settles_at c.args.shapes.now.list.items c.in-Some.place c.args.shape c.in-Some.ensures.some.0 c.in-Some.ensures.some.1

pub returns-in-None-clause-settles : goal.returns-in-None-clause-settles
returns-in-None-clause-settles c =
    subst (λ (new : List Shape). Settles c.args.shapes.now.list.items new c.len-place.result c.args.shape) (sym c.push_reserved.ensures.items)
    (settles_push c.args.shapes.now.list.items c.len-place.result c.args.shape (omega (arith, c.len-place.ensures)) c.in-None.ensures.none)
