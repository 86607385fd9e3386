use Rattle.std.proofs.Common.{set, sym, subst, arith}
use Rattle.row_index.specs.declared.shapes.Shape.{Shape}
use Rattle.row_index.specs.Shapes.{Joins, AreAsked}
use Rattle.row_index.proofs.Shaping.{grown_joins, grown_asked, matches_within, matches_used, count_is, there}
use Rattle.row_index.proofs.shapes.join.Goals as goal

pub index_mut-shape-requires : goal.index_mut-shape-requires
index_mut-shape-requires c =
    let lt = matches_within c.args.shapes.now.list.items c.in-Some.place c.args.name.now c.in-Some.ensures in
    omega (arith, lt, c.raise.ensures.raises.len)

pub grow-requires : goal.grow-requires
grow-requires c =
    let lt = matches_within c.args.shapes.now.list.items c.in-Some.place c.args.name.now c.in-Some.ensures in
    let x : Shape = c.index_mut-shape.result.now in
    let at = there c.raise.new.shapes.list.items c.in-Some.place x (omega (arith, lt, c.raise.ensures.raises.len)) c.index_mut-shape.ensures.value in
    let count = count_is c.raise.new.shapes.list.items c.in-Some.place x at in
    let same = c.raise.ensures.raises.counts c.in-Some.place in
    let fits = c.requires.counts c.in-Some.place in
    omega (arith, count, same, fits)

pub returns-in-Some-clause-joins : goal.returns-in-Some-clause-joins
returns-in-Some-clause-joins c =
    let lt = matches_within c.args.shapes.now.list.items c.in-Some.place c.args.name.now c.in-Some.ensures in
    let used = matches_used c.args.shapes.now.list.items c.in-Some.place c.args.name.now c.in-Some.ensures in
    let x : Shape = c.index_mut-shape.result.now in
    let at = there c.raise.new.shapes.list.items c.in-Some.place x (omega (arith, lt, c.raise.ensures.raises.len)) c.index_mut-shape.ensures.value in
    let count = count_is c.raise.new.shapes.list.items c.in-Some.place x at in
    let same = c.raise.ensures.raises.counts c.in-Some.place in
    subst (λ (now : Shape). Joins c.args.shapes.now.list.items (set c.raise.new.shapes.list.items c.in-Some.place now) c.in-Some.place c.args.name.now) (sym c.grow.ensures)
    (grown_joins c.args.shapes.now.list.items c.raise.new.shapes.list.items c.raise.new.shapes.asks.items c.in-Some.place c.args.name.now x at c.raise.ensures.raises (omega (arith, used, count, same)) c.raise.ensures.asked)

pub returns-in-Some-clause-asked : goal.returns-in-Some-clause-asked
returns-in-Some-clause-asked c =
    let lt = matches_within c.args.shapes.now.list.items c.in-Some.place c.args.name.now c.in-Some.ensures in
    let used = matches_used c.args.shapes.now.list.items c.in-Some.place c.args.name.now c.in-Some.ensures in
    let x : Shape = c.index_mut-shape.result.now in
    let at = there c.raise.new.shapes.list.items c.in-Some.place x (omega (arith, lt, c.raise.ensures.raises.len)) c.index_mut-shape.ensures.value in
    let count = count_is c.raise.new.shapes.list.items c.in-Some.place x at in
    let same = c.raise.ensures.raises.counts c.in-Some.place in
    subst (λ (now : Shape). AreAsked (set c.raise.new.shapes.list.items c.in-Some.place now) c.raise.new.shapes.asks.items) (sym c.grow.ensures)
    (grown_asked c.args.shapes.now.list.items c.raise.new.shapes.list.items c.raise.new.shapes.asks.items c.in-Some.place c.args.name.now x at c.raise.ensures.raises (omega (arith, used, count, same)) c.raise.ensures.asked)
