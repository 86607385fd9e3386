use Rattle.std.proofs.Common.{◌≡◌, ◌<◌, ◌-◌, set, sym, subst, arith}
use Rattle.row_index.specs.declared.shapes.Shape.{Shape}
use Rattle.row_index.specs.Shapes.{Leaves, AreAsked}
use Rattle.row_index.proofs.Shaping.{shrunk_leaves, shrunk_asked, closed_asked, ask_there, count_within, count_is, left_over, there}
use Rattle.row_index.proofs.shapes.leave.Goals as goal

pub index_mut-shape-requires : goal.index_mut-shape-requires
index_mut-shape-requires c = let lt = count_within c.args.shapes.now.list.items c.args.place c.requires.count in omega (arith, lt)

pub shrink-requires : goal.shrink-requires
shrink-requires c =
    let x : Shape = c.index_mut-shape.result.now in
    let at = there c.args.shapes.now.list.items c.args.place x (count_within c.args.shapes.now.list.items c.args.place c.requires.count) c.index_mut-shape.ensures.value in
    let count = count_is c.args.shapes.now.list.items c.args.place x at in
    omega (arith, count, c.requires.count)

pub returns-then-not-shrink-clause-leaves : goal.returns-then-not-shrink-clause-leaves
returns-then-not-shrink-clause-leaves c =
    let x : Shape = c.index_mut-shape.result.now in
    let at = there c.args.shapes.now.list.items c.args.place x (count_within c.args.shapes.now.list.items c.args.place c.requires.count) c.index_mut-shape.ensures.value in
    let count = count_is c.args.shapes.now.list.items c.args.place x at in
    subst (λ (now : Shape). Leaves c.args.shapes.now.list.items (set c.args.shapes.now.list.items c.args.place now) c.args.place) (sym c.shrink.ensures.shape)
    (shrunk_leaves c.args.shapes.now.list.items c.args.shapes.now.asks.items c.args.place x at (omega (arith, count, c.requires.count)) c.requires.asked)

pub returns-clause-leaves : goal.returns-clause-leaves
returns-clause-leaves c =
    let x : Shape = c.index_mut-shape.result.now in
    let at = there c.args.shapes.now.list.items c.args.place x (count_within c.args.shapes.now.list.items c.args.place c.requires.count) c.index_mut-shape.ensures.value in
    let count = count_is c.args.shapes.now.list.items c.args.place x at in
    subst (λ (now : Shape). Leaves c.args.shapes.now.list.items (set c.args.shapes.now.list.items c.args.place now) c.args.place) (sym c.shrink.ensures.shape)
    (shrunk_leaves c.args.shapes.now.list.items c.args.shapes.now.asks.items c.args.place x at (omega (arith, count, c.requires.count)) c.requires.asked)

pub returns-then-not-shrink-clause-asked : goal.returns-then-not-shrink-clause-asked
returns-then-not-shrink-clause-asked c =
    let x : Shape = c.index_mut-shape.result.now in
    let at = there c.args.shapes.now.list.items c.args.place x (count_within c.args.shapes.now.list.items c.args.place c.requires.count) c.index_mut-shape.ensures.value in
    let count = count_is c.args.shapes.now.list.items c.args.place x at in
    let more : 0 < x.count - 1 = left_over c.shrink.result (x.count - 1) c.shrink.ensures.empty.1 c.if-not-shrink.true in
    subst (λ (now : Shape). AreAsked (set c.args.shapes.now.list.items c.args.place now) c.args.shapes.now.asks.items) (sym c.shrink.ensures.shape)
    (shrunk_asked c.args.shapes.now.list.items c.args.shapes.now.asks.items c.args.place x at (omega (arith, count, c.requires.count)) c.requires.asked more)

pub take-requires-clause-there : goal.take-requires-clause-there
take-requires-clause-there c =
    let x : Shape = c.index_mut-shape.result.now in
    let at = there c.args.shapes.now.list.items c.args.place x (count_within c.args.shapes.now.list.items c.args.place c.requires.count) c.index_mut-shape.ensures.value in
    let count = count_is c.args.shapes.now.list.items c.args.place x at in
    ask_there c.args.shapes.now.list.items c.args.shapes.now.asks.items c.args.place x c.requires.asked at (omega (arith, count, c.requires.count))

pub returns-clause-asked : goal.returns-clause-asked
returns-clause-asked c =
    let x : Shape = c.index_mut-shape.result.now in
    let at = there c.args.shapes.now.list.items c.args.place x (count_within c.args.shapes.now.list.items c.args.place c.requires.count) c.index_mut-shape.ensures.value in
    let count = count_is c.args.shapes.now.list.items c.args.place x at in
    let none : x.count - 1 ≡ 0 = c.shrink.ensures.empty.0 c.if-not-shrink.false in
    subst (λ (now : Shape). AreAsked (set c.args.shapes.now.list.items c.args.place now) c.take.new.asks.items) (sym c.shrink.ensures.shape)
    (closed_asked c.args.shapes.now.list.items c.args.shapes.now.asks.items c.args.place x at (omega (arith, count, c.requires.count)) c.requires.asked c.take.new.asks.items none c.take.ensures.takes c.take.ensures.order)
