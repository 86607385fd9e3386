use Rattle.std.proofs.Common.{◌≡◌, sym, subst, ap, ◌∙◌, arith}
use Rattle.std.specs.Prelude.{slice_get}
use Rattle.row_index.specs.declared.asks.Ask.{Ask}
use Rattle.row_index.specs.declared.shapes.Shape.{Shape}
use Rattle.row_index.specs.Asks.{Puts}
use Rattle.row_index.specs.Shapes.{Matches, Raises, AreAsked, ask_of, widened}
use Rattle.std.proofs.Common.{set}
use Rattle.row_index.proofs.Covering.{of_some}
use Rattle.row_index.proofs.Shaping.{raised, raised_asked, within_raised, ask_there, matches_within, there}
use Rattle.row_index.proofs.shapes.raise.Goals as goal

pub shape_at-requires : goal.shape_at-requires
shape_at-requires c = matches_within c.args.shapes.now.list.items c.args.place c.args.name.now c.requires.matches

pub returns-then-is_within-clause-raises : goal.returns-then-is_within-clause-raises
returns-then-is_within-clause-raises c =
    let shape : Shape = c.shape_at.result.now in
    let matches : Matches c.args.name.now shape = of_some (slice_get c.args.shapes.now.list.items c.args.place) (Matches c.args.name.now) shape c.shape_at.ensures c.requires.matches in
    let bounds = c.is_within.ensures c.if-is_within.true in
    within_raised c.args.shapes.now.list.items c.args.place c.args.name.now shape c.shape_at.ensures matches bounds.0 bounds.1

pub take-requires-clause-there : goal.take-requires-clause-there
take-requires-clause-there c =
    let shape : Shape = c.shape_at.result.now in
    let matches : Matches c.args.name.now shape = of_some (slice_get c.args.shapes.now.list.items c.args.place) (Matches c.args.name.now) shape c.shape_at.ensures c.requires.matches in
    ask_there c.args.shapes.now.list.items c.args.shapes.now.asks.items c.args.place shape c.requires.asked c.shape_at.ensures matches.used

pub index_mut-shape-requires : goal.index_mut-shape-requires
index_mut-shape-requires c = let lt = matches_within c.args.shapes.now.list.items c.args.place c.args.name.now c.requires.matches in omega (arith, lt)

pub returns-clause-raises : goal.returns-clause-raises
returns-clause-raises c =
    let x : Shape = c.index_mut-shape.result.now in
    let at = there c.args.shapes.now.list.items c.args.place x (matches_within c.args.shapes.now.list.items c.args.place c.args.name.now c.requires.matches) c.index_mut-shape.ensures.value in
    let matches : Matches c.args.name.now x = of_some (slice_get c.args.shapes.now.list.items c.args.place) (Matches c.args.name.now) x at c.requires.matches in
    subst (λ (now : Shape). Raises c.args.shapes.now.list.items (set c.args.shapes.now.list.items c.args.place now) c.args.place c.args.name.now) (sym c.widen-ask.ensures.shape)
    (raised c.args.shapes.now.list.items c.args.shapes.now.asks.items c.take.new.asks.items c.put.new.asks.items c.args.place c.args.name.now x at c.requires.asked matches)

pub returns-clause-asked : goal.returns-clause-asked
returns-clause-asked c =
    let x : Shape = c.index_mut-shape.result.now in
    let at = there c.args.shapes.now.list.items c.args.place x (matches_within c.args.shapes.now.list.items c.args.place c.args.name.now c.requires.matches) c.index_mut-shape.ensures.value in
    let matches : Matches c.args.name.now x = of_some (slice_get c.args.shapes.now.list.items c.args.place) (Matches c.args.name.now) x at c.requires.matches in
    let same : c.widen-ask.result ≡ ask_of c.args.place (widened c.args.name.now x) = c.widen-ask.ensures.ask ∙ ap (ask_of c.args.place) c.widen-ask.ensures.shape in
    let puts : Puts c.take.new.asks.items c.put.new.asks.items (ask_of c.args.place (widened c.args.name.now x)) = subst (λ (a : Ask). Puts c.take.new.asks.items c.put.new.asks.items a) same c.put.ensures.puts in
    subst (λ (now : Shape). AreAsked (set c.args.shapes.now.list.items c.args.place now) c.put.new.asks.items) (sym c.widen-ask.ensures.shape)
    (raised_asked c.args.shapes.now.list.items c.args.shapes.now.asks.items c.take.new.asks.items c.put.new.asks.items c.args.place c.args.name.now x at c.requires.asked matches c.take.ensures.takes puts c.put.ensures.order)
