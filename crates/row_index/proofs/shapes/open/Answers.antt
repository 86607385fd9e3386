use Rattle.std.proofs.Common.{◌≡◌, ap, sym, subst, ◌∙◌}
use Rattle.row_index.specs.declared.asks.Ask.{Ask}
use Rattle.row_index.specs.Asks.{Puts}
use Rattle.row_index.specs.declared.shapes.Shape.{Shape}
use Rattle.row_index.specs.Shapes.{ask_of, opened, Fits}
use Rattle.row_index.proofs.Shaping.{own_fits, opened_joins, opened_asked}
use Rattle.row_index.proofs.shapes.open.Goals as goal

pub returns-clause-joins : goal.returns-clause-joins
returns-clause-joins c =
    let is : c.opened-shape.result ≡ opened c.args.name.now = c.opened-shape.ensures in
    let fits = subst (Fits c.args.name.now) (sym is) (own_fits c.args.name.now 1) in
    opened_joins c.args.shapes.now.list.items c.settle-place.new.shapes.list.items c.args.shapes.now.asks.items c.put.new.asks.items c.settle-place.result c.opened-shape.result c.args.name.now c.settle-place.ensures.settles fits (ap (λ (s : Shape). s.count) is)

pub returns-clause-asked : goal.returns-clause-asked
returns-clause-asked c =
    let is : c.opened-shape.result ≡ opened c.args.name.now = c.opened-shape.ensures in
    let fits = subst (Fits c.args.name.now) (sym is) (own_fits c.args.name.now 1) in
    let same : c.ask_for.result ≡ ask_of c.settle-place.result c.opened-shape.result = c.ask_for.ensures ∙ sym (ap (ask_of c.settle-place.result) is) in
    let puts : Puts c.args.shapes.now.asks.items c.put.new.asks.items (ask_of c.settle-place.result c.opened-shape.result) = subst (λ (a : Ask). Puts c.args.shapes.now.asks.items c.put.new.asks.items a) same (rw c.settle-place.ensures.asks at c.put.ensures.puts) in
    opened_asked c.args.shapes.now.list.items c.settle-place.new.shapes.list.items c.args.shapes.now.asks.items c.put.new.asks.items c.settle-place.result c.opened-shape.result c.args.name.now c.settle-place.ensures.settles fits (ap (λ (s : Shape). s.count) is) c.requires.asked puts c.put.ensures.order
