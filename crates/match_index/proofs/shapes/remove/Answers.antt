use Rattle.std.proofs.Common.{◌≡◌, true, List, sym, subst}
use Rattle.match_index.specs.declared.shapes.Shape.{Shape}
use Rattle.match_index.specs.Shapes.{has_row, IsGone, IsEmptyAt}
use Rattle.match_index.proofs.Rows.{removed_rows, clear_gone, clear_removed}
use Rattle.match_index.proofs.shapes.remove.Goals as goal

pub returns-in-Some-clause-gone : goal.returns-in-Some-clause-gone
returns-in-Some-clause-gone c =
    let empty : IsEmptyAt c.lose_in_each.new.shapes.items c.in-Some.place = subst (λ (shapes : List Shape). IsEmptyAt shapes c.in-Some.place) c.as_slice.ensures.value c.in-Some.ensures in
    subst (λ (shapes : List Shape). IsGone shapes c.args.print c.args.seq) (sym c.remove.ensures.items)
    (clear_gone _ c.args.print c.args.seq (clear_removed c.lose_in_each.new.shapes.items c.in-Some.place c.args.print c.args.seq empty.in_range c.lose_in_each.ensures.gone))

pub returns-in-Some-clause-others : goal.returns-in-Some-clause-others
returns-in-Some-clause-others c =
    let empty : IsEmptyAt c.lose_in_each.new.shapes.items c.in-Some.place = subst (λ (shapes : List Shape). IsEmptyAt shapes c.in-Some.place) c.as_slice.ensures.value c.in-Some.ensures in
    λ others other differ has. subst (λ (shapes : List Shape). has_row shapes others other ≡ true) (sym c.remove.ensures.items)
    (removed_rows c.lose_in_each.new.shapes.items c.in-Some.place empty others other (c.lose_in_each.ensures.others others other differ has))

pub returns-in_default-clause-gone : goal.returns-in_default-clause-gone
returns-in_default-clause-gone c = clear_gone c.lose_in_each.new.shapes.items c.args.print c.args.seq c.lose_in_each.ensures.gone

pub returns-else-len-gt1-clause-gone : goal.returns-else-len-gt1-clause-gone
returns-else-len-gt1-clause-gone c = clear_gone c.lose_in_each.new.shapes.items c.args.print c.args.seq c.lose_in_each.ensures.gone
