use Rattle.std.proofs.Common.{[], ap, sym, ◌∙◌, arith}
use Rattle.lane_table.specs.Ruling.{holding}
use Rattle.lane_table.proofs.Keeping.{appends_at}
use Rattle.lane_table.proofs.table.LaneTable.sign.Goals as goal

pub compare_exchange_with-requires : goal.compare_exchange_with-requires
compare_exchange_with-requires g c = (
  c.take.ensures.0 ∙ c.blank-blank.ensures.0 ∙ ap (λ j. j.table) c.journal.view_is ∙ c.requires.journal ∙ sym c.self.view_is,
  omega (arith, c.self.invariant),
  appends_at g.E.OfLane.lane _ _ _ _ _ _ _ _
      (c.take.ensures.1 ∙ ap (λ o. (holding c.blank-blank.new.journal.me.0 o.me.0, [])) c.replace-mine.ensures.value ∙ ap (λ m. (holding c.blank-blank.new.journal.me.0 m.0, [])) c.lane.invariant)
      (c.requires.entry ∙ sym (ap (λ l. l.number) c.lane.view_is)),
)
