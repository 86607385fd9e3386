use Rattle.std.proofs.Common.{sym, ◌∙◌, ap, subst}
use Rattle.event_log.specs.Legal.{after}
use Rattle.event_log.proofs.Adding.{adds}
use Rattle.event_log.proofs.told.Told.add.Goals as goal

pub compare_exchange-found-requires : goal.compare_exchange-found-requires
compare_exchange-found-requires g c =
    let m = g.M.Machine in
    let word = c.log.invariant in
    let book = ap (λ k. k.list) c.self.view_is ∙ sym c.requires.log ∙ sym c.log.view_is in
    let offer = c.plain-offer.ensures in
    let pen = c.no_pen-pen.ensures in
    let may = subst (λ es. m.may (after m.applied m.start es) c.args.event.now) (sym (ap (λ k. k.events) c.self.view_is)) c.requires.may in (
      ap (λ w. w.tracked) word,
      book,
      pen.0 ∙ book,
      offer.0,
      rw (ap (λ w. w.key) word, pen.1, offer.1, offer.3) (adds m.start m.applied m.may c.self.inside.seen.log c.args.event.now c.self.inside.count (sym c.self.invariant.0) may),
    )
