use Rattle.std.proofs.Common.{sym, ◌∙◌, ap}
use Rattle.event_log.proofs.Adding.{adds}
use Rattle.run_press.proofs.published.add.Goals as goal

pub compare_exchange-requires : goal.compare_exchange-requires
compare_exchange-requires c =
    let word = c.requires.word in
    let offer = c.plain-offer.ensures in
    let pen = c.no_pen-pen.ensures in (
      ap (λ w. w.tracked) word,
      sym (ap (λ w. w.book) word),
      pen.0 ∙ sym (ap (λ w. w.book) word),
      offer.0,
      rw (ap (λ w. w.key) word, pen.1, offer.1, offer.3) (adds {S = Unit {0}} tt (λ s event. s) (λ s event. Unit {0}) c.args.begun.now.log c.args.event.now c.args.count (sym c.requires.count) tt),
    )
