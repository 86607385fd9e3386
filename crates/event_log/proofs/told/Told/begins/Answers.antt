use Rattle.std.proofs.Common.{length, ap, ◌∙◌, subst}
use mathlib.Core.List.{IsPrefix}
use Rattle.event_log.proofs.Comparing.{compares}
use Rattle.event_log.proofs.told.Told.begins.Goals as goal

pub returns : goal.returns
returns g c =
    let both = c.learn.new.self.log in
    let own = ap (λ k. k.events) c.self.view_is in
    let its = ap (λ k. k.events) c.other.view_is in
    let first = subst (λ l. IsPrefix l both) (ap (λ s. s.log) c.again-both.ensures ∙ own) c.learn.ensures.2 in
    let second = subst (λ l. IsPrefix l both) its c.learn.ensures.3 in
    compares c.args.self.now c.args.other.now both c.self.inside.count c.other.inside.count
    (c.self.invariant.0 ∙ ap length own) (c.other.invariant.0 ∙ ap length its) c.requires first second
