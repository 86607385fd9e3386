use Rattle.std.proofs.Common.{◌<◌, ◌≤◌, All, ap, sym, subst, length, arith}
use Rattle.std.proofs.lemmas.List.Elements.{All-weaker}
use Rattle.idle_words.specs.declared.idle.Watched.{Watched}
use Rattle.idle_words.specs.declared.idle.Mark.{Mark}
use Rattle.idle_words.proofs.Scanning.{marks_within}
use Rattle.idle_words.proofs.idle.Idle.tick.Goals as goal

pub raise_all-requires : goal.raise_all-requires
raise_all-requires c =
    let room = length c.as_mut_slice.result.now in
    let same = ap (λ r. length r.untold) c.self.view_is in
    let long : c.args.stamps.now.count ≤ room = omega (arith, c.requires.room, same, ap length c.as_mut_slice.ensures.value) in
    let range = All-weaker (λ (e : Watched). e.stamp < c.args.stamps.now.count) (λ (e : Watched). e.stamp < room) (λ e lt. omega (arith, lt, long)) c.args.entries.now c.requires.range in
    subst (λ l. All (λ (m : Mark). m.stamp < room) l) (sym c.as_slice-2.ensures) (marks_within room c.in_ok-found.ensures.ok range)
