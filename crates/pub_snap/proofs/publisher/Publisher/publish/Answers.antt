use Rattle.std.proofs.Common.{◌≡◌, fold, refl, sym, ap, ◌∙◌}
use Rattle.pub_snap.specs.Snapshots.{Snapshot, shifted, shifts}
use Rattle.pub_snap.proofs.Seeing.{are_published, is_published}
use Rattle.pub_snap.proofs.publisher.Publisher.publish.Goals as goal

pub show_here-requires : goal.show_here-requires
show_here-requires g c =
    let i = c.self.invariant in
    let p = are_published c.self.inside.writer.desk.shown.value c.self.inside.told c.self.inside.pending.items i.1 i.2 i.4.legal in
    rw (c.list_all.ensures.desk, c.list_all.ensures.noted) p.showable

pub invariant_of-self : goal.invariant_of-self
invariant_of-self g c =
    let i = c.self.invariant in
    let told = c.list_all.ensures.told in
    let p = are_published c.self.inside.writer.desk.shown.value c.self.inside.told c.self.inside.pending.items i.1 i.2 i.4.legal in
    let shown : c.show_here.new.writer.desk.shown.value ≡ fold shifted c.self.inside.writer.desk.shown.value (shifts c.self.inside.told c.self.inside.pending.items) =
    c.show_here.ensures.shown ∙ rw (c.list_all.ensures.desk, c.list_all.ensures.noted) refl in (
      i.0 ∙ sym (ap (λ b. b.list) told),
      ap (λ (s : Snapshot). s.told) shown ∙ (p.told_is ∙ sym told),
      rw (shown, told) p.after,
      c.show_here.ensures.done,
      rw (told, c.list_all.ensures.pending) (is_published c.self.inside.told c.self.inside.pending.items i.4),
    )
