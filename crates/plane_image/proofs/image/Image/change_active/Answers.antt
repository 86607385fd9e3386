use Rattle.std.proofs.Common.{◌≡◌, ◌+◌, is_some, ap, ◌∙◌, sym, subst, refl}
use Rattle.plane_spec.specs.Planes.{room_of, change_applied}
use Rattle.plane_image.specs.Image.{PlanesVersions, IsNumbered, control_of}
use Rattle.plane_image.proofs.Changing.{active_changed}
use Rattle.plane_image.proofs.Numbering.{active_numbered}
use Rattle.plane_image.proofs.image.Image.change_active.Goals as goal

pub invariant_of-self : goal.invariant_of-self
invariant_of-self c =
    let i = c.self.inside in
    let room : c.room-room.result ≡ room_of (control_of i.device i.cpu i.rows i.slots i.roles.now i.planes.active i.planes.staged i.next i.next_slot i.closed) = c.room-room.ensures ∙ ap (λ v. room_of v.now) (sym c.self.view_is) in
    let drawn = c.in-Ok.drawn in
    let now : PlanesVersions → Type 0 = λ q. IsNumbered (control_of i.device i.cpu i.rows i.slots i.roles.now q.active q.staged (i.next + drawn.numbers) (i.next_slot + drawn.slots) i.closed) in
    let before : PlanesVersions → Type 0 = λ q. IsNumbered (control_of i.device i.cpu i.rows i.slots i.roles.before q.former_active q.former_staged i.former_next i.former_slot i.closed) in
    record {
      now = subst now (sym c.in-Ok.ensures.ok) (active_numbered i.device i.cpu i.rows i.slots i.roles.now i.planes.active i.planes.staged i.next i.next_slot i.closed c.args.change.now c.room-room.result _ drawn
          c.self.invariant.now room c.in-Ok.ensures.refused refl c.in-Ok.ensures.drawn);
      before = subst before (sym c.in-Ok.ensures.ok) c.self.invariant.before;
    }

pub returns-in-Ok-clause-ok : goal.returns-in-Ok-clause-ok
returns-in-Ok-clause-ok c =
    let i = c.self.inside in
    let room : c.room-room.result ≡ room_of (control_of i.device i.cpu i.rows i.slots i.roles.now i.planes.active i.planes.staged i.next i.next_slot i.closed) = c.room-room.ensures ∙ ap (λ v. room_of v.now) (sym c.self.view_is) in
    let drawn = c.in-Ok.drawn in
    ap (λ (q : PlanesVersions). control_of i.device i.cpu i.rows i.slots i.roles.now q.active q.staged (i.next + drawn.numbers) (i.next_slot + drawn.slots) i.closed) c.in-Ok.ensures.ok
    ∙ active_changed i.device i.cpu i.rows i.slots i.roles.now i.planes.active i.planes.staged i.next i.next_slot i.closed c.args.change.now c.room-room.result _ drawn
    (ap (λ v. is_some v.now.staged) c.self.view_is ∙ c.requires.staged) room c.in-Ok.ensures.refused refl c.in-Ok.ensures.drawn
    ∙ ap (λ v. change_applied v.now c.args.change.now) c.self.view_is
