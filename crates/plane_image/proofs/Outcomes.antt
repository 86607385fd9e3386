-- What an update does, from what it is resolved to and from what its change answers.
use Rattle.std.proofs.Common.{◌≡◌, ℕ, Option, Some, None, Ok, Err, ap, ◌∙◌}
use Rattle.p4_types.specs.declared.code.Cause.{Cause}
use Rattle.p4_types.specs.declared.messages.Update.{Update}
use Rattle.p4_types.specs.declared.table.Change.{Change}
use Rattle.plane_spec.specs.Planes.{ControlState, Plane, target, room_of, cause_in, checked, outcome_in, outcome}
use Rattle.plane_spec.specs.UpdateRules.{change_unless}
use Rattle.plane_image.specs.Image.{resolved_in, resolved}

unlike : (cause : Cause) (change : Change) → Err cause ≡ Ok change → ⊥
unlike cause change h = cc

err_in : (o : Option Plane) (c : ControlState) (role : ℕ) (update : Update) (cause : Cause) → resolved_in o c role update ≡ Err cause → outcome_in o c role update ≡ Err cause
err_in None c role update cause h = h
err_in (Some plane) c role update cause h = ap (checked (room_of c) plane) h

pub err_outcome : (c : ControlState) (role : ℕ) (update : Update) (cause : Cause) → resolved c role update ≡ Err cause → outcome c role update ≡ Err cause
unfolding outcome
err_outcome c role update cause h = err_in (target c) c role update cause h

ok_in : (o : Option Plane) (c : ControlState) (role : ℕ) (update : Update) (change : Change) (cause : Option Cause) → resolved_in o c role update ≡ Ok change → cause_in o (room_of c) change ≡ cause → outcome_in o c role update ≡ change_unless cause change
ok_in None c role update change cause h is = absurd (unlike _ _ h)
ok_in (Some plane) c role update change cause h is = ap (checked (room_of c) plane) h ∙ ap (λ o. change_unless o change) is

pub ok_outcome : (c : ControlState) (role : ℕ) (update : Update) (change : Change) (cause : Option Cause) → resolved c role update ≡ Ok change → cause_in (target c) (room_of c) change ≡ cause → outcome c role update ≡ change_unless cause change
unfolding outcome
ok_outcome c role update change cause h is = ok_in (target c) c role update change cause h is
