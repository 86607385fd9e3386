-- Events that may follow one another keep the roles sound.
use Rattle.std.proofs.Common.{◌≡◌, Bool, true, false, List, [], ◌∷◌, Option, Some, None, if◌then◌else◌, refl, sym, subst}
use Rattle.p4_types.specs.declared.events.Event.TheVariants as events
use Rattle.role_arbiter.specs.declared.sessions.Session.{Session}
use Rattle.role_arbiter.specs.Arbitration.{arbitrated, settled}
use Rattle.role_arbiter.specs.Laws.{IsSound, plain_update}
use Rattle.role_arbiter.specs.State.{no_roles}
use Rattle.role_arbiter.proofs.Settling.{takes_effect}
use Rattle.role_arbiter.proofs.Soundness.{stays_sound}
use Rattle.p4_types.specs.declared.events.Committed.TheVariants as contents
use Rattle.plane_spec.specs.Bridge.{bridge_session}
use Rattle.plane_spec.specs.Config.{Committed, Event}
use Rattle.plane_spec.specs.Legal.{May, Legal}
use Rattle.plane_spec.specs.Planes.{ControlState, Plane, apply, applied, staged_committed, committed}
use Rattle.plane_spec.specs.RoleLaws.{RolesStaySound}
use Rattle.plane_spec.proofs.Steady.{change_steady, fold_roles}

staged_roles : (o : Option Plane) (c : ControlState) → (staged_committed o c).roles ≡ c.roles
staged_roles None c = refl
staged_roles (Some plane) c = refl

committed_roles : (content : Committed) (c : ControlState) → (committed c content).roles ≡ c.roles
committed_roles contents.Staged c = staged_roles c.staged c
committed_roles (contents.Fresh config) c = refl

after_event : (event : Event) (c : ControlState) → IsSound c.roles → May c event → IsSound (apply c event).roles
after_event (events.Arbitrate by config) c sound may =
    let m = may.1 in
    let kept = stays_sound.arbitration c.roles by.caller m.update sound m.no_cause in
    subst (λ (new : Session). IsSound (settled c.roles new)) m.asks (subst IsSound (sym (takes_effect c.roles by.caller m.update m.no_cause)) kept)
after_event (events.Leave caller call) c sound may = stays_sound.leave c.roles caller sound
after_event (events.Change by change) c sound may = subst IsSound (sym (change_steady change c).roles) sound
after_event (events.Batch by list) c sound may = subst IsSound (sym (fold_roles list c)) sound
after_event (events.Save by config) c sound may = sound
after_event (events.Commit by content) c sound may = subst IsSound (sym (committed_roles content c)) sound
after_event events.Close c sound may = sound

after_events : (list : List Event) (c : ControlState) → IsSound c.roles → Legal c list → IsSound (applied c list).roles
after_events [] c sound legal = sound
after_events (event ∷ list) c sound legal = after_events list (apply c event) (after_event event c sound legal.0) legal.1

at_start : (bridge : Bool) → IsSound (if bridge then arbitrated no_roles bridge_session else no_roles)
at_start true = stays_sound.arbitration no_roles 0 (plain_update 1) stays_sound.at_first refl
at_start false = stays_sound.at_first

pub roles_stay_sound : RolesStaySound
roles_stay_sound start list legal = after_events list _ (at_start start.bridge) legal
