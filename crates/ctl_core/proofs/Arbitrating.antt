-- The answer to an arbitration that no rule refuses.
use Rattle.std.proofs.Common.{◌≡◌, ℕ, ◌==◌, true, List, [], ◌∷◌, Option, None, refl, ap, ◌∙◌, sym}
use Rattle.p4_types.specs.declared.calls.Notice.{Notice}
use Rattle.plane_spec.specs.Config.{Event}
use Rattle.p4_types.specs.declared.events.Event.TheVariants as events
use Rattle.p4_types.specs.declared.calls.ArbitrationUpdate.{ArbitrationUpdate}
use Rattle.p4_types.specs.declared.messages.MasterArbitrationUpdate.{MasterArbitrationUpdate}
use Rattle.role_arbiter.specs.declared.sessions.Session.{Session}
use Rattle.p4_types.specs.declared.events.Origin.{Origin}
use Rattle.role_arbiter.specs.Arbitration.{cause, asked, arbitrated, settled}
use Rattle.role_arbiter.proofs.Settling.{takes_effect}
use Rattle.role_arbiter.specs.State.{RolesState}
use Rattle.role_arbiter.specs.Telling.{told_at_arbitration}
use Rattle.p4v1_read.specs.RoleConfigs.{read_update}
use Rattle.switch_spec.specs.Answer.{arbitration_unless, arbitration_answer}
use Rattle.plane_spec.specs.Planes.{ControlState, session_by, with_roles}
use Rattle.switch_spec.specs.Notices.{standing_notices}

pub not_refused : (c : ControlState) (lane k : ℕ) (update : MasterArbitrationUpdate) → (update.device_id == c.device) ≡ true → cause c.roles lane (read_update update) ≡ None
    → arbitration_answer c lane k update ≡ arbitration_unless None c lane k (read_update update)
not_refused c lane k update device accepted = rw (device, accepted) refl

-- the state with the session that was asked for is that behind its event
pub entered : (c : ControlState) (update : ArbitrationUpdate) (by : Origin) (session : Session) (config : Option (List ℕ)) → session ≡ asked by.caller update → asked by.caller update ≡ session_by by config → cause c.roles by.caller update ≡ None
    → with_roles c (arbitrated c.roles session) ≡ with_roles c (settled c.roles (session_by by config))
entered c update by session config is asks accepted =
    ap (λ (s : Session). with_roles c (arbitrated c.roles s)) is ∙ ap (with_roles c) (sym (takes_effect c.roles by.caller update accepted)) ∙ ap (λ (s : Session). with_roles c (settled c.roles s)) asks

-- what is told and handed on, where the session is the one that was asked for
pub told : (c : ControlState) (update : ArbitrationUpdate) (lane : ℕ) (session : Session) (roles : RolesState) (lanes : List ℕ) (notices : List Notice) → session ≡ asked lane update
    → roles ≡ arbitrated c.roles session → lanes ≡ told_at_arbitration c.roles session → notices ≡ standing_notices c.device roles session.role lanes
    → let new = asked lane update in notices ≡ standing_notices c.device (arbitrated c.roles new) new.role (told_at_arbitration c.roles new)
told c update lane session roles lanes notices is roles_are lanes_are told_is = told_is
    ∙ ap (λ r. standing_notices c.device r session.role lanes) roles_are
    ∙ ap (λ l. standing_notices c.device (arbitrated c.roles session) session.role l) lanes_are
    ∙ ap (λ s. standing_notices c.device (arbitrated c.roles s) s.role (told_at_arbitration c.roles s)) is

pub handed : (k lane : ℕ) (update : ArbitrationUpdate) (session : Session) (config : Option (List ℕ)) (list : List Event) → session ≡ asked lane update → config ≡ session.config
    → list ≡ events.Arbitrate (record { caller = lane; call = k; role = session.role; election_id = session.election_id }) config ∷ []
    → let new = asked lane update in list ≡ events.Arbitrate (record { caller = lane; call = k; role = new.role; election_id = new.election_id }) new.config ∷ []
handed k lane update session config list is config_is made = made
    ∙ ap (λ o. events.Arbitrate (record { caller = lane; call = k; role = session.role; election_id = session.election_id }) o ∷ []) config_is
    ∙ ap (λ s. events.Arbitrate (record { caller = lane; call = k; role = s.role; election_id = s.election_id }) s.config ∷ []) is

abbrev session_of : ℕ → Session → Option (List ℕ) → Session
session_of lane s config = record { caller = lane; role = s.role; election_id = s.election_id; config = config }

-- the session that was asked for is the one that the event makes
pub asks_for : (lane k : ℕ) (update : ArbitrationUpdate) (session : Session) (config : Option (List ℕ)) → session ≡ asked lane update → config ≡ session.config
    → asked lane update ≡ session_by (record { caller = lane; call = k; role = session.role; election_id = session.election_id }) config
asks_for lane k update session config is config_is = ap (λ s. session_of lane s s.config) (sym is) ∙ ap (λ o. session_of lane session o) (sym config_is)
