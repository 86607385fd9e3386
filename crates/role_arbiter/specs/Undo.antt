-- What undoes a step of the roles.
use Rattle.std.specs.Prelude.{ℕ, ◌-◌, ◌==◌, not, if◌then◌else◌, List, [], ◌∷◌, length, filter, take, Option, Some, None}
use Rattle.p4_types.specs.declared.messages.Uint128.{Uint128}
use Rattle.role_arbiter.specs.declared.sessions.NamedRole.{NamedRole}
use Rattle.role_arbiter.specs.declared.sessions.Session.{Session}
use Rattle.role_arbiter.specs.declared.undo.Step.{Step}
use Rattle.role_arbiter.specs.declared.undo.Step.TheVariants as steps
use Rattle.role_arbiter.specs.Arbitration.{replaced, inserted}
use Rattle.role_arbiter.specs.State.{RolesState}

-- the roles as they are, and as they were before the step that can be undone
pub record RolesVersions : Type 0 where
  pub now : RolesState
  pub before : RolesState

-- the sessions with that which the caller had, or without one
abbrev pub session_back : ℕ → Option Session → List Session → List Session
session_back caller None sessions = filter (λ session. not (session.caller == caller)) sessions
session_back caller (Some former) sessions = replaced sessions former

-- the roles with this as the greatest election id of one of them
abbrev pub with_greatest : List NamedRole → ℕ → Uint128 → List NamedRole
with_greatest [] role id = []
with_greatest (known ∷ rest) role id = if known.role == role then (record { role = known.role; greatest = id }) ∷ rest else known ∷ with_greatest rest role id

-- the roles with what one of them had received, or without the last one, which was not named then
abbrev pub named_back : ℕ → Option Uint128 → List NamedRole → List NamedRole
named_back role None named = take (length named - 1) named
named_back role (Some id) named = with_greatest named role id

-- the roles before a step
abbrev pub back : Step → RolesState → RolesState
back steps.Nothing state = state
back (steps.Entered caller role session greatest) state = record { sessions = session_back caller session state.sessions; named = named_back role greatest state.named }
back (steps.Left session) state = record state { sessions = inserted state.sessions session }
