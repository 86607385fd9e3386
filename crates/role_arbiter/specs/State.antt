-- Live sessions, the roles that were named, and the primary of a role (P4Runtime 1.3.0, "Mastership Arbitration").
use Rattle.std.specs.Prelude.{ℕ, ◌==◌, Bool, ◌&&◌, not, if◌then◌else◌, List, [], Option, Some, None}
use Rattle.std.specs.List.{find}
use Rattle.p4_types.specs.declared.code.Code.{Code}
use Rattle.p4_types.specs.declared.code.Code.TheVariants as codes
use Rattle.p4_types.specs.declared.messages.Uint128.{Uint128}
use Rattle.role_arbiter.specs.declared.sessions.Session.{Session}
use Rattle.role_arbiter.specs.declared.sessions.NamedRole.{NamedRole}
use Rattle.role_arbiter.specs.Election.{election_number}

-- who may write: the live sessions, and what the roles that were named received
pub record RolesState : Type 0 where
  -- the live sessions, by rising caller
  pub sessions : List Session
  -- the roles that were ever named, each with the greatest election id that it ever received
  pub named : List NamedRole

-- before the first arbitration
abbrev pub no_roles : RolesState
no_roles = record { sessions = []; named = [] }

-- the session of a caller, if it has one
abbrev pub session_in : List Session → ℕ → Option Session
session_in sessions caller = find (λ session. session.caller == caller) sessions

-- the greatest election id that a named role received, 0 for a role that was not named
abbrev pub greatest_or_zero : Option NamedRole → Uint128
greatest_or_zero None = record { high = 0; low = 0 }
greatest_or_zero (Some known) = known.greatest

-- the greatest election id that a role ever received, or 0
abbrev pub greatest_in : List NamedRole → ℕ → Uint128
greatest_in named role = greatest_or_zero (find (λ known. known.role == role) named)

-- the session of the role bears this election id, which is not 0
abbrev pub bears : ℕ → Uint128 → Session → Bool
bears role id session = (session.role == role) && not (election_number session.election_id == 0) && (election_number session.election_id == election_number id)

-- the live session of the role that bears this election id, if it is not 0
abbrev pub primary_with : List Session → ℕ → Uint128 → Option Session
primary_with sessions role greatest = find (λ session. bears role greatest session) sessions

-- the live session of the role that bears the greatest election id that the role ever received, or none
abbrev pub primary_in : List Session → List NamedRole → ℕ → Option Session
primary_in sessions named role = primary_with sessions role (greatest_in named role)

-- the primary of a role, if it has one
abbrev pub primary_of : RolesState → ℕ → Option Session
primary_of state role = primary_in state.sessions state.named role

-- what a session is told: whether it is the primary of its role, or there is another one, or none
abbrev pub status_by : Option Session → ℕ → Code
status_by None caller = codes.NotFound
status_by (Some primary) caller = if primary.caller == caller then codes.Ok else codes.AlreadyExists

-- the status of this session, if there is one
abbrev pub status_in : Option Session → RolesState → Option Code
status_in None state = None
status_in (Some session) state = Some (status_by (primary_of state session.role) session.caller)

-- the status of a caller's session, if it has one
abbrev pub status_of : RolesState → ℕ → Option Code
status_of state caller = status_in (session_in state.sessions caller) state
