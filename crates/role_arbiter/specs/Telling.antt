-- Who is told of a step (P4Runtime 1.3.0, "Mastership Arbitration"; where the standard leaves it open: this project's profile).
use Rattle.std.specs.Prelude.{ℕ, ◌==◌, Bool, true, false, ◌&&◌, ◌||◌, not, if◌then◌else◌, List, [], map, filter, Option, Some, None}
use Rattle.std.specs.Str.{bytes_eq}
use Rattle.role_arbiter.specs.declared.sessions.Session.{Session}
use Rattle.role_arbiter.specs.Election.{election_number}
use Rattle.role_arbiter.specs.State.{RolesState, session_in, primary_of}
use Rattle.role_arbiter.specs.Arbitration.{arbitrated}

-- the same ids in the same order, or no configuration
abbrev pub same_config : Option (List ℕ) → Option (List ℕ) → Bool
same_config None None = true
same_config None (Some ids) = false
same_config (Some ids) None = false
same_config (Some ids) (Some others) = bytes_eq ids others

-- the primary differs in lane, election id or configuration, or only one of the two is there
abbrev pub differs : Option Session → Option Session → Bool
differs None None = false
differs None (Some after) = true
differs (Some before) None = true
differs (Some before) (Some after) = not (before.caller == after.caller) || not (election_number before.election_id == election_number after.election_id) || not (same_config before.config after.config)

-- the callers of the sessions that pass a test, by rising lane
abbrev pub callers_where : (Session → Bool) → List Session → List ℕ
callers_where test sessions = map (λ session. session.caller) (filter test sessions)

-- the caller, and the others of its role where they are to be told
abbrev pub with_others : Bool → Session → List Session → List ℕ
with_others others new sessions = callers_where (λ session. (session.caller == new.caller) || others && (session.role == new.role)) sessions

-- who is told of an arbitration: the caller, and all others of its role where the role's primary differs
abbrev pub told_at_arbitration : RolesState → Session → List ℕ
told_at_arbitration state new = with_others (differs (primary_of state new.role) (primary_of (arbitrated state new) new.role)) new (arbitrated state new).sessions

-- the others of a role
abbrev pub others_of : ℕ → ℕ → List Session → List ℕ
others_of caller role sessions = callers_where (λ session. not (session.caller == caller) && (session.role == role)) sessions

-- there is a session, and it is this caller's
abbrev pub is_caller : ℕ → Option Session → Bool
is_caller caller None = false
is_caller caller (Some session) = session.caller == caller

-- who is told that this session ends: all others of its role where it was the primary, else nobody
abbrev pub told_by_end : Option Session → RolesState → List ℕ
told_by_end None state = []
told_by_end (Some ended) state = if is_caller ended.caller (primary_of state ended.role) then others_of ended.caller ended.role state.sessions else []

-- who is told that a caller's session ends: all others of its role where it was the primary, else nobody
abbrev pub told_at_leave : RolesState → ℕ → List ℕ
told_at_leave state caller = told_by_end (session_in state.sessions caller) state
