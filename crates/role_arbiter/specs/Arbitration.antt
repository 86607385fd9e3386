-- An arbitration: why it is refused, and what it makes of the sessions (P4Runtime 1.3.0, "Mastership Arbitration"; limits: this project's profile).
use Rattle.std.specs.Prelude.{ℕ, ◌<◌, ◌≤◌, ◌^◌, ◌==◌, All, nat_lt, nat_le, Bool, ◌&&◌, ◌||◌, not, if◌then◌else◌, List, [], ◌∷◌, length, filter, Option, Some, None, is_none, unwrap_or}
use Rattle.std.specs.List.{list_any}
use Rattle.p4_types.specs.declared.code.ArbitrationRule.{ArbitrationRule}
use Rattle.p4_types.specs.declared.code.ArbitrationRule.TheVariants as rules
use Rattle.p4_types.specs.declared.calls.ArbitrationUpdate.{ArbitrationUpdate}
use Rattle.p4_types.specs.declared.messages.Uint128.{Uint128}
use Rattle.role_arbiter.specs.declared.sessions.Session.{Session}
use Rattle.role_arbiter.specs.declared.sessions.NamedRole.{NamedRole}
use Rattle.role_arbiter.specs.Election.{election_number}
use Rattle.role_arbiter.specs.State.{RolesState, bears}

-- the caller's session has another role
abbrev pub has_other_role : List Session → ℕ → ℕ → Bool
has_other_role sessions caller role = list_any (λ session. (session.caller == caller) && not (session.role == role)) sessions

-- another session of the role bears the same election id, which is not 0
abbrev pub id_is_taken : List Session → ℕ → ℕ → Uint128 → Bool
id_is_taken sessions caller role id = list_any (λ session. not (session.caller == caller) && bears role id session) sessions

-- the caller has a live session
abbrev pub has_session : List Session → ℕ → Bool
has_session sessions caller = list_any (λ session. session.caller == caller) sessions

-- the role was named before
abbrev pub is_named : List NamedRole → ℕ → Bool
is_named named role = list_any (λ known. known.role == role) named

-- there would be a 33rd live session
abbrev pub lacks_session : List Session → ℕ → Bool
lacks_session sessions caller = not (has_session sessions caller) && nat_le 32 (length sessions)

-- there would be a 65th role
abbrev pub lacks_role : List NamedRole → ℕ → Bool
lacks_role named role = not (is_named named role) && nat_le 64 (length named)

-- the first rule of A2 to A5 that an update of a caller breaks, if it breaks one; the device (A1) is looked at before
abbrev pub cause : RolesState → ℕ → ArbitrationUpdate → Option ArbitrationRule
cause state caller update =
    if has_other_role state.sessions caller update.role then Some rules.A2
    else if is_none update.config then Some rules.A3
    else if id_is_taken state.sessions caller update.role update.election_id then Some rules.A4
    else if lacks_session state.sessions caller || lacks_role state.named update.role then Some rules.A5
    else None

-- the session that an update asks for
abbrev pub asked : ℕ → ArbitrationUpdate → Session
asked caller update = record { caller = caller; role = update.role; election_id = update.election_id; config = unwrap_or update.config None }

-- the session in the place of its caller's
abbrev pub replaced : List Session → Session → List Session
replaced [] new = []
replaced (session ∷ rest) new = if session.caller == new.caller then new ∷ rest else session ∷ replaced rest new

-- the session before those of greater callers
abbrev pub inserted : List Session → Session → List Session
inserted [] new = new ∷ []
inserted (session ∷ rest) new = if nat_lt new.caller session.caller then new ∷ session ∷ rest else session ∷ inserted rest new

-- the sessions with this one as its caller's
abbrev pub with_session : List Session → Session → List Session
with_session sessions new = if has_session sessions new.caller then replaced sessions new else inserted sessions new

-- the greater of two election ids
abbrev pub greater : Uint128 → Uint128 → Uint128
greater a b = if nat_lt (election_number a) (election_number b) then b else a

-- the roles that were named, after one of them received an election id
abbrev pub received : List NamedRole → ℕ → Uint128 → List NamedRole
received [] role id = record { role = role; greatest = id } ∷ []
received (known ∷ rest) role id = if known.role == role then record known { greatest = greater known.greatest id } ∷ rest else known ∷ received rest role id

-- the state after an arbitration that is not refused: the session is made, or takes the new election id and configuration
abbrev pub arbitrated : RolesState → Session → RolesState
arbitrated state new = record { sessions = with_session state.sessions new; named = received state.named new.role new.election_id }

-- no session like this can be made in this state: the caller has another role, the id is taken, or there would be too many
abbrev pub is_refused : RolesState → Session → Bool
is_refused state new =
    has_other_role state.sessions new.caller new.role || id_is_taken state.sessions new.caller new.role new.election_id
    || lacks_session state.sessions new.caller || lacks_role state.named new.role

-- the state after an arbitration; one that cannot take effect leaves it
abbrev pub settled : RolesState → Session → RolesState
settled state new = if is_refused state new then state else arbitrated state new

-- the state after a caller's session ended, if it had one; what its role received stays
abbrev pub left : RolesState → ℕ → RolesState
left state caller = record state { sessions = filter (λ session. not (session.caller == caller)) state.sessions }

-- What a configuration of a role may be: none, or at most 128 ids of 32 bits. Role 0 has none.
abbrev pub IsServedConfig : ℕ → Option (List ℕ) → Type 0
IsServedConfig role None = Unit {0}
IsServedConfig role (Some ids) = (0 < role) × (length ids ≤ 128) × All (λ id. id < 2 ^ 32) ids
