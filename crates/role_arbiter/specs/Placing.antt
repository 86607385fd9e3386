-- Where the roles have what an arbitration asks for.
use Rattle.std.specs.Prelude.{◌≡◌, ℕ, ◌==◌, Bool, false, not, nat_le, ◌&&◌, ◌||◌, if◌then◌else◌, List, length, Option, Some, None, is_none, position}
use Rattle.std.specs.List.{slice_get}
use Rattle.p4_types.specs.declared.code.ArbitrationRule.{ArbitrationRule}
use Rattle.p4_types.specs.declared.code.ArbitrationRule.TheVariants as rules
use Rattle.p4_types.specs.declared.calls.ArbitrationUpdate.{ArbitrationUpdate}
use Rattle.role_arbiter.specs.declared.sessions.NamedRole.{NamedRole}
use Rattle.role_arbiter.specs.declared.sessions.Placed.{Placed}
use Rattle.role_arbiter.specs.declared.sessions.Session.{Session}
use Rattle.role_arbiter.specs.Arbitration.{id_is_taken}
use Rattle.role_arbiter.specs.State.{RolesState}

-- where a caller's session stands among the live ones, if it has one
abbrev pub place_of : List Session → ℕ → Option ℕ
place_of sessions caller = position (λ session. session.caller == caller) sessions

-- where a role stands among those that were named, if it was
abbrev pub place_of_role : List NamedRole → ℕ → Option ℕ
place_of_role named role = position (λ known. known.role == role) named

-- what stands at a place, if it is one of the list
abbrev pub placed_at : {X : Type 0} → Option ℕ → List X → Option X
placed_at None xs = None
placed_at (Some place) xs = slice_get xs place

-- the places are those of the session's caller and of its role
pub record IsPlaced (state : RolesState) (new : Placed) : Type 0 where
  pub place : new.place ≡ place_of state.sessions new.session.caller
  pub known : new.known ≡ place_of_role state.named new.session.role

-- there is a session, and its role is another
abbrev pub has_role_beside : ℕ → Option Session → Bool
has_role_beside role None = false
has_role_beside role (Some session) = not (session.role == role)

-- there would be one more than so many, where there is no place yet
abbrev pub lacks : {X : Type 0} → ℕ → Option ℕ → List X → Bool
lacks limit place xs = is_none place && nat_le limit (length xs)

-- the first rule of A2 to A5 that an update breaks, by the places of its caller's session and of its role
abbrev pub cause_at : RolesState → Option ℕ → Option ℕ → ℕ → ArbitrationUpdate → Option ArbitrationRule
cause_at state place known caller update =
    if has_role_beside update.role (placed_at place state.sessions) then Some rules.A2
    else if is_none update.config then Some rules.A3
    else if id_is_taken state.sessions caller update.role update.election_id then Some rules.A4
    else if lacks 32 place state.sessions || lacks 64 known state.named then Some rules.A5
    else None
