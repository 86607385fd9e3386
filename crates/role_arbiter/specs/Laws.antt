-- Laws of roles and their sessions.
use Rattle.std.specs.Prelude.{◌≡◌, ◌≢◌, ℕ, ◌<◌, ◌≤◌, max, true, false, List, [], ◌∷◌, length, map, Some, None, ◌⊎◌}
use Rattle.std.specs.List.{AllByRecursion as Each}
use Rattle.p4_types.specs.declared.code.Code.TheVariants as codes
use Rattle.p4_types.specs.declared.calls.ArbitrationUpdate.{ArbitrationUpdate}
use Rattle.p4_types.specs.declared.messages.Uint128.{Uint128}
use Rattle.role_arbiter.specs.declared.sessions.Session.{Session}
use Rattle.role_arbiter.specs.declared.sessions.NamedRole.{NamedRole}
use Rattle.role_arbiter.specs.Arbitration.{cause, asked, arbitrated, left, received}
use Rattle.role_arbiter.specs.Election.{election_number}
use Rattle.role_arbiter.specs.State.{RolesState, no_roles, greatest_in, bears, primary_of, status_of}
use Rattle.role_arbiter.specs.Telling.{is_caller, told_at_arbitration, told_at_leave}

-- each number is below all those behind it
abbrev pub IsRising : List ℕ → Type 0
IsRising [] = Unit {0}
IsRising (first ∷ rest) = Each (λ other. first < other) rest × IsRising rest

-- if two sessions have one role and bear one election id, it is 0
pub record HaveOwnIds (session other : Session) : Type 0 where
  pub zero_alone : session.role ≡ other.role → election_number session.election_id ≡ election_number other.election_id → election_number session.election_id ≡ 0

-- no two of the sessions bear one election id in one role, unless it is 0
abbrev pub EachHasOwnId : List Session → Type 0
EachHasOwnId [] = Unit {0}
EachHasOwnId (first ∷ rest) = Each (HaveOwnIds first) rest × EachHasOwnId rest

-- the session is one of these
abbrev pub IsAmong : Session → List Session → Type 0
IsAmong session [] = ⊥
IsAmong session (first ∷ rest) = (session ≡ first) ⊎ IsAmong session rest

-- its role received no greater election id than this one
abbrev pub IsAtMostGreatest : List NamedRole → Session → Type 0
IsAtMostGreatest named session = election_number session.election_id ≤ election_number (greatest_in named session.role)

-- what holds of each state that arbitrations and ends of sessions lead to
pub record IsSound (state : RolesState) : Type 0 where
  pub rising : IsRising (map (λ session. session.caller) state.sessions)
  pub own_ids : EachHasOwnId state.sessions
  pub at_most_greatest : Each (λ session. IsAtMostGreatest state.named session) state.sessions
  pub few_sessions : length state.sessions ≤ 32
  pub few_roles : length state.named ≤ 64

-- The first state is sound, and each step keeps it so.
pub record StaysSound : Type 0 where
  pub at_first : IsSound no_roles
  pub arbitration : (state : RolesState) (caller : ℕ) (update : ArbitrationUpdate) → IsSound state → cause state caller update ≡ None → IsSound (arbitrated state (asked caller update))
  pub leave : (state : RolesState) (caller : ℕ) → IsSound state → IsSound (left state caller)

-- What a role received is never forgotten: its greatest election id is the greater of the one before and the one that it receives, and that of no other role changes.
pub record GreatestIsKept : Type 0 where
  pub same_role : (named : List NamedRole) (role : ℕ) (id : Uint128) → election_number (greatest_in (received named role id) role) ≡ max (election_number (greatest_in named role)) (election_number id)
  pub other_role : (named : List NamedRole) (role other : ℕ) (id : Uint128) → other ≢ role → greatest_in (received named role id) other ≡ greatest_in named other

-- There is one primary at most: a session that bears its role's greatest election id is the primary.
abbrev pub OnePrimary : Type 0
OnePrimary = (state : RolesState) (session : Session) → IsSound state → IsAmong session state.sessions → bears session.role (greatest_in state.named session.role) session ≡ true → primary_of state session.role ≡ Some session

-- No other session becomes primary where a session ends.
pub record NobodyTakesOver : Type 0 where
  pub primary_ends : (state : RolesState) (caller role : ℕ) → IsSound state → is_caller caller (primary_of state role) ≡ true → primary_of (left state caller) role ≡ None
  pub other_ends : (state : RolesState) (caller role : ℕ) → is_caller caller (primary_of state role) ≡ false → primary_of (left state caller) role ≡ primary_of state role

-- Who is told is told once, by rising lane.
pub record ToldInOrder : Type 0 where
  pub arbitration : (state : RolesState) (caller : ℕ) (update : ArbitrationUpdate) → IsSound state → cause state caller update ≡ None → IsRising (told_at_arbitration state (asked caller update))
  pub leave : (state : RolesState) (caller : ℕ) → IsSound state → IsRising (told_at_leave state caller)

-- an update of role 0 without a configuration
abbrev pub plain_update : ℕ → ArbitrationUpdate
plain_update id = record { role = 0; election_id = record { high = 0; low = id }; config = Some None }

-- the state after one lane brings such an update
abbrev pub after_update : RolesState → ℕ → ℕ → RolesState
after_update state caller id = arbitrated state (asked caller (plain_update id))

-- lane 0 arbitrates with 5, lane 1 with 3, lane 0 leaves, and lane 1 arbitrates with 6
abbrev pub with_one : RolesState
with_one = after_update no_roles 0 5

-- the state after lane 1 arbitrated with 3
abbrev pub with_two : RolesState
with_two = after_update with_one 1 3

-- the state after lane 0 left
abbrev pub without_first : RolesState
without_first = left with_two 0

-- the state after lane 1 arbitrated with 6
abbrev pub with_second : RolesState
with_second = after_update without_first 1 6

-- That run, step by step: a backup stays one, until it gives a greater election id than the one that left.
pub record WorkedRun : Type 0 where
  pub first_accepted : cause no_roles 0 (plain_update 5) ≡ None
  pub first_told : told_at_arbitration no_roles (asked 0 (plain_update 5)) ≡ 0 ∷ []
  pub first_status : status_of with_one 0 ≡ Some codes.Ok
  pub second_accepted : cause with_one 1 (plain_update 3) ≡ None
  pub second_told : told_at_arbitration with_one (asked 1 (plain_update 3)) ≡ 1 ∷ []
  pub second_status : status_of with_two 1 ≡ Some codes.AlreadyExists
  pub leave_told : told_at_leave with_two 0 ≡ 1 ∷ []
  pub left_status : status_of without_first 1 ≡ Some codes.NotFound
  pub left_greatest : greatest_in without_first.named 0 ≡ record { high = 0; low = 5 }
  pub again_accepted : cause without_first 1 (plain_update 6) ≡ None
  pub again_told : told_at_arbitration without_first (asked 1 (plain_update 6)) ≡ 1 ∷ []
  pub again_status : status_of with_second 1 ≡ Some codes.Ok
