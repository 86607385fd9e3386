-- Who is told of a session that enters.
use Rattle.std.proofs.Common.{◌≡◌, ℕ, Bool, List, Option, ap, ◌∙◌}
use Rattle.p4_types.specs.declared.messages.Uint128.{Uint128}
use Rattle.role_arbiter.specs.declared.sessions.Session.{Session}
use Rattle.role_arbiter.specs.declared.sessions.NamedRole.{NamedRole}
use Rattle.role_arbiter.specs.State.{RolesState, greatest_or_zero, greatest_in, primary_with, primary_of}
use Rattle.role_arbiter.specs.Arbitration.{with_session, received}
use Rattle.role_arbiter.specs.Placing.{place_of_role, placed_at}
use Rattle.role_arbiter.specs.Telling.{differs, with_others, told_at_arbitration}
use Rattle.role_arbiter.proofs.ByPlaces.{role_placed}

told_is : (state : RolesState) (session copy : Session) (sessions again : List Session) (before after : Option Session) (greatest : Uint128) (others : Bool) (told : List ℕ)
    → copy ≡ session → before ≡ primary_of state session.role → greatest ≡ greatest_in (received state.named session.role session.election_id) session.role → sessions ≡ with_session state.sessions session
    → again ≡ with_session state.sessions session → after ≡ primary_with sessions copy.role greatest → others ≡ differs before after → told ≡ with_others others copy again → told ≡ told_at_arbitration state session
told_is state session copy sessions again before after greatest others told e1 e2 e3 e4 e5 e6 e7 e8 = rw (e7, e6, e2, e3, e4, e5, e1) at e8

-- the primary before, by the place of its role
pub primary_is : (state : RolesState) (role : ℕ) (known : Option ℕ) (greatest : Uint128) (before : Option Session) → known ≡ place_of_role state.named role → greatest ≡ greatest_or_zero (placed_at known state.named)
    → before ≡ primary_with state.sessions role greatest → before ≡ primary_of state role
primary_is state role known greatest before e f h = h ∙ ap (primary_with state.sessions role) (f ∙ ap (λ (o : Option NamedRole). greatest_or_zero o) (role_placed state.named role known e))

pub told_placed : (state : RolesState) (session copy : Session) (sessions again : List Session) (before after : Option Session) (known : Option ℕ) (greatest greatest_now : Uint128) (others : Bool) (told : List ℕ)
    → known ≡ place_of_role state.named session.role → greatest ≡ greatest_or_zero (placed_at known state.named) → before ≡ primary_with state.sessions session.role greatest
    → copy ≡ session → greatest_now ≡ greatest_in (received state.named session.role session.election_id) session.role → sessions ≡ with_session state.sessions session
    → again ≡ with_session state.sessions session → after ≡ primary_with sessions copy.role greatest_now → others ≡ differs before after → told ≡ with_others others copy again → told ≡ told_at_arbitration state session
told_placed state session copy sessions again before after known greatest greatest_now others told e1 e2 e3 e4 e5 e6 e7 e8 e9 e10 =
    told_is state session copy sessions again before after greatest_now others told e4 (primary_is state session.role known greatest before e1 e2 e3) e5 e6 e7 e8 e9 e10
