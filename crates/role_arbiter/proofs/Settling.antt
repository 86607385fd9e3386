-- An arbitration that breaks no rule takes effect.
use Rattle.std.proofs.Common.{◌≡◌, ℕ, Bool, true, false, ◌||◌, cond, Some, None, refl, ap}
use Rattle.p4_types.specs.declared.code.ArbitrationRule.{ArbitrationRule}
use Rattle.p4_types.specs.declared.calls.ArbitrationUpdate.{ArbitrationUpdate}
use Rattle.std.specs.Prelude.{is_none}
use Rattle.role_arbiter.specs.Arbitration.{cause, asked, arbitrated, settled, is_refused, has_other_role, id_is_taken, lacks_session, lacks_role}
use Rattle.role_arbiter.specs.State.{RolesState}

none_by : (a b c d e : Bool) (w x y z : ArbitrationRule) → cond a (Some w) (cond b (Some x) (cond c (Some y) (cond (d || e) (Some z) None))) ≡ None → (a || c || d || e) ≡ false
none_by false false false false false w x y z h = refl
none_by false false false false true w x y z h = absurd (cc)
none_by false false false true e w x y z h = absurd (cc)
none_by false false true d e w x y z h = absurd (cc)
none_by false true c d e w x y z h = absurd (cc)
none_by true b c d e w x y z h = absurd (cc)

pub not_refused : (state : RolesState) (caller : ℕ) (update : ArbitrationUpdate) → cause state caller update ≡ None → is_refused state (asked caller update) ≡ false
not_refused state caller update h =
    none_by (has_other_role state.sessions caller update.role) (is_none update.config) (id_is_taken state.sessions caller update.role update.election_id)
    (lacks_session state.sessions caller) (lacks_role state.named update.role) _ _ _ _ h

pub takes_effect : (state : RolesState) (caller : ℕ) (update : ArbitrationUpdate) → cause state caller update ≡ None → settled state (asked caller update) ≡ arbitrated state (asked caller update)
takes_effect state caller update h = ap (λ b. cond b state (arbitrated state (asked caller update))) (not_refused state caller update h)
