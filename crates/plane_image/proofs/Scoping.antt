-- Updates leave who may write what.
use Rattle.std.proofs.Common.{◌≡◌, ℕ, List, Option, Result, Ok, Err, refl, ap, ◌∙◌, sym}
use Rattle.p4_types.specs.declared.code.Cause.{Cause}
use Rattle.p4_types.specs.declared.table.Change.{Change}
use Rattle.plane_spec.specs.Planes.{ControlState, scope_in, scope_of, state_after}
use Rattle.plane_spec.proofs.Steady.{change_steady}
use Rattle.role_arbiter.specs.State.{RolesState, primary_of}

roles_kept : (o : Result Change Cause) (c : ControlState) → (state_after c o).roles ≡ c.roles
roles_kept (Ok change) c = (change_steady change c).roles
roles_kept (Err cause) c = refl

-- a scope that was right before an update is right after it
pub scope_kept : (c d : ControlState) (o : Result Change Cause) (role : ℕ) (ids : Option (List ℕ)) → d ≡ state_after c o → ids ≡ scope_of c role → ids ≡ scope_of d role
scope_kept c d o role ids after is = is ∙ ap (λ (roles : RolesState). scope_in (primary_of roles role)) (sym (ap (λ (x : ControlState). x.roles) after ∙ roles_kept o c))
