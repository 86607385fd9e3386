-- The image at the start is numbered.
use Rattle.std.proofs.Common.{◌≡◌, ℕ, Bool, true, false, if◌then◌else◌, Some, None, refl, arith}
use Rattle.std.proofs.lemmas.List.Elements.{All-nil}
use Rattle.plane_spec.specs.Bridge.{bridge_config, bridge_info}
use Rattle.plane_spec.specs.Config.{cells_in}
use Rattle.plane_spec.specs.Planes.{made_plane}
use Rattle.role_arbiter.specs.State.{RolesState}
use Rattle.plane_image.specs.Image.{IsNumbered, control_of}

no_cells : cells_in bridge_config ≡ 0
unfolding bridge_info
no_cells = refl

pub opened_numbered : (bridge : Bool) (device cpu rows most : ℕ) (roles : RolesState)
    → IsNumbered (control_of device cpu rows most roles (if bridge then Some (made_plane 0 bridge_config) else None) None 1 0 false)
opened_numbered true device cpu rows most roles = record {
  active = All-nil _;
  staged = tt;
  active_cells = omega (arith, no_cells);
  staged_cells = tt;
  numbers = omega arith;
  slots = omega arith;
}
opened_numbered false device cpu rows most roles = record {
  active = tt;
  staged = tt;
  active_cells = tt;
  staged_cells = tt;
  numbers = omega arith;
  slots = omega arith;
}
