-- Planes that were replaced, and are not given up yet.
use Rattle.std.specs.Prelude.{Option}
use Rattle.plane_spec.specs.Planes.{Plane}
use Rattle.plane_image.specs.declared.replaced.Replaced.{Replaced}
use Rattle.plane_image.specs.declared.replaced.Replaced.TheVariants.{Nothing, Staged, Promoted, Both}
use Rattle.plane_image.specs.Image.{before_of}

-- the plane that was active before, where that which is active was so before
abbrev pub former_active : Replaced → Option Plane → Option Plane
former_active Nothing active = active
former_active (Staged staged) active = active
former_active (Promoted former) active = before_of former
former_active (Both former staged) active = before_of former

-- the plane that was staged before, where those that are active and staged were so before
abbrev pub former_staged : Replaced → Option Plane → Option Plane → Option Plane
former_staged Nothing active staged = staged
former_staged (Staged former) active staged = before_of former
former_staged (Promoted former) active staged = active
former_staged (Both active_former former) active staged = before_of former
