-- What the events of an answer change in the image.
use Rattle.std.specs.Prelude.{◌≡◌, List, [], ◌∷◌, Result, Ok, Err}
use Rattle.plane_image.specs.Image.{ImageVersions}
use Rattle.plane_spec.specs.Config.{Event}
use Rattle.plane_spec.specs.Planes.{ControlState, applied}

-- what is changed in the image are these events, which can be undone
pub record Leads (old new : ImageVersions) (list : List Event) : Type 0 where
  pub now : new.now ≡ applied old.now list
  pub before : new.before ≡ old.before
  pub steps : new.steps ≡ old.steps

-- what is changed are these events, or there are none
abbrev pub Made : ControlState → ControlState → List Event → Type 0
Made before now [] = Unit {0}
Made before now (event ∷ list) = now ≡ applied before (event ∷ list)

-- what is changed in the image are the events of a call that is not refused
abbrev pub Sets : {E : Type 0} → ImageVersions → ImageVersions → Result (List Event) E → Type 0
Sets old new (Ok list) = Leads old new list
Sets old new (Err refusal) = Leads old new []
