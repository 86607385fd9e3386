use Rattle.plane_spec.proofs.SoundPlanes.{planes_stay_sound}
use Rattle.plane_spec.proofs.laws.planes_stay_sound.Goals as goal

pub returns : goal.returns
returns c = record { law = planes_stay_sound }
