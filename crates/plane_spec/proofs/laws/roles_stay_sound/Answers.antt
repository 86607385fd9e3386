use Rattle.plane_spec.proofs.SoundRoles.{roles_stay_sound}
use Rattle.plane_spec.proofs.laws.roles_stay_sound.Goals as goal

pub returns : goal.returns
returns c = record { law = roles_stay_sound }
