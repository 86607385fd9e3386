use Rattle.plane_spec.proofs.Slots.{slots_stay}
use Rattle.plane_spec.proofs.laws.slots_stay.Goals as goal

pub returns : goal.returns
returns c = record { law = slots_stay }
