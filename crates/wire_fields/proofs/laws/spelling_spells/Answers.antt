use Rattle.wire_fields.proofs.LawProofs.{spelling_spells}
use Rattle.wire_fields.proofs.laws.spelling_spells.Goals as goal

pub returns : goal.returns
returns c = spelling_spells
