use Rattle.wire_fields.proofs.LawProofs.{no_field_at_fault}
use Rattle.wire_fields.proofs.laws.no_field_at_fault.Goals as goal

pub returns : goal.returns
returns c = no_field_at_fault
