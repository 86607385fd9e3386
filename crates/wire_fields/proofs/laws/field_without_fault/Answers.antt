use Rattle.wire_fields.proofs.LawProofs.{field_without_fault}
use Rattle.wire_fields.proofs.laws.field_without_fault.Goals as goal

pub returns : goal.returns
returns c = field_without_fault
