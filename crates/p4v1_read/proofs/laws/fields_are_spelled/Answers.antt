use Rattle.p4v1_read.proofs.FieldsSpelled.{fields_are_spelled}
use Rattle.p4v1_read.proofs.laws.fields_are_spelled.Goals as goal

pub returns : goal.returns
returns c = fields_are_spelled
