use Rattle.link_spec.proofs.Valid.{is_valid}
use Rattle.link_spec.proofs.laws.linked_programs_are_valid.Goals as goal

pub returns : goal.returns
returns c = record { law = is_valid }
