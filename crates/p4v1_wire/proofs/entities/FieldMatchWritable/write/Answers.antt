use Rattle.p4v1_wire.specs.EntityRows.{field_match_rows, FieldMatchInRange}
use Rattle.p4v1_wire.proofs.Choices.{kind_choice_in_range}
use Rattle.p4v1_wire.proofs.entities.FieldMatchWritable.write.Goals as goal

pub returns-clause-in_range : goal.returns-clause-in_range
unfolding field_match_rows FieldMatchInRange
returns-clause-in_range c = ((c.in_ok-uint32.ensures.fits, kind_choice_in_range c.args.self.now.kind), c.in_ok-kind_choice.ensures.in_range)
