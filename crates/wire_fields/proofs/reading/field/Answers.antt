use Rattle.std.proofs.Common.{arith, rules}
use Rattle.wire_fields.specs.Reading.{field_at}
use Rattle.wire_fields.proofs.Messages.{has_begun, has_shrunk}
use Rattle.wire_fields.proofs.reading.field.Goals as goal

pub returns-clause-begins : goal.returns-clause-begins
unfolding field_at
returns-clause-begins c = has_begun _ _ (λ i. omega (arith, c.type_inv.bytes i)) (search rules)

pub returns-clause-shorter : goal.returns-clause-shorter
returns-clause-shorter c = has_shrunk _ _ (returns-clause-begins c)
