use Rattle.std.proofs.Common.{arith}
use Rattle.p4v1_read.proofs.FieldsSpelled.{read_fields}
use Rattle.p4v1_answers.proofs.reading.fields.Goals as goal

pub returns : goal.returns
returns c = read_fields c.args.bytes.now c.read.result (λ i. omega (arith, c.type_inv.bytes i)) c.read.ensures.ok c.read.ensures.unreadable
