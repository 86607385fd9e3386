use Rattle.std.proofs.Common.{arith}
use Rattle.packet_out.proofs.Widths.{bits_few, sum_within}
use Rattle.packet_out.proofs.header.bits_in.Goals as goal

pub overflow_add-bits : goal.overflow_add-bits
overflow_add-bits c =
    omega (arith, bits_few c.args.fields.now c.requires.header, sum_within c.args.fields.now c.loop-field.field-index _ c.field-item.result (omega arith) c.field-item.is)
