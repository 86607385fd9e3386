use Rattle.std.proofs.Common.{arith}
use Rattle.bm_link.proofs.Standing.{field_inside}
use Rattle.bm_link.proofs.fields.place_behind.Goals as goal

pub overflow_add-result : goal.overflow_add-result
overflow_add-result c = omega (arith, field_inside c.args.fields.now.raw.now c.args.header.now c.args.place c.requires.place, c.args.fields.now.room, c.requires.first)
