use Rattle.std.proofs.Common.{◌≡◌, ◌<◌, ◌%◌, take, sum_by}
use Rattle.bm_values.specs.Literals.{width_bits}
use Rattle.bm_json.proofs.left_out.bits_over.Given as goal

abbrev pub invariant-loop-field : goal.invariant-loop-field
invariant-loop-field l = (l.bits ≡ sum_by (λ field. width_bits field.width) (take l.field-index l.fields) % 8) × (l.bits < 8)
