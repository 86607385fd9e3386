use Rattle.std.proofs.Common.{◌≡◌, map, take}
use Rattle.bm_values.specs.Literals.{width_bits}
use Rattle.bm_link.proofs.headers.widths_of.Given as goal

abbrev pub invariant-loop-field : goal.invariant-loop-field
invariant-loop-field l = l.widths ≡ map (λ field. width_bits field.width) (take l.field-index l.fields)
