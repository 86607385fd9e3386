use Rattle.std.proofs.Common.{◌≡◌, take}
use Rattle.std.specs.List.{sum_by}
use Rattle.packet_out.proofs.header.bits_in.Given as goal

abbrev pub invariant-loop-field : goal.invariant-loop-field
invariant-loop-field l = l.bits ≡ sum_by (λ f. f.bitwidth) (take l.field-index l.fields)
