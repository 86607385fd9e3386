use Rattle.std.proofs.Common.{◌≡◌, sum, take}
use Rattle.bm_link.proofs.headers.bits_in.Given as goal

abbrev pub invariant-loop-width : goal.invariant-loop-width
invariant-loop-width l = l.bits ≡ sum (take l.width-index l.widths)
