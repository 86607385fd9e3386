use Rattle.hpack_tables.proofs.Digits.{IsWriting}
use Rattle.hpack_tables.proofs.writing.push_digits.Given as goal

abbrev pub invariant-loop-left : goal.invariant-loop-left
invariant-loop-left l = IsWriting l.fn.bytes.items l.value l.bytes.items l.left

abbrev pub decreases-loop-left : goal.decreases-loop-left
decreases-loop-left l = l.left
