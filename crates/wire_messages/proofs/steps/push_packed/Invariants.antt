use Rattle.std.proofs.Common.{◌≡◌, true, is_some, length}
use Rattle.wire_messages.specs.Answers.{packed_first}
use Rattle.wire_messages.specs.Scans.{packed_from}
use Rattle.wire_messages.proofs.Packed.{Packed}
use Rattle.wire_messages.proofs.steps.push_packed.Given as goal

abbrev pub invariant-loop-left : goal.invariant-loop-left
invariant-loop-left l =
    Packed l.left l.found.items (packed_from l.initial.found.items l.bytes)
    × (is_some (packed_first l.left) ≡ true → is_some (packed_first l.bytes) ≡ true)

abbrev pub decreases-loop-left : goal.decreases-loop-left
decreases-loop-left l = length l.left
