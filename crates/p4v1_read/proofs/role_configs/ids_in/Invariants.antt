use Rattle.std.proofs.Common.{[], length, ◌≤◌}
use Rattle.wire_messages.specs.Scans.{packed_from}
use Rattle.wire_messages.proofs.Packed.{Packed}
use Rattle.p4v1_read.proofs.role_configs.ids_in.Given as goal

abbrev pub invariant-loop-left : goal.invariant-loop-left
invariant-loop-left l = Packed l.left l.ids (packed_from [] l.value) × (length l.ids ≤ 128)

abbrev pub decreases-loop-left : goal.decreases-loop-left
decreases-loop-left l = length l.left
