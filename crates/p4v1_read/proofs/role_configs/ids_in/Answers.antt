use Rattle.std.proofs.Common.{rules}
use Rattle.wire_fields.proofs.Varints.{varint_shorter}
use Rattle.wire_messages.proofs.Packed.{packed_fault, packed_range, packed_next, packed_end}
use Rattle.p4v1_read.proofs.PackedIds.{ids_refused, ids_read, ids_too_many, full_is, more_are_few}
use Rattle.p4v1_read.proofs.role_configs.ids_in.Goals as goal

pub returns-in_default : goal.returns-in_default
returns-in_default c = ids_refused _ (packed_fault _ _ _ _ c.loop-left.invariant.0 (search rules) c.in_default.ensures)

pub returns-in_default-uint32 : goal.returns-in_default-uint32
returns-in_default-uint32 c = ids_refused _ (packed_range _ _ _ _ _ c.loop-left.invariant.0 (search rules) c.in-Ok.ensures (search rules))

pub returns-then-is_full : goal.returns-then-is_full
returns-then-is_full c = ids_too_many _ _ _ c.loop-left.invariant.0 (full_is _ c.loop-left.invariant.1 (search rules)) (search rules)

pub loop-left-smaller : goal.loop-left-smaller
loop-left-smaller c = varint_shorter _ _ _ c.in-Ok.ensures

pub loop-left-preserved : goal.loop-left-preserved
loop-left-preserved c =
    (rw c.push.ensures (packed_next _ _ _ _ _ _ c.loop-left.invariant.0 (search rules) c.in-Ok.ensures (varint_shorter _ _ _ c.in-Ok.ensures) (search rules)), rw c.push.ensures (more_are_few _ _ (search rules)))

pub returns : goal.returns
returns c = ids_read _ _ (packed_end _ _ _ c.loop-left.invariant.0 (search rules)) c.loop-left.invariant.1
