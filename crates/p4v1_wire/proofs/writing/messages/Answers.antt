use Rattle.std.proofs.Common.{arith, ◌++◌, ◌∙◌, ap, Some, refl}
use Rattle.wire_fields.specs.Fields.{Bytes}
use Rattle.wire_fields.specs.Spelling.{spelling}
use Rattle.wire_messages.specs.Written.{Present}
use Rattle.wire_messages.proofs.WrittenBytes.{no_messages, next_message, all_messages, one_field}
use Rattle.p4v1_wire.specs.Rows.{fields_by}
use Rattle.p4v1_wire.proofs.writing.messages.Goals as goal

pub loop-message-init : goal.loop-message-init
loop-message-init g c = no_messages _ _ _ _

pub loop-message-preserved : goal.loop-message-preserved
loop-message-preserved g c =
    let fields = fields_by g.M.Writable.rows c.message-item.result in
    let one = one_field c.args.number (Present (Some fields)) (Bytes (spelling fields)) refl in
    next_message _ _ _ _ _ c.message-item.result _ _ _ (omega arith) c.message-item.is c.loop-message.invariant (c.in_ok-member.ensures.ok ∙ ap (λ x. c.loop-message.writer ++ x) one) c.in_ok-member.ensures.in_range

pub returns-clause-ok : goal.returns-clause-ok
returns-clause-ok g c = (all_messages _ _ _ _ _ _ _ (omega arith) c.loop-message.invariant).so_far

pub returns-clause-in_range : goal.returns-clause-in_range
returns-clause-in_range g c = (all_messages _ _ _ _ _ _ _ (omega arith) c.loop-message.invariant).fits
