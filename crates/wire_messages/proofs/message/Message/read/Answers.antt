use Rattle.std.proofs.Common.{ap, ◌∙◌, Ok}
use Rattle.wire_fields.proofs.ReadSoFar.{read_none}
use Rattle.wire_fields.proofs.LawProofs.{no_message_at_fault}
use Rattle.wire_messages.proofs.Walking.{decides_itself, decides_more, decides_end}
use Rattle.wire_messages.proofs.message.Message.read.Goals as goal

pub loop-init : goal.loop-init
loop-init c = rw c.new-left.ensures (decides_itself c.args.bytes.now)

pub loop-preserved : goal.loop-preserved
loop-preserved c = decides_more _ _ _ _ c.loop.invariant (rw c.in-Ok-Some.field-0-is at c.in-Ok-Some.ensures.field)

pub returns-in-Ok-None-clause-ok : goal.returns-in-Ok-None-clause-ok
returns-in-Ok-None-clause-ok c = decides_end _ _ (c.next.ensures.end.0 (c.in-Ok-None.is ∙ ap (λ x. Ok x) c.in-Ok-None.field-0-is)) c.loop.invariant

pub returns-in-Err-clause-unreadable : goal.returns-in-Err-clause-unreadable
returns-in-Err-clause-unreadable c = λ fields spells. let others = c.loop.invariant.rest fields spells in no_message_at_fault _ others.0 _ _ c.in-Err.field-0 (read_none c.loop.left) c.in-Err.ensures.fault others.1
