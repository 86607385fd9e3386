use Rattle.std.proofs.Common.{◌+◌, ◌-◌, length, arith, ap, Ok}
use Rattle.wire_fields.specs.Field.{field_of}
use Rattle.grpc_streams.proofs.StatusFields.{all_at_end, all_at_fault, all_at_last, goes_on}
use Rattle.grpc_streams.proofs.answers.read_status.Goals as goal

pub returns-in-Ok-None : goal.returns-in-Ok-None
returns-in-Ok-None c =
    let all = all_at_end _ _ (length c.args.status.now - c.loop.counter) c.loop.text.now c.loop.details c.loop.fields (c.in-Ok-None.ensures.end.0 (ap (λ x. Ok x) c.in-Ok-None.field-0-is)) c.loop.invariant in
    record { text = all.text_is; details = all.details_are }

pub returns-in-Err : goal.returns-in-Err
returns-in-Err c =
    let all = all_at_fault _ _ (length c.args.status.now - c.loop.counter) c.loop.text.now c.loop.details c.loop.fields _ c.in-Err.ensures.fault c.loop.invariant in
    record { text = all.text_is; details = all.details_are }

pub loop-preserved : goal.loop-preserved
loop-preserved c =
    goes_on _ _ (length c.args.status.now - c.loop.counter) (length c.args.status.now - (c.loop.counter + 1)) c.loop.text.now c.next_text-text.result.now c.loop.details c.is_detailed-details.result c.loop.fields c.next.new.self (field_of c.in-Ok-Some.field)
    (omega arith) (rw c.in-Ok-Some.field-0-is at c.in-Ok-Some.ensures.field) c.next_text-text.ensures c.is_detailed-details.ensures c.loop.invariant

pub returns : goal.returns
returns c =
    let all = all_at_last _ _ (length c.args.status.now - c.loop.counter) c.loop.text.now c.loop.details c.loop.fields (omega arith) c.loop.invariant in
    record { text = all.text_is; details = all.details_are }
