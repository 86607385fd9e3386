use Rattle.std.proofs.Common.{◌+◌, ◌-◌, length, sym, arith}
use Rattle.grpc_streams.proofs.Splits.{refused, partial, exhausted, goes_on, became}
use Rattle.grpc_streams.proofs.splitting.split_slice.Goals as goal

pub returns-in-Err : goal.returns-in-Err
returns-in-Err c =
    refused _ (length c.args.bytes.now - c.loop.counter) (length c.args.bytes.now - (c.loop.counter + 1)) c.loop.messages c.loop.rest.now c.in-Err.code
    (omega arith) (sym c.in-Err.ensures.front) c.loop.invariant

pub returns-in-Ok-None : goal.returns-in-Ok-None
returns-in-Ok-None c =
    became c.with_rest.result _ _ c.with_rest.ensures
    (partial _ (length c.args.bytes.now - c.loop.counter) (length c.args.bytes.now - (c.loop.counter + 1)) c.loop.messages c.loop.rest.now
    (omega arith) (rw c.in-Ok-None.field-0-is at (sym c.in-Ok-None.ensures.front)) c.loop.invariant)

pub loop-preserved : goal.loop-preserved
loop-preserved c =
    goes_on _ (length c.args.bytes.now - c.loop.counter) (length c.args.bytes.now - (c.loop.counter + 1)) c.in-Ok-Some.size c.loop.messages c.push_message.new.messages c.loop.rest.now c.split_at.result.1.now c.split_at-in-Ok-Some.result.0.now c.split_at-in-Ok-Some.result.1.now
    (omega arith) (rw c.in-Ok-Some.field-0-is at (sym c.in-Ok-Some.ensures.front)) c.split_at.ensures.back c.split_at-in-Ok-Some.ensures.front c.split_at-in-Ok-Some.ensures.back c.in_ok-push_message-in-Ok-Some.ensures c.loop.invariant

pub returns : goal.returns
returns c = became c.with_rest-2.result _ _ c.with_rest-2.ensures (exhausted _ (length c.args.bytes.now - c.loop.counter) c.loop.messages c.loop.rest.now (omega arith) c.loop.invariant)
