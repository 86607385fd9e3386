use Rattle.std.proofs.Common.{arith, length, ◌+◌, ◌-◌}
use Rattle.h2_streams.proofs.Pieces.{onward, data_ends, data_goes_on}
use Rattle.h2_streams.proofs.outgoing.write_data_frames.Goals as goal

pub returns-then-rest-size : goal.returns-then-rest-size
returns-then-rest-size c = onward c.write_data.result (λ e. data_ends _ _ _ _ c.args.size c.args.stream c.loop.rest.now (omega arith) c.loop.invariant e) c.write_data.ensures.ok

pub loop-preserved : goal.loop-preserved
loop-preserved c = data_goes_on _ _ _ ((length c.args.bytes.now) - c.loop.counter) ((length c.args.bytes.now) - (c.loop.counter + 1)) c.args.size c.args.stream c.loop.rest.now c.split_at.result.1.now (omega arith) (omega arith) (omega arith) c.loop.invariant (rw c.split_at.ensures.front at c.in_ok-write_data.ensures.ok) c.split_at.ensures.back c.split_at.ensures.back_len

pub returns : goal.returns
returns c = onward c.write_data-2.result (λ e. data_ends _ _ _ _ c.args.size c.args.stream c.loop.rest.now (omega (arith, c.loop.invariant.few)) c.loop.invariant e) c.write_data-2.ensures.ok
