use Rattle.std.proofs.Common.{arith, ◌-◌, ◌+◌, sym, ap}
use Rattle.h2_streams.proofs.Pieces.{onward}
use Rattle.h2_streams.proofs.Drains.{holding, is_done, at_end, goes_on, stays}
use Rattle.h2_streams.proofs.draining.drain.Goals as goal

pub returns-in_default : goal.returns-in_default
returns-in_default c = is_done _ _ c.loop.stream _ _ (sym c.in_default.ensures.first) (ap (λ x. holding x c.loop.stream) c.next.ensures.rest) c.loop.invariant

pub returns-in-Some-rest : goal.returns-in-Some-rest
returns-in-Some-rest c =
    let out = rw c.in-Some-rest.is at c.in_ok-rest.ensures in
    onward c.put_back.result (λ e. stays _ _ _ c.loop.stream _ c.send_first.new.stream _ _ c.in-Some.first c.in-Some-rest.rest (sym c.in-Some.ensures.first) (ap (λ x. holding x c.loop.stream) c.next.ensures.rest) out (ap (λ x. holding x c.send_first.new.stream) e) c.loop.invariant) c.put_back.ensures

pub loop-preserved : goal.loop-preserved
loop-preserved c =
    let out = rw c.in_default-rest.is at c.in_ok-rest.ensures in
    goes_on _ _ _ c.loop.stream _ _ (c.len-end.result - c.loop.counter) (c.len-end.result - (c.loop.counter + 1)) c.in-Some.first (omega arith) (sym c.in-Some.ensures.first) (ap (λ x. holding x c.loop.stream) c.next.ensures.rest) out c.loop.invariant

pub returns : goal.returns
returns c = at_end _ _ _ (c.len-end.result - c.loop.counter) (omega arith) c.loop.invariant
