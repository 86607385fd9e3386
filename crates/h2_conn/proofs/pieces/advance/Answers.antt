use Rattle.std.proofs.Common.{arith, rules, ◌≡◌, ◌-◌, ◌+◌, length}
use Rattle.h2_conn.proofs.Turns.{turn_of_front, goes_on, breaks, all_run}
use Rattle.h2_conn.proofs.pieces.advance.Goals as goal

pub returns-then-is_empty : goal.returns-then-is_empty
returns-then-is_empty c =
    let none : length c.loop.rest.now ≡ 0 = search rules in
    all_run _ _ _ _ _ _ (omega arith) c.loop.invariant

pub take_front-requires : goal.take_front-requires
take_front-requires c =
    turn_of_front c.loop.conn c.loop.rest.now c.split_at.result.0.now c.count_of-count.result c.count_of-count.ensures.within.1 c.split_at.ensures.front c.count_of-count.ensures.turn

pub returns-in-Err : goal.returns-in-Err
returns-in-Err c =
    breaks _ _ c.loop.conn c.take_front.new.self c.loop.events c.loop.rest.now c.split_at.result.0.now c.split_at.result.1.now _ c.count_of-count.result c.in-Err.refusal
    c.count_of-count.ensures.within.0 c.count_of-count.ensures.within.1 c.split_at.ensures.front c.split_at.ensures.back c.count_of-count.ensures.turn c.in-Err.ensures c.loop.invariant

pub loop-preserved : goal.loop-preserved
loop-preserved c =
    goes_on _ _ c.loop.conn c.take_front.new.self c.loop.events c.give.new.events c.loop.rest.now c.split_at.result.0.now c.split_at.result.1.now
    (length c.args.piece.now - c.loop.counter) (length c.args.piece.now - (c.loop.counter + 1)) c.count_of-count.result c.in-Ok.given
    (omega arith) c.count_of-count.ensures.within.0 c.count_of-count.ensures.within.1 c.split_at.ensures.front c.split_at.ensures.back c.count_of-count.ensures.turn c.in-Ok.ensures c.in_ok-give-in-Ok.ensures c.loop.invariant

pub returns : goal.returns
returns c = all_run _ _ _ _ _ _ (omega (arith, c.loop.invariant.few)) c.loop.invariant
