use Rattle.std.proofs.Common.{arith, rules, length, ◌-◌, ◌+◌}
use Rattle.std.proofs.lemmas.Result.{err_from_is_err_and}
use Rattle.hpack_tables.proofs.BlockSteps.{no_update, update_done, update_fails, updates_done}
use Rattle.hpack_tables.proofs.reading.updates.Goals as goal

pub returns-then-not-is_update : goal.returns-then-not-is_update
returns-then-not-is_update c = no_update (length c.args.bytes.now - c.loop.counter) c.loop.table c.loop.rest.now _ (omega arith) (search rules) c.loop.invariant

pub returns-in_err-rest : goal.returns-in_err-rest
returns-in_err-rest c =
    let p = err_from_is_err_and c.from_residual.result c.from_residual.ensures.1 in
    rw (p.1, p.2) (update_fails (length c.args.bytes.now - c.loop.counter) c.loop.table c.loop.rest.now _ _ (omega arith) (search rules) c.in_err-rest.ensures c.loop.invariant)

pub loop-preserved : goal.loop-preserved
loop-preserved c = update_done (length c.args.bytes.now - c.loop.counter) (length c.args.bytes.now - (c.loop.counter + 1)) c.loop.table c.loop.rest.now _ _ _ (omega arith) (search rules) c.in_ok-rest.ensures c.loop.invariant

pub returns : goal.returns
returns c = updates_done (length c.args.bytes.now - c.loop.counter) c.loop.table c.loop.rest.now _ (omega arith) c.loop.invariant
