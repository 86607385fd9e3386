use Rattle.std.proofs.Common.{arith, rules, length, ◌-◌, ◌+◌}
use Rattle.std.proofs.lemmas.Result.{err_from_is_err_and}
use Rattle.std.proofs.lemmas.List.{nil_from_length}
use Rattle.hpack_tables.proofs.BlockSteps.{starts, at_end, all_read, field_fails, too_long, goes_on}
use Rattle.hpack_tables.proofs.reading.fields.Goals as goal

pub loop-init : goal.loop-init
loop-init c = starts _ _ 65536 c.args.table.now c.args.bytes.now c.new-headers.ensures (omega arith)

pub returns-then-is_empty : goal.returns-then-is_empty
returns-then-is_empty c = at_end c.loop.headers (length c.args.bytes.now - c.loop.counter) c.loop.room c.loop.table c.loop.rest.now _ (nil_from_length c.loop.rest.now (search rules)) c.loop.invariant

pub returns-in_err-header : goal.returns-in_err-header
returns-in_err-header c =
    let p = err_from_is_err_and c.from_residual.result c.from_residual.ensures.1 in
    rw (p.1, p.2) (field_fails (λ x. (x.0, c.loop.table, x.1.now)) (λ x. (x, c.loop.table)) c.loop.headers (length c.args.bytes.now - c.loop.counter) c.loop.room c.loop.table c.loop.rest.now _ _ (omega arith) (search rules) c.in_err-header.ensures.exact c.loop.invariant)

pub returns-then-size-room : goal.returns-then-size-room
returns-then-size-room c = too_long c.loop.headers (length c.args.bytes.now - c.loop.counter) c.loop.room _ c.loop.table c.loop.rest.now _ _ _ _ (omega arith) (search rules) c.in_ok-header.ensures.exact c.entry_size-size.ensures (omega arith) c.loop.invariant

pub loop-preserved : goal.loop-preserved
loop-preserved c = goes_on c.loop.headers (length c.args.bytes.now - c.loop.counter) (length c.args.bytes.now - (c.loop.counter + 1)) c.loop.room _ c.loop.table c.loop.rest.now _ _ _ _ _ (omega arith) (search rules) c.in_ok-header.ensures.exact c.entry_size-size.ensures (omega arith) c.in_ok-push.ensures.ok c.loop.invariant

pub returns : goal.returns
returns c = all_read c.loop.headers (length c.args.bytes.now - c.loop.counter) c.loop.room c.loop.table c.loop.rest.now _ (omega arith) c.loop.invariant
