use Rattle.snap_worker.proofs.Noting.{noted_elsewhere, own_at, seat_looks_at}
use Rattle.snap_worker.proofs.loading.load_next.Goals as goal

pub returns-in_err-push-clause-looks : goal.returns-in_err-push-clause-looks
returns-in_err-push-clause-looks c = seat_looks_at c.args.seat.now c.load-loaded.new.seat c.args.slot c.load-loaded.ensures.same

pub returns-in_err-push-clause-others : goal.returns-in_err-push-clause-others
returns-in_err-push-clause-others c = λ other ne. noted_elsewhere c.args.seat.now c.load-loaded.new.seat c.args.slot other c.load-loaded.ensures.same ne

pub returns-in_err-push-clause-own : goal.returns-in_err-push-clause-own
returns-in_err-push-clause-own c = own_at c.args.seat.now c.load-loaded.new.seat c.args.slot c.load-loaded.ensures.same c.load-loaded.ensures.own

pub returns-clause-looks : goal.returns-clause-looks
returns-clause-looks c = seat_looks_at c.args.seat.now c.load-loaded.new.seat c.args.slot c.load-loaded.ensures.same

pub returns-clause-others : goal.returns-clause-others
returns-clause-others c = λ other ne. noted_elsewhere c.args.seat.now c.load-loaded.new.seat c.args.slot other c.load-loaded.ensures.same ne

pub returns-clause-own : goal.returns-clause-own
returns-clause-own c = own_at c.args.seat.now c.load-loaded.new.seat c.args.slot c.load-loaded.ensures.same c.load-loaded.ensures.own
