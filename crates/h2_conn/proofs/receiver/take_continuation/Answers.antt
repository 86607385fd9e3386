use Rattle.std.proofs.Common.{Some, refl, ap, ◌∙◌}
use Rattle.h2_conn.specs.Bytes.{settled_by}
use Rattle.h2_conn.specs.Continuations.{with_continuation}
use Rattle.h2_conn.proofs.Continuations.{whole_taken, whole_broken}
use Rattle.h2_conn.proofs.receiver.take_continuation.Goals as goal

pub returns-in-Ok : goal.returns-in-Ok
returns-in-Ok c =
    whole_taken c.args.continuation c.args.conn.now _ c.ends_headers.result c.requires.goes_on c.requires.whole c.ends_headers.ensures (ap (λ x. record c.args.conn.now { unread = x }) c.new.ensures)
    ∙ ap (λ t. settled_by c.args.conn.now.greatest t) c.in-Ok.ensures

pub returns-in-Err-For : goal.returns-in-Err-For
returns-in-Err-For c =
    whole_broken c.in-Err-For.code c.in-Err-For.field-0 (with_continuation (Some c.args.continuation) c.args.conn.now) (record c.args.conn.now { unread = c.new.result }) c.take_fragment.new.conn _ _ c.args.conn.now.greatest c.in-Err-For.field-0-is
    (whole_taken c.args.continuation c.args.conn.now _ c.ends_headers.result c.requires.goes_on c.requires.whole c.ends_headers.ensures (ap (λ x. record c.args.conn.now { unread = x }) c.new.ensures))
    c.in-Err-For.ensures refl
