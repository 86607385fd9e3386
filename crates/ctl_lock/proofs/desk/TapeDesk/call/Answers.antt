use Rattle.ctl_lock.proofs.Closing.{is_read_of}
use Rattle.ctl_lock.proofs.desk.TapeDesk.call.Goals as goal

pub make-requires-clause-read : goal.make-requires-clause-read
make-requires-clause-read g c = c.look-read.ensures.read c.args.call (is_read_of c.read-read.result c.args.call c.read-read.ensures)
