use Rattle.lockstep_run.proofs.SessionLemmas.{completed}
use Rattle.lockstep_run.proofs.session.Session.complete.Goals as goal

pub returns : goal.returns
returns c = completed c.enter.result c.args.lane c.args.before c.args.reply c.args.self.now c.carry_out.new.self c.enter.new.self c.in_ok-carry_out.ensures c.enter.ensures
