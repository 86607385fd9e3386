use Rattle.p4v1_read.specs.Calls.{call_of}
use Rattle.lockstep_run.proofs.session.Session.reply.Goals as goal

pub returns-in_default : goal.returns-in_default
returns-in_default c = c.decline.ensures (call_of c.args.method c.args.message.now)
