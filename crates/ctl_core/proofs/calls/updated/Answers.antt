use Rattle.ctl_core.proofs.Leading.{write_made}
use Rattle.ctl_core.proofs.calls.updated.Goals as goal

pub returns-clause-made : goal.returns-clause-made
returns-clause-made c = write_made _ c.args.by c.in_ok-outcomes.outcomes c.args.image.now.now _ c.in_ok-answer.answer.events c.in_ok-answer.ensures.events c.in_ok-outcomes.ensures.after
