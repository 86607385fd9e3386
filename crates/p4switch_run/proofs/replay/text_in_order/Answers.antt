use Rattle.std.proofs.lemmas.Result.{IfOk-weaker}
use Rattle.p4switch_run.proofs.ReplayLemmas.{in_order}
use Rattle.p4switch_run.proofs.replay.text_in_order.Goals as goal

pub returns : goal.returns
returns c = IfOk-weaker _ _ _ (λ text is. in_order c.args.start c.args.items.now c.in_ok-report.report text c.requires.stand c.in_ok-report.ensures is) c.report_text.ensures
