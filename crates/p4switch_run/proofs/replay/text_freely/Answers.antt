use Rattle.std.proofs.Common.{sym, ◌∙◌}
use Rattle.std.proofs.lemmas.Result.{IfOk-weaker}
use Rattle.byte_lanes.proofs.Reports.{lockstep_is_free}
use Rattle.p4switch_run.proofs.ReplayLemmas.{freely}
use Rattle.p4switch_run.proofs.replay.text_freely.Goals as goal

pub returns-then-brings_bytes : goal.returns-then-brings_bytes
returns-then-brings_bytes g c = IfOk-weaker _ _ _ (λ text is. lockstep_is_free c.args.start c.args.tape text is) (rw c.items.ensures.value at c.text_in_order.ensures)

pub returns : goal.returns
returns g c =
    IfOk-weaker _ _ _ (λ text is. freely c.args.start c.args.tape c.in_ok-report.report text (sym c.brings_bytes.ensures ∙ c.if-brings_bytes.false) (rw c.in_ok-records.ensures.kept at c.in_ok-report.ensures) is)
    c.report_text.ensures
