use Rattle.std.proofs.Common.{◌≡◌, subst, ◌∙◌}
use Rattle.std.proofs.lemmas.Result.{IfOk-weaker}
use Rattle.run_spec.specs.Rows.{bare_start}
use Rattle.lockstep_run.specs.Playing.{IsPlayedReport}
use Rattle.gen_tape.specs.Generated.{generated}
use Rattle.p4switch_run.proofs.LoadLemmas.{is_summary}
use Rattle.p4switch_run.proofs.load.summary_of.Goals as goal

pub returns : goal.returns
returns c =
    let is_made : c.as_slice.result.now ≡ generated c.args.number = c.as_slice.ensures.value ∙ c.in_ok-items.ensures in
    IfOk-weaker _ _ _
    (λ text is. is_summary c.args.number c.in_ok-report.report text c.requires.high (subst (λ items. IsPlayedReport bare_start items c.in_ok-report.report) is_made c.in_ok-report.ensures) is) c.summary_text.ensures
