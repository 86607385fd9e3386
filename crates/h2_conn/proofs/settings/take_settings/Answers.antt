use Rattle.std.proofs.Common.{arith}
use Rattle.std.proofs.lemmas.Result.{err_from_is_err_and}
use Rattle.h2_conn.proofs.SettingSteps.{goes_on, fails, all_taken}
use Rattle.h2_conn.proofs.settings.take_settings.Goals as goal

pub returns-in_err-take_setting-clause-err : goal.returns-in_err-take_setting-clause-err
returns-in_err-take_setting-clause-err c =
    let p = err_from_is_err_and c.from_residual.result c.from_residual.ensures.1 in
    rw (p.1, p.2) (fails _ _ c.args.settings.now c.loop-setting.setting-index _ _ _ (omega arith) c.in_err-take_setting.ensures.err c.loop-setting.invariant)

pub loop-setting-preserved : goal.loop-setting-preserved
loop-setting-preserved c = goes_on _ _ c.args.settings.now c.loop-setting.setting-index _ _ _ (omega arith) c.in_ok-take_setting.ensures.ok c.take_setting.ensures.output c.loop-setting.invariant

pub returns-clause-ok : goal.returns-clause-ok
returns-clause-ok c = all_taken _ _ c.args.settings.now c.loop-setting.setting-index _ (omega arith) c.loop-setting.invariant
