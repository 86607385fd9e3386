use Rattle.h2_frames.proofs.Settings.{still_kept}
use Rattle.h2_frames.proofs.writing.push_settings.Goals as goal

pub returns-in_err-push_setting-clause-kept : goal.returns-in_err-push_setting-clause-kept
returns-in_err-push_setting-clause-kept c = still_kept _ _ _ (rw c.loop-setting.invariant at c.push_setting.ensures.kept)
