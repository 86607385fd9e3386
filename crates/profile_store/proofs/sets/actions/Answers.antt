use Rattle.std.proofs.Common.{sym}
use Rattle.profile_store.proofs.SetEdits.{actions_at, actions_gap}
use Rattle.profile_store.proofs.sets.actions.Goals as goal

pub returns-in-Ok : goal.returns-in-Ok
returns-in-Ok c = sym (actions_at _ _ _ c.requires c.in-Ok.ensures.found _)

pub returns-in-Err : goal.returns-in-Err
returns-in-Err c = sym (actions_gap _ _ _ c.in-Err.ensures.absent)
