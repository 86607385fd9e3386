use Rattle.std.proofs.Common.{sym}
use Rattle.profile_store.proofs.MemberEdits.{found_at, found_gap}
use Rattle.profile_store.proofs.members.find.Goals as goal

pub returns-in-Ok : goal.returns-in-Ok
returns-in-Ok c = sym (found_at _ _ _ _ c.requires c.in-Ok.ensures.found c.index-rows-place.result c.index-rows-place.is)

pub returns-in-Err : goal.returns-in-Err
returns-in-Err c = sym (found_gap _ _ _ _ c.in-Err.ensures.absent)
