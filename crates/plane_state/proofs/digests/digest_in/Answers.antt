use Rattle.std.proofs.Common.{sym}
use Rattle.plane_state.proofs.Rises.{found_at, none_at}
use Rattle.plane_state.proofs.digests.digest_in.Goals as goal

pub returns-in-Ok : goal.returns-in-Ok
returns-in-Ok c = sym (found_at (λ d. d.digest_id) _ _ _ _ c.requires c.in-Ok.ensures.found)

pub returns-in-Err : goal.returns-in-Err
returns-in-Err c = sym (none_at (λ d. d.digest_id) _ _ _ c.in-Err.ensures.absent)
