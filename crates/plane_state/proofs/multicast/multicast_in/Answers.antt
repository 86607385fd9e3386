use Rattle.std.proofs.Common.{Some, ap, sym, ◌∙◌}
use Rattle.plane_state.proofs.Rises.{found_at, none_at}
use Rattle.plane_state.proofs.multicast.multicast_in.Goals as goal

pub returns-in-Ok : goal.returns-in-Ok
returns-in-Ok c = ap Some c.index-groups-place.is ∙ sym (found_at (λ g. g.id) c.args.groups.now c.args.id c.in-Ok.place c.index-groups-place.result c.requires c.in-Ok.ensures.found)

pub returns-in-Err : goal.returns-in-Err
returns-in-Err c = sym (none_at (λ g. g.id) _ _ _ c.in-Err.ensures.absent)
