use Rattle.std.proofs.Common.{Option, is_some, ap, ◌∙◌}
use Rattle.p4_types.specs.declared.multicast.MulticastGroup.{MulticastGroup}
use Rattle.plane_spec.specs.Planes.{if_absent}
use Rattle.plane_state.proofs.Rises.{is_there, none_at, without}
use Rattle.plane_state.proofs.multicast.delete.Goals as goal

pub returns-in_ok-remove-in-Ok-clause-refused : goal.returns-in_ok-remove-in-Ok-clause-refused
returns-in_ok-remove-in-Ok-clause-refused c = ap if_absent (is_there (λ g. g.id) c.args.groups.now.items c.args.id _ c.requires (rw c.from.ensures at (rw c.as_slice.ensures at c.in-Ok.ensures.found)))

pub returns-in_ok-remove-in-Ok-clause-ok : goal.returns-in_ok-remove-in-Ok-clause-ok
returns-in_ok-remove-in-Ok-clause-ok c = c.in_ok-remove-in-Ok.ensures.ok ∙ without (λ g. g.id) c.args.groups.now.items c.args.id _ c.requires (rw c.from.ensures at (rw c.as_slice.ensures at c.in-Ok.ensures.found))

pub returns-in-Err-clause-refused : goal.returns-in-Err-clause-refused
returns-in-Err-clause-refused c = ap (λ (o : Option MulticastGroup). if_absent (is_some o)) (none_at (λ g. g.id) c.args.groups.now.items c.args.id _ (rw c.from.ensures at (rw c.as_slice.ensures at c.in-Err.ensures.absent)))
