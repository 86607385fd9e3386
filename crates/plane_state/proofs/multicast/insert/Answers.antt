use Rattle.std.proofs.Common.{sym, ap, ◌∙◌}
use Rattle.std.specs.List.{insert}
use Rattle.p4_types.specs.declared.multicast.MulticastGroup.{MulticastGroup}
use Rattle.plane_state.proofs.MulticastCauses.{is_present, has_no_room, has_room}
use Rattle.plane_state.proofs.Rises.{found_at, none_at, put_in}
use Rattle.plane_state.proofs.multicast.insert.Goals as goal

pub returns-in-Ok-clause-refused : goal.returns-in-Ok-clause-refused
returns-in-Ok-clause-refused c =
    is_present c.args.room c.args.groups.now.items c.args.group.now _ (found_at (λ g. g.id) c.args.groups.now.items c.args.group.now.id _ c.args.group.now c.requires (rw c.from.ensures at (rw c.as_slice.ensures at c.in-Ok.ensures.found)))

pub returns-in-Err-clause-refused : goal.returns-in-Err-clause-refused
returns-in-Err-clause-refused c =
    has_no_room c.args.room c.args.groups.now.items c.args.group.now (none_at (λ g. g.id) c.args.groups.now.items c.args.group.now.id _ (rw c.from.ensures at (rw c.as_slice.ensures at c.in-Err.ensures.absent)))
    (sym c.is_full.ensures ∙ c.if-is_full.true)

pub returns-in_ok-insert-in-Err-2-clause-refused : goal.returns-in_ok-insert-in-Err-2-clause-refused
returns-in_ok-insert-in-Err-2-clause-refused c =
    has_room c.args.room c.args.groups.now.items c.args.group.now (none_at (λ g. g.id) c.args.groups.now.items c.args.group.now.id _ (rw c.from.ensures at (rw c.as_slice.ensures at c.in-Err-2.ensures.absent)))
    (sym c.is_full.ensures ∙ c.if-is_full.false)

pub returns-in_ok-insert-in-Err-2-clause-ok : goal.returns-in_ok-insert-in-Err-2-clause-ok
returns-in_ok-insert-in-Err-2-clause-ok c =
    c.in_ok-insert-in-Err-2.ensures.ok ∙ ap (λ (group : MulticastGroup). insert c.args.groups.now.items c.in-Err-2.place group) c.copy.ensures
    ∙ put_in (λ g. g.id) c.args.groups.now.items c.args.group.now c.args.group.now.id _ (rw c.from.ensures at (rw c.as_slice.ensures at c.in-Err-2.ensures.absent))
