use Rattle.std.proofs.Common.{List, Some, get_or, set, sym, ap, ◌∙◌}
use Rattle.p4_types.specs.declared.multicast.MulticastGroup.{MulticastGroup}
use Rattle.plane_state.proofs.MulticastCauses.{is_absent, takes_more}
use Rattle.plane_state.proofs.Rises.{found_at, none_at, replaced}
use Rattle.plane_state.proofs.multicast.modify.Goals as goal

pub returns-in-Ok-clause-refused : goal.returns-in-Ok-clause-refused
returns-in-Ok-clause-refused c =
    takes_more c.args.room c.args.groups.now.items c.args.group.now c.index-standing-place.result _
    (found_at (λ g. g.id) c.args.groups.now.items c.args.group.now.id _ c.index-standing-place.result c.requires (rw c.from.ensures at (rw c.as_slice-standing.ensures at c.in-Ok.ensures.found))
    ∙ ap Some (sym (c.index-standing-place.is ∙ ap (λ (groups : List MulticastGroup). get_or groups c.in-Ok.place c.index-standing-place.result) c.as_slice-standing.ensures)))
    (sym c.exceeds.ensures ∙ c.if-exceeds.true)

pub returns-in_ok-replace-in-Ok-2-clause-refused : goal.returns-in_ok-replace-in-Ok-2-clause-refused
returns-in_ok-replace-in-Ok-2-clause-refused c =
    takes_more c.args.room c.args.groups.now.items c.args.group.now c.index-standing-place.result _
    (found_at (λ g. g.id) c.args.groups.now.items c.args.group.now.id _ c.index-standing-place.result c.requires (rw c.from.ensures at (rw c.as_slice-standing.ensures at c.in-Ok.ensures.found))
    ∙ ap Some (sym (c.index-standing-place.is ∙ ap (λ (groups : List MulticastGroup). get_or groups c.in-Ok.place c.index-standing-place.result) c.as_slice-standing.ensures)))
    (sym c.exceeds.ensures ∙ c.if-exceeds.false)

pub returns-in_ok-replace-in-Ok-2-clause-ok : goal.returns-in_ok-replace-in-Ok-2-clause-ok
returns-in_ok-replace-in-Ok-2-clause-ok c =
    c.in_ok-replace-in-Ok-2.ensures.ok ∙ ap (λ (group : MulticastGroup). set c.args.groups.now.items c.in-Ok-2.place group) c.copy.ensures
    ∙ replaced (λ g. g.id) c.args.groups.now.items c.args.group.now c.args.group.now.id _ c.requires (rw c.from.ensures at (rw c.as_slice-standing.ensures at c.in-Ok-2.ensures.found))

pub returns-in-Err-clause-refused : goal.returns-in-Err-clause-refused
returns-in-Err-clause-refused c =
    is_absent c.args.room c.args.groups.now.items c.args.group.now (none_at (λ g. g.id) c.args.groups.now.items c.args.group.now.id _ (rw c.from.ensures at (rw c.as_slice-standing.ensures at c.in-Err.ensures.absent)))
