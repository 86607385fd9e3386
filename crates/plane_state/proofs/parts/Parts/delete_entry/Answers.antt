use Rattle.std.proofs.Common.{◌≡◌, Some, sym, subst, ◌∙◌, ap, arith}
use Rattle.p4_types.specs.declared.table.EntryAction.{EntryAction}
use Rattle.plane_spec.specs.Entries.{entry_named}
use Rattle.plane_spec.specs.Profiles.{entry_rows}
use Rattle.plane_state.specs.Versions.{Counted, CountedVersions, IsCounted, counted_of}
use Rattle.plane_state.proofs.Refusing.{absent}
use Rattle.plane_state.proofs.Counting.{HasMore, counted_as, deleted_counted, entry_named_is, entry_rows_within, same_plane}
use Rattle.plane_state.proofs.parts.Parts.delete_entry.Goals as goal

pub returns-in_default-clause-refused : goal.returns-in_default-clause-refused
returns-in_default-clause-refused c = absent c.args.name.now _ (c.in_default.ensures ∙ ap (λ (v : CountedVersions). entry_named c.args.name.now v.now.plane.entries) c.self.view_is)

pub give_back-requires-clause-member_named : goal.give_back-requires-clause-member_named
give_back-requires-clause-member_named c =
    let i = c.self.inside in
    let old : Counted = counted_of i.config i.store.entries i.changed.items i.profiles.now i.digests.items i.multicast.items i.cells i.rows in
    (entry_named_is old c.args.name.now c.in-Some.former.now c.in_ok-action.action (subst (λ (v : CountedVersions). IsCounted v.now) (sym c.self.view_is) c.requires.counted) (sym c.in-Some.ensures) c.in_ok-action.ensures).members

pub give_back-requires-clause-group_named : goal.give_back-requires-clause-group_named
give_back-requires-clause-group_named c =
    let i = c.self.inside in
    let old : Counted = counted_of i.config i.store.entries i.changed.items i.profiles.now i.digests.items i.multicast.items i.cells i.rows in
    (entry_named_is old c.args.name.now c.in-Some.former.now c.in_ok-action.action (subst (λ (v : CountedVersions). IsCounted v.now) (sym c.self.view_is) c.requires.counted) (sym c.in-Some.ensures) c.in_ok-action.ensures).groups

pub give_back-requires-clause-set_there : goal.give_back-requires-clause-set_there
give_back-requires-clause-set_there c =
    let i = c.self.inside in
    let old : Counted = counted_of i.config i.store.entries i.changed.items i.profiles.now i.digests.items i.multicast.items i.cells i.rows in
    (entry_named_is old c.args.name.now c.in-Some.former.now c.in_ok-action.action (subst (λ (v : CountedVersions). IsCounted v.now) (sym c.self.view_is) c.requires.counted) (sym c.in-Some.ensures) c.in_ok-action.ensures).sets

pub overflow_sub-self : goal.overflow_sub-self
overflow_sub-self c =
    let i = c.self.inside in
    let old : Counted = counted_of i.config i.store.entries i.changed.items i.profiles.now i.digests.items i.multicast.items i.cells i.rows in
    let within = entry_rows_within old c.args.name.now c.in-Some.former.now (subst (λ (v : CountedVersions). IsCounted v.now) (sym c.self.view_is) c.requires.counted) (sym c.in-Some.ensures) in
    omega (arith, within, c.entry_rows.ensures, ap entry_rows c.in_ok-action.ensures)

pub returns-clause-counted : goal.returns-clause-counted
returns-clause-counted c =
    let i = c.self.inside in
    let old : Counted = counted_of i.config i.store.entries i.changed.items i.profiles.now i.digests.items i.multicast.items i.cells i.rows in
    let h : IsCounted old = subst (λ (v : CountedVersions). IsCounted v.now) (sym c.self.view_is) c.requires.counted in
    let named : entry_named c.args.name.now i.store.entries ≡ Some c.in-Some.former.now = sym c.in-Some.ensures in
    let within = entry_rows_within old c.args.name.now c.in-Some.former.now h named in
    let back = c.in_ok-give_back.ensures in
    let less : HasMore c.in_ok-action.action c.give_back.new.self.now i.profiles.now = record { members = λ p j. sym (back.member_uses p j); groups = λ p j. sym (back.group_uses p j); sets = λ p. sym (back.set_actions p) } in
    counted_as _ _ (same_plane old.plane _ _ _ _ _ _ c.in_ok-delete.ensures.ok back.members back.groups)
    (deleted_counted old c.give_back.new.self.now _ c.args.name.now c.in-Some.former.now c.tables.ensures.order named h
    (subst (λ (a : EntryAction). HasMore a c.give_back.new.self.now i.profiles.now) c.in_ok-action.ensures less) (omega (arith, within, c.entry_rows.ensures, ap entry_rows c.in_ok-action.ensures)))
