use Rattle.std.proofs.Common.{sym, subst, ◌∙◌, arith}
use Rattle.plane_state.specs.Versions.{Counted, CountedVersions, IsCounted, counted_of}
use Rattle.plane_spec.specs.Entries.{absence_cause}
use Rattle.plane_state.specs.declared.parts.Drawn.{Drawn}
use Rattle.plane_state.proofs.Counting.{HasMore, counted_as, modified_counted, entry_named_is, entry_rows_within, same_plane}
use Rattle.plane_state.proofs.Refusing.{present, only_memory}
use Rattle.plane_state.proofs.parts.Parts.modify_entry.Goals as goal

pub returns-in-Err-clause-refused : goal.returns-in-Err-clause-refused
returns-in-Err-clause-refused c = only_memory (Unit {0}) Drawn c.in-Err.refusal (absence_cause c.args.change.now.name c.self.inside.store.entries) _ (present c.args.change.now.name _ _ c.in-Some.ensures) c.in-Err.ensures.refused

pub give_back-requires-clause-member_named : goal.give_back-requires-clause-member_named
give_back-requires-clause-member_named c =
    let i = c.self.inside in
    let old : Counted = counted_of i.config i.store.entries i.changed.items i.profiles.now i.digests.items i.multicast.items i.cells i.rows in
    let h : IsCounted old = subst (λ (v : CountedVersions). IsCounted v.now) (sym c.self.view_is) c.requires.counted in
    let named = entry_named_is old c.args.change.now.name c.in-Some.former.now c.in_ok-action.action h (sym c.in-Some.ensures) c.in_ok-action.ensures in
    λ p j. omega (arith, named.members p j, c.in_ok-take.ensures.member_uses p j)

pub give_back-requires-clause-group_named : goal.give_back-requires-clause-group_named
give_back-requires-clause-group_named c =
    let i = c.self.inside in
    let old : Counted = counted_of i.config i.store.entries i.changed.items i.profiles.now i.digests.items i.multicast.items i.cells i.rows in
    let h : IsCounted old = subst (λ (v : CountedVersions). IsCounted v.now) (sym c.self.view_is) c.requires.counted in
    let named = entry_named_is old c.args.change.now.name c.in-Some.former.now c.in_ok-action.action h (sym c.in-Some.ensures) c.in_ok-action.ensures in
    λ p j. omega (arith, named.groups p j, c.in_ok-take.ensures.group_uses p j)

pub give_back-requires-clause-set_there : goal.give_back-requires-clause-set_there
give_back-requires-clause-set_there c =
    let i = c.self.inside in
    let old : Counted = counted_of i.config i.store.entries i.changed.items i.profiles.now i.digests.items i.multicast.items i.cells i.rows in
    let h : IsCounted old = subst (λ (v : CountedVersions). IsCounted v.now) (sym c.self.view_is) c.requires.counted in
    let named = entry_named_is old c.args.change.now.name c.in-Some.former.now c.in_ok-action.action h (sym c.in-Some.ensures) c.in_ok-action.ensures in
    λ p. omega (arith, named.sets p, c.in_ok-take.ensures.set_actions p)

pub overflow_sub-self-inside : goal.overflow_sub-self-inside
overflow_sub-self-inside c =
    let i = c.self.inside in
    let old : Counted = counted_of i.config i.store.entries i.changed.items i.profiles.now i.digests.items i.multicast.items i.cells i.rows in
    let h : IsCounted old = subst (λ (v : CountedVersions). IsCounted v.now) (sym c.self.view_is) c.requires.counted in
    let within = entry_rows_within old c.args.change.now.name c.in-Some.former.now h (sym c.in-Some.ensures) in
    omega (arith, within, c.entry_rows-freed.ensures)

pub returns-clause-counted : goal.returns-clause-counted
returns-clause-counted c =
    let i = c.self.inside in
    let old : Counted = counted_of i.config i.store.entries i.changed.items i.profiles.now i.digests.items i.multicast.items i.cells i.rows in
    let h : IsCounted old = subst (λ (v : CountedVersions). IsCounted v.now) (sym c.self.view_is) c.requires.counted in
    let former = c.in-Some.former.now in
    let within = entry_rows_within old c.args.change.now.name former h (sym c.in-Some.ensures) in
    let named = c.in_ok-take.ensures in
    let back = c.in_ok-give_back.ensures in
    let mid = c.take.new.self.now in
    let new = c.give_back.new.self.now in
    let more : HasMore c.args.change.now.action i.profiles.now mid = record { members = named.member_uses; groups = named.group_uses; sets = named.set_actions } in
    let less : HasMore c.in_ok-action.action new mid = record { members = λ p j. sym (back.member_uses p j); groups = λ p j. sym (back.group_uses p j); sets = λ p. sym (back.set_actions p) } in
    counted_as _ _ (same_plane old.plane _ _ _ _ _ _ c.in_default-modify.ensures.ok (back.members ∙ named.members) (back.groups ∙ named.groups))
    (modified_counted old mid new _ c.args.change.now former c.tables.ensures.order (sym c.in-Some.ensures) h more (subst (λ a. HasMore a new mid) c.in_ok-action.ensures less)
    (omega (arith, within, c.in_ok-rows.ensures.sum, c.entry_rows-freed.ensures, c.entry_rows-taken.ensures)))
