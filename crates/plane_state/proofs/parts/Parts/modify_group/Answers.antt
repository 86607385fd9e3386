use Rattle.std.proofs.Common.{◌≡◌, ℕ, sym, subst, ◌∙◌, ap, refl, arith}
use Rattle.plane_state.specs.Versions.{Counted, CountedVersions, IsCounted, counted_of}
use Rattle.profile_store.specs.Rows.{members_of, groups_of, uses_of_member, uses_of_group}
use Rattle.p4_types.specs.declared.profiles.Group.{Group}
use Rattle.plane_spec.specs.Profiles.{group_modified, group_rows, shares_of}
use Rattle.plane_state.proofs.Counting.{counted_as, group_modified_counted, group_rows_within, shares_named, same_plane}
use Rattle.plane_state.proofs.parts.Parts.modify_group.Goals as goal

pub give_back_shares-requires : goal.give_back_shares-requires
give_back_shares-requires c =
    let i = c.self.inside in
    let old : Counted = counted_of i.config i.store.entries i.changed.items i.profiles.now i.digests.items i.multicast.items i.cells i.rows in
    let h : IsCounted old = subst (λ (v : CountedVersions). IsCounted v.now) (sym c.self.view_is) c.requires.counted in
    let named = shares_named old c.args.group.now.profile c.args.group.now.id c.in-Some.former.now c.in_ok-left.left h (sym c.in-Some.ensures) c.in_ok-left.ensures in
    record { named = λ p j. omega (arith, named p j, c.in_ok-take_shares.ensures.uses p j) }

pub overflow_sub-self-inside : goal.overflow_sub-self-inside
overflow_sub-self-inside c =
    let i = c.self.inside in
    let old : Counted = counted_of i.config i.store.entries i.changed.items i.profiles.now i.digests.items i.multicast.items i.cells i.rows in
    let h : IsCounted old = subst (λ (v : CountedVersions). IsCounted v.now) (sym c.self.view_is) c.requires.counted in
    let within = group_rows_within old c.args.group.now.profile c.args.group.now.id c.in-Some.former.now h (sym c.in-Some.ensures) in
    omega (arith, within, c.group_rows-freed.ensures, ap group_rows c.in_ok-left.ensures)

pub returns-clause-counted : goal.returns-clause-counted
returns-clause-counted c =
    let i = c.self.inside in
    let old : Counted = counted_of i.config i.store.entries i.changed.items i.profiles.now i.digests.items i.multicast.items i.cells i.rows in
    let h : IsCounted old = subst (λ (v : CountedVersions). IsCounted v.now) (sym c.self.view_is) c.requires.counted in
    let taken = c.in_ok-take_shares.ensures in
    let given = c.in_ok-give_back_shares.ensures in
    let made = c.in_ok-modify_group.ensures in
    let mid = c.take_shares.new.self.now in
    let less = c.give_back_shares.new.self.now in
    let new = c.modify_group.new.self.now in
    let former = c.in-Some.former.now in
    let within = group_rows_within old c.args.group.now.profile c.args.group.now.id former h (sym c.in-Some.ensures) in
    let same : groups_of less ≡ groups_of i.profiles.now = ap (λ rows. groups_of (record less { groups = rows })) (given.groups ∙ taken.groups) in
    let is_former : (p j : ℕ) → shares_of p j c.in_ok-left.left ≡ shares_of p j former = λ p j. ap (shares_of p j) c.in_ok-left.ensures in
    counted_as _ _ (same_plane old.plane _ _ _ _ _ _ refl (ap (λ rows. members_of (record less { members = rows })) made.members ∙ given.members ∙ taken.members)
    (made.groups ∙ ap (λ gs. group_modified c.in_ok-shared.shared gs) same ∙ ap (λ (g : Group). group_modified g old.plane.groups) c.in_ok-shared.ensures))
    (group_modified_counted old new _ c.args.group.now former h c.groups.ensures.order refl (sym c.in-Some.ensures)
    (λ p j. omega (arith, ap (λ rows. uses_of_member p j (record less { members = rows })) made.members, given.uses p j, taken.uses p j, is_former p j))
    (λ p j. made.uses p j ∙ ap (λ rows. uses_of_group p j (record less { groups = rows })) (given.groups ∙ taken.groups)) (made.sets ∙ given.sets ∙ taken.sets)
    (omega (arith, within, c.in_ok-rows.ensures.sum, c.group_rows.ensures, c.group_rows-freed.ensures, ap group_rows c.in_ok-left.ensures)))
