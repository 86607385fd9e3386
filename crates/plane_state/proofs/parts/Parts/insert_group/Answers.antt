use Rattle.std.proofs.Common.{◌≡◌, ◌+◌, sym, subst, ◌∙◌, ap, refl}
use Rattle.plane_state.specs.Versions.{Counted, CountedVersions, IsCounted, counted_of}
use Rattle.profile_store.specs.Rows.{members_of, groups_of, uses_of_member, uses_of_group}
use Rattle.p4_types.specs.declared.profiles.Group.{Group}
use Rattle.plane_spec.specs.Profiles.{group_inserted}
use Rattle.plane_state.proofs.Counting.{counted_as, group_inserted_counted, same_plane}
use Rattle.plane_state.proofs.parts.Parts.insert_group.Goals as goal

pub returns-clause-counted : goal.returns-clause-counted
returns-clause-counted c =
    let i = c.self.inside in
    let old : Counted = counted_of i.config i.store.entries i.changed.items i.profiles.now i.digests.items i.multicast.items i.cells i.rows in
    let h : IsCounted old = subst (λ (v : CountedVersions). IsCounted v.now) (sym c.self.view_is) c.requires.counted in
    let taken = c.in_ok-take_shares.ensures in
    let made = c.in_ok-insert_group.ensures in
    let mid = c.take_shares.new.self.now in
    let new = c.insert_group.new.self.now in
    let same : groups_of mid ≡ groups_of i.profiles.now = ap (λ rows. groups_of (record mid { groups = rows })) taken.groups in
    counted_as _ _ (same_plane old.plane _ _ _ _ _ _ refl (ap (λ rows. members_of (record mid { members = rows })) made.members ∙ taken.members)
    (made.groups ∙ ap (λ gs. group_inserted c.in_ok-shared.shared gs) same ∙ ap (λ (g : Group). group_inserted g old.plane.groups) c.in_ok-shared.ensures))
    (group_inserted_counted old new _ c.args.group.now h (λ p j. ap (λ rows. uses_of_member p j (record mid { members = rows })) made.members ∙ taken.uses p j)
    (λ p j. made.uses p j ∙ ap (λ rows. uses_of_group p j (record mid { groups = rows })) taken.groups) (made.sets ∙ taken.sets) (c.in_ok-rows.ensures.sum ∙ ap (λ n. i.rows + n) c.group_rows.ensures))
