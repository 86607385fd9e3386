use Rattle.std.proofs.Common.{sym, subst, ◌∙◌, ap, refl}
use Rattle.plane_state.specs.Versions.{Counted, CountedVersions, IsCounted, counted_of}
use Rattle.profile_store.specs.Rows.{groups_of}
use Rattle.p4_types.specs.declared.profiles.Member.{Member}
use Rattle.plane_spec.specs.Profiles.{member_inserted}
use Rattle.plane_state.proofs.Counting.{counted_as, member_inserted_counted, same_plane}
use Rattle.plane_state.proofs.parts.Parts.insert_member.Goals as goal

pub returns-clause-counted : goal.returns-clause-counted
returns-clause-counted c =
    let i = c.self.inside in
    let old : Counted = counted_of i.config i.store.entries i.changed.items i.profiles.now i.digests.items i.multicast.items i.cells i.rows in
    let h : IsCounted old = subst (λ (v : CountedVersions). IsCounted v.now) (sym c.self.view_is) c.requires.counted in
    let made = c.in_ok-insert_member.ensures in
    counted_as _ _ (same_plane old.plane _ _ _ _ _ _ refl (made.members ∙ ap (λ (m : Member). member_inserted m old.plane.members) c.copy.ensures) (ap (λ rows. groups_of (record i.profiles.now { groups = rows })) made.groups))
    (member_inserted_counted old c.insert_member.new.self.now _ c.args.member.now h made.uses made.groups made.sets c.in_ok-rows.ensures.sum)
