use Rattle.std.proofs.Common.{sym, subst, ap, refl, arith}
use Rattle.plane_state.specs.Versions.{Counted, CountedVersions, IsCounted, counted_of}
use Rattle.profile_store.specs.Rows.{groups_of}
use Rattle.plane_state.proofs.Counting.{counted_as, member_deleted_counted, member_rows_within, same_plane}
use Rattle.plane_state.proofs.parts.Parts.delete_member.Goals as goal

pub returns-clause-counted : goal.returns-clause-counted
returns-clause-counted c =
    let i = c.self.inside in
    let old : Counted = counted_of i.config i.store.entries i.changed.items i.profiles.now i.digests.items i.multicast.items i.cells i.rows in
    let h : IsCounted old = subst (λ (v : CountedVersions). IsCounted v.now) (sym c.self.view_is) c.requires.counted in
    let made = c.in_ok-delete_member.ensures in
    let within = member_rows_within old c.args.profile c.args.id c.in-Some._former.now h (sym c.in-Some.ensures) in
    counted_as _ _ (same_plane old.plane _ _ _ _ _ _ refl made.members (ap (λ rows. groups_of (record i.profiles.now { groups = rows })) made.groups))
    (member_deleted_counted old c.delete_member.new.self.now _ c.args.profile c.args.id c.in-Some._former.now h c.members.ensures.order refl (sym c.in-Some.ensures) made.uses made.groups made.sets (omega (arith, within)))
