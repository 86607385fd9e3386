use Rattle.std.proofs.Common.{◌≡◌, ℕ, is_some, sym, subst, ◌∙◌, ap, refl, arith}
use Rattle.plane_state.specs.Versions.{Counted, CountedVersions, IsCounted, counted_of}
use Rattle.profile_store.specs.Rows.{members_of, groups_of, uses_of_member, uses_of_group}
use Rattle.plane_spec.specs.Planes.{group_delete_cause}
use Rattle.plane_spec.specs.Profiles.{group_rows, shares_of}
use Rattle.plane_state.proofs.Counting.{counted_as, group_deleted_counted, group_rows_within, shares_named, same_plane}
use Rattle.plane_state.proofs.Refusing.{group_in_use, group_unused}
use Rattle.plane_state.proofs.parts.Parts.delete_group.Goals as goal

pub returns-then-group_uses-ne0-clause-refused : goal.returns-then-group_uses-ne0-clause-refused
returns-then-group_uses-ne0-clause-refused c =
    let i = c.self.inside in
    let old : Counted = counted_of i.config i.store.entries i.changed.items i.profiles.now i.digests.items i.multicast.items i.cells i.rows in
    let h : IsCounted old = subst (λ (v : CountedVersions). IsCounted v.now) (sym c.self.view_is) c.requires.counted in
    ap (λ (v : CountedVersions). group_delete_cause v.now.plane c.args.profile c.args.id) (sym c.self.view_is)
    ∙ group_in_use old.plane c.args.profile c.args.id (ap is_some (sym c.in-Some.ensures)) (λ none. c.if-group_uses-ne0.true (c.group_uses.ensures ∙ h.groups c.args.profile c.args.id ∙ none))

pub give_back_shares-requires : goal.give_back_shares-requires
give_back_shares-requires c =
    let i = c.self.inside in
    let old : Counted = counted_of i.config i.store.entries i.changed.items i.profiles.now i.digests.items i.multicast.items i.cells i.rows in
    let h : IsCounted old = subst (λ (v : CountedVersions). IsCounted v.now) (sym c.self.view_is) c.requires.counted in
    let named = shares_named old c.args.profile c.args.id c.in-Some.former.now c.in_ok-former.former h (sym c.in-Some.ensures) c.in_ok-former.ensures in
    record { named = λ p j. omega (arith, named p j, ap (λ rows. uses_of_member p j (record i.profiles.now { members = rows })) c.in_ok-delete_group.ensures.members) }

pub overflow_sub-self : goal.overflow_sub-self
overflow_sub-self c =
    let i = c.self.inside in
    let old : Counted = counted_of i.config i.store.entries i.changed.items i.profiles.now i.digests.items i.multicast.items i.cells i.rows in
    let h : IsCounted old = subst (λ (v : CountedVersions). IsCounted v.now) (sym c.self.view_is) c.requires.counted in
    let within = group_rows_within old c.args.profile c.args.id c.in-Some.former.now h (sym c.in-Some.ensures) in
    omega (arith, within, c.group_rows.ensures, ap group_rows c.in_ok-former.ensures)

pub returns-clause-refused : goal.returns-clause-refused
returns-clause-refused c =
    let i = c.self.inside in
    let old : Counted = counted_of i.config i.store.entries i.changed.items i.profiles.now i.digests.items i.multicast.items i.cells i.rows in
    let h : IsCounted old = subst (λ (v : CountedVersions). IsCounted v.now) (sym c.self.view_is) c.requires.counted in
    ap (λ (v : CountedVersions). group_delete_cause v.now.plane c.args.profile c.args.id) (sym c.self.view_is)
    ∙ group_unused old.plane c.args.profile c.args.id (ap is_some (sym c.in-Some.ensures)) (sym (h.groups c.args.profile c.args.id) ∙ sym c.group_uses.ensures ∙ c.if-group_uses-ne0.false)

pub returns-clause-counted : goal.returns-clause-counted
returns-clause-counted c =
    let i = c.self.inside in
    let old : Counted = counted_of i.config i.store.entries i.changed.items i.profiles.now i.digests.items i.multicast.items i.cells i.rows in
    let h : IsCounted old = subst (λ (v : CountedVersions). IsCounted v.now) (sym c.self.view_is) c.requires.counted in
    let gone = c.in_ok-delete_group.ensures in
    let given = c.in_ok-give_back_shares.ensures in
    let mid = c.delete_group.new.self.now in
    let new = c.give_back_shares.new.self.now in
    let former = c.in-Some.former.now in
    let within = group_rows_within old c.args.profile c.args.id former h (sym c.in-Some.ensures) in
    let is_former : (p j : ℕ) → shares_of p j c.in_ok-former.former ≡ shares_of p j former = λ p j. ap (shares_of p j) c.in_ok-former.ensures in
    counted_as _ _ (same_plane old.plane _ _ _ _ _ _ refl (given.members ∙ ap (λ rows. members_of (record mid { members = rows })) gone.members)
    (ap (λ rows. groups_of (record new { groups = rows })) given.groups ∙ gone.groups))
    (group_deleted_counted old new _ c.args.profile c.args.id former h c.groups.ensures.order refl (sym c.in-Some.ensures)
    (λ p j. omega (arith, given.uses p j, is_former p j, ap (λ rows. uses_of_member p j (record mid { members = rows })) gone.members))
    (λ p j. ap (λ rows. uses_of_group p j (record new { groups = rows })) given.groups ∙ gone.uses p j) (given.sets ∙ gone.sets)
    (omega (arith, within, c.group_rows.ensures, ap group_rows c.in_ok-former.ensures)))
