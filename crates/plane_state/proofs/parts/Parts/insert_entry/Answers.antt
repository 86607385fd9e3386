use Rattle.std.proofs.Common.{None, Err, ◌≡◌, ◌+◌, Some, sym, subst, ◌∙◌, ap}
use Rattle.plane_state.specs.Versions.{Counted, CountedVersions, IsCounted, counted_of}
use Rattle.plane_spec.specs.Planes.{insert_cause_in}
use Rattle.plane_spec.specs.Objects.{table_of}
use Rattle.plane_spec.specs.Entries.{new_entry}
use Rattle.plane_state.specs.Refusals.{insert_use_cause}
use Rattle.plane_state.specs.declared.parts.Drawn.{Drawn}
use Rattle.table_store.specs.Answers.{Refuses}
use Rattle.plane_state.proofs.Counting.{HasMore, counted_as, inserted_counted, same_plane}
use Rattle.plane_state.proofs.Refusing.{insert_agrees, insert_refused}
use Rattle.plane_state.proofs.Tables.{found_id}
use Rattle.plane_state.proofs.parts.Parts.insert_entry.Goals as goal

pub insert-requires-clause-table : goal.insert-requires-clause-table
insert-requires-clause-table c = sym (found_id _ _ _ (sym c.in-Some-table.ensures.found))

pub returns-in-Err-clause-refused : goal.returns-in-Err-clause-refused
returns-in-Err-clause-refused c =
    let i = c.self.inside in
    let old : Counted = counted_of i.config i.store.entries i.changed.items i.profiles.now i.digests.items i.multicast.items i.cells i.rows in
    let h : IsCounted old = subst (λ (v : CountedVersions). IsCounted v.now) (sym c.self.view_is) c.requires.counted in
    let facts = c.info.ensures ∙ ap (λ config. config.info) c.get.ensures in
    let found : table_of c.args.change.now.name.table i.config.info ≡ Some c.in-Some-table.table.now = ap (table_of c.args.change.now.name.table) (sym facts) ∙ sym c.in-Some-table.ensures.found in
    let free : insert_use_cause (table_of c.args.change.now.name.table old.plane.config.info) old.plane c.args.change.now ≡ None =
    ap (λ (v : CountedVersions). insert_use_cause (table_of c.args.change.now.name.table v.now.plane.config.info) v.now.plane c.args.change.now) c.self.view_is ∙ sym c.insert_use_cause.ensures ∙ c.in_default.is in
    subst (λ (v : CountedVersions). Refuses {A = Drawn} (Err c.in-Err.refusal) (insert_cause_in (table_of c.args.change.now.name.table v.now.plane.config.info) c.args.room v.now.plane c.args.change.now)) c.self.view_is
    (insert_refused (Unit {0}) Drawn c.in-Err.refusal _ c.in-Some-table.table.now c.args.room old.plane c.args.change.now found free c.in-Err.ensures.refused)

pub returns-clause-refused : goal.returns-clause-refused
returns-clause-refused c =
    let i = c.self.inside in
    let old : Counted = counted_of i.config i.store.entries i.changed.items i.profiles.now i.digests.items i.multicast.items i.cells i.rows in
    let h : IsCounted old = subst (λ (v : CountedVersions). IsCounted v.now) (sym c.self.view_is) c.requires.counted in
    let facts = c.info.ensures ∙ ap (λ config. config.info) c.get.ensures in
    let found : table_of c.args.change.now.name.table i.config.info ≡ Some c.in-Some-table.table.now = ap (table_of c.args.change.now.name.table) (sym facts) ∙ sym c.in-Some-table.ensures.found in
    let free : insert_use_cause (table_of c.args.change.now.name.table old.plane.config.info) old.plane c.args.change.now ≡ None =
    ap (λ (v : CountedVersions). insert_use_cause (table_of c.args.change.now.name.table v.now.plane.config.info) v.now.plane c.args.change.now) c.self.view_is ∙ sym c.insert_use_cause.ensures ∙ c.in_default.is in
    ap (λ (v : CountedVersions). insert_cause_in (table_of c.args.change.now.name.table v.now.plane.config.info) c.args.room v.now.plane c.args.change.now) (sym c.self.view_is)
    ∙ sym (insert_agrees _ c.in-Some-table.table.now c.args.room old.plane c.args.change.now found free) ∙ c.in_default-insert.ensures.refused

pub returns-clause-counted : goal.returns-clause-counted
returns-clause-counted c =
    let i = c.self.inside in
    let old : Counted = counted_of i.config i.store.entries i.changed.items i.profiles.now i.digests.items i.multicast.items i.cells i.rows in
    let h : IsCounted old = subst (λ (v : CountedVersions). IsCounted v.now) (sym c.self.view_is) c.requires.counted in
    let named = c.in_ok-take.ensures in
    let more : HasMore c.args.change.now.action i.profiles.now c.take.new.self.now = record { members = named.member_uses; groups = named.group_uses; sets = named.set_actions } in
    counted_as _ _ (same_plane old.plane _ _ _ _ _ _ c.in_default-insert.ensures.ok named.members named.groups)
    (inserted_counted old c.take.new.self.now _ (new_entry c.in-Some-table.table.now c.args.room c.args.change.now) h more (c.in_ok-rows.ensures.sum ∙ ap (λ n. i.rows + n) c.entry_rows.ensures))
