use Rattle.std.proofs.Common.{Some, None, ap, ◌∙◌}
use Rattle.profile_store.specs.Rows.{RowVersions}
use Rattle.profile_store.proofs.GroupEdits.{held_by}
use Rattle.profile_store.proofs.store.ProfileStore.group.Goals as goal

pub returns-in-Some : goal.returns-in-Some
returns-in-Some c = held_by (Some c.in-Some.row.now) c.as_slice.result.now _ _ _ c.in-Some.ensures (c.as_slice.ensures ∙ ap (λ (v : RowVersions). v.now.groups) c.self.view_is)

pub returns-in-None : goal.returns-in-None
returns-in-None c = held_by None c.as_slice.result.now _ _ _ c.in-None.ensures (c.as_slice.ensures ∙ ap (λ (v : RowVersions). v.now.groups) c.self.view_is)
