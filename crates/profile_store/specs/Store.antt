-- What holds of a store, and what it must have where an entry names something.
use Rattle.std.specs.Prelude.{◌≡◌, nat_lt, true, is_some}
use Rattle.p4_types.specs.declared.table.EntryAction.{EntryAction}
use Rattle.p4_types.specs.declared.table.EntryAction.TheVariants as entry_actions
use Rattle.plane_spec.specs.Profiles.{member_of, group_of}
use Rattle.profile_store.specs.Order.{AreInOrder, key_before, member_key, group_key, set_key}
use Rattle.profile_store.specs.Rows.{Rows, RowVersions, members_of, groups_of}

-- members and groups stand by rising profile and id, the counts of sets by rising profile
pub record AreOrdered (rows : Rows) : Type 0 where
  pub members : AreInOrder key_before member_key rows.members
  pub groups : AreInOrder key_before group_key rows.groups
  pub sets : AreInOrder nat_lt set_key rows.sets

-- the rows stand in order, now and before
pub record IsStore (versions : RowVersions) : Type 0 where
  pub now : AreOrdered versions.now
  pub before : AreOrdered versions.before

-- what an entry names is there
abbrev pub IsThere : EntryAction → Rows → Type 0
IsThere (entry_actions.Call call) rows = Unit {0}
IsThere (entry_actions.Member profile id) rows = is_some (member_of profile id (members_of rows)) ≡ true
IsThere (entry_actions.Group profile id) rows = is_some (group_of profile id (groups_of rows)) ≡ true
IsThere (entry_actions.Set profile calls) rows = Unit {0}
