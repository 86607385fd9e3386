-- A plane, and what a change makes of it.
use Rattle.std.specs.Prelude.{◌≡◌, ℕ, List, Option, Some, None}
use Rattle.p4_types.specs.declared.info.Table.{Table}
use Rattle.p4_types.specs.declared.messages.DigestEntry.{DigestEntry}
use Rattle.p4_types.specs.declared.multicast.MulticastChange.{MulticastChange}
use Rattle.p4_types.specs.declared.multicast.MulticastChange.TheVariants as multicast_changes
use Rattle.p4_types.specs.declared.multicast.MulticastGroup.{MulticastGroup}
use Rattle.p4_types.specs.declared.table.Change.{Change}
use Rattle.p4_types.specs.declared.table.Change.TheVariants as changes
use Rattle.p4_types.specs.declared.table.DefaultAction.{DefaultAction}
use Rattle.p4_types.specs.declared.table.Entry.{Entry}
use Rattle.p4_types.specs.declared.table.EntryChange.{EntryChange}
use Rattle.p4_types.specs.declared.table.Room.{Room}
use Rattle.plane_spec.specs.Config.{Config}
use Rattle.plane_spec.specs.Entries.{new_entry, slots_drawn, inserted, modified, deleted}
use Rattle.plane_spec.specs.Multicast.{multicast_rows, multicast_changed}
use Rattle.plane_spec.specs.Objects.{table_of}
use Rattle.plane_spec.specs.Planes.{Plane, with_default, profile_changed, digests_changed, rows_of}
use Rattle.plane_spec.specs.Profiles.{member_uses, group_uses, set_actions}
use Rattle.plane_state.specs.declared.parts.Drawn.{Drawn}
use Rattle.profile_store.specs.Rows.{Rows, members_of, groups_of, uses_of_member, uses_of_group, actions_of}
use Rattle.table_store.specs.Rising.{AreRising}

-- a plane as it is, and as it was before the changes that can be undone
pub record PlaneVersions : Type 0 where
  pub now : Plane
  pub before : Plane

-- a plane with the counts that are kept of it: how often each member and group is named, how many actions of one-shot sets
-- there are, and how many rows it takes
pub record Counted : Type 0 where
  pub plane : Plane
  pub uses : Rows
  pub rows : ℕ

-- a plane with its counts, of its parts
abbrev pub counted_of : Config → List Entry → List DefaultAction → Rows → List DigestEntry → List MulticastGroup → (cells rows : ℕ) → Counted
counted_of config entries changed uses digests multicast cells rows = record {
  plane = record { config = config; entries = entries; changed = changed; members = members_of uses; groups = groups_of uses; digests = digests; multicast = multicast; cells = cells };
  uses = uses;
  rows = rows;
}

-- the same as it is, and as it was before the changes that can be undone
pub record CountedVersions : Type 0 where
  pub now : Counted
  pub before : Counted

-- changed default actions, digest entries and multicast groups stand by rising id
pub record IsListed (plane : Plane) : Type 0 where
  pub changed : AreRising (λ d. d.table) plane.changed
  pub digests : AreRising (λ d. d.digest_id) plane.digests
  pub multicast : AreRising (λ g. g.id) plane.multicast

-- they do now and before
pub record AreListed (versions : CountedVersions) : Type 0 where
  pub now : IsListed versions.now.plane
  pub before : IsListed versions.before.plane

-- The counts are those of the plane.
pub record IsCounted (counted : Counted) : Type 0 where
  pub members : (p i : ℕ) → uses_of_member p i counted.uses ≡ member_uses p i counted.plane.entries counted.plane.groups
  pub groups : (p i : ℕ) → uses_of_group p i counted.uses ≡ group_uses p i counted.plane.entries
  pub sets : (p : ℕ) → actions_of p counted.uses ≡ set_actions p counted.plane.entries
  pub rows : counted.rows ≡ rows_of counted.plane

-- they are so now and before
pub record AreCounted (versions : CountedVersions) : Type 0 where
  pub now : IsCounted versions.now
  pub before : IsCounted versions.before

-- the id of the multicast group that a change is about
abbrev pub group_changed : MulticastChange → ℕ
group_changed (multicast_changes.Insert group) = group.id
group_changed (multicast_changes.Modify group) = group.id
group_changed (multicast_changes.Delete id) = id

-- how many rows a multicast group takes that there may be
abbrev pub rows_at : Option MulticastGroup → ℕ
rows_at None = 0
rows_at (Some group) = multicast_rows group

-- how many rows the multicast group takes that a change brings, if it brings one
abbrev pub rows_brought : MulticastChange → ℕ
rows_brought (multicast_changes.Insert group) = multicast_rows group
rows_brought (multicast_changes.Modify group) = multicast_rows group
rows_brought (multicast_changes.Delete id) = 0

-- the plane with the entry of an INSERT into a table, if it has that table
abbrev pub insert_after : Option Table → Room → Plane → EntryChange → Plane
insert_after None room plane change = plane
insert_after (Some table) room plane change = record plane { entries = inserted (new_entry table room change) plane.entries }

-- the plane after a change that is not refused
abbrev pub plane_after : Room → Plane → Change → Plane
plane_after room plane (changes.InsertEntry change) = insert_after (table_of change.name.table plane.config.info) room plane change
plane_after room plane (changes.ModifyEntry change) = record plane { entries = modified change plane.entries }
plane_after room plane (changes.DeleteEntry name) = record plane { entries = deleted name plane.entries }
plane_after room plane (changes.ModifyDefault table action) = record plane { changed = with_default table action plane.changed }
plane_after room plane (changes.Profile change) = profile_changed plane change
plane_after room plane (changes.Digest change) = record plane { digests = digests_changed plane.digests change }
plane_after room plane (changes.Multicast change) = record plane { multicast = multicast_changed plane.multicast change }

-- what an INSERT into a table draws
abbrev pub drawn_by_insert : Option Table → Drawn
drawn_by_insert None = record { numbers = 0; slots = 0 }
drawn_by_insert (Some table) = record { numbers = 1; slots = slots_drawn table }

-- what a change draws: only an INSERT of an entry draws anything
abbrev pub drawn_by : Plane → Change → Drawn
drawn_by plane (changes.InsertEntry change) = drawn_by_insert (table_of change.name.table plane.config.info)
drawn_by plane (changes.ModifyEntry change) = record { numbers = 0; slots = 0 }
drawn_by plane (changes.DeleteEntry name) = record { numbers = 0; slots = 0 }
drawn_by plane (changes.ModifyDefault table action) = record { numbers = 0; slots = 0 }
drawn_by plane (changes.Profile change) = record { numbers = 0; slots = 0 }
drawn_by plane (changes.Digest change) = record { numbers = 0; slots = 0 }
drawn_by plane (changes.Multicast change) = record { numbers = 0; slots = 0 }
