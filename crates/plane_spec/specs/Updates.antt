-- What an update changes by the rules that ask for the program alone (P4Runtime 1.3.0, "Write RPC").
use Rattle.std.specs.Prelude.{ℕ, List, Option, Some, None, Result, Err}
use Rattle.p4_types.specs.declared.code.Cause.{Cause}
use Rattle.p4_types.specs.declared.code.Code.TheVariants as codes
use Rattle.p4_types.specs.declared.code.Rule.TheVariants as rules
use Rattle.p4_types.specs.declared.info.Info.{Info}
use Rattle.p4_types.specs.declared.messages.Entity.{Entity}
use Rattle.p4_types.specs.declared.messages.Entity.TheVariants as entities
use Rattle.p4_types.specs.declared.messages.Update.{Update}
use Rattle.p4_types.specs.declared.table.Change.{Change}
use Rattle.p4_types.specs.declared.table.UpdateKind.{UpdateKind}
use Rattle.plane_spec.specs.Multicast.{replication_resolution}
use Rattle.plane_spec.specs.Objects.{table_of}
use Rattle.plane_spec.specs.ProfileRules.{member_resolution, group_resolution, digest_resolution}
use Rattle.plane_spec.specs.UpdateRules.{update_kind, entry_resolution}

-- U2: a table entry, a member, a group, a digest entry or a replication entry
abbrev pub entity_resolution : Info → Option (List ℕ) → UpdateKind → Entity → Result Change Cause
entity_resolution info scope kind (entities.TableEntry entry) = entry_resolution info scope kind entry (table_of entry.table_id info)
entity_resolution info scope kind (entities.ActionProfileMember member) = member_resolution info scope kind member
entity_resolution info scope kind (entities.ActionProfileGroup group) = group_resolution info scope kind group
entity_resolution info scope kind (entities.PacketReplicationEngineEntry entry) = replication_resolution scope kind entry.multicast_group_entry
entity_resolution info scope kind (entities.DigestEntry entry) = digest_resolution info scope kind entry
entity_resolution info scope kind _ = Err (record { rule = rules.U2; code = codes.Unimplemented })

-- U1: another type than INSERT, MODIFY and DELETE, or no entity
abbrev pub resolution_by : Info → Option (List ℕ) → Option UpdateKind → Option Entity → Result Change Cause
resolution_by info scope (Some kind) (Some entity) = entity_resolution info scope kind entity
resolution_by info scope (Some kind) None = Err (record { rule = rules.U1; code = codes.InvalidArgument })
resolution_by info scope None entity = Err (record { rule = rules.U1; code = codes.InvalidArgument })

-- What an update changes under a program, by a role whose configuration has these ids or that has none; or the first
-- rule of U1 to U9 that it breaks. U10 to U12 ask for the state.
unfoldable pub resolution : Info → Option (List ℕ) → Update → Result Change Cause
resolution info scope update = resolution_by info scope (update_kind update.kind) update.entity
