-- Rows of entities, a line for each field.
use Rattle.std.specs.Prelude.{List, [], ◌∷◌, ◌<◌, ◌^◌, ℕ, Option, Some, None, All, IfSome, map, if◌then◌else◌}
use Rattle.std.specs.Option.{option_map}
use Rattle.p4_types.specs.declared.messages.Action.{Action}
use Rattle.p4_types.specs.declared.messages.ActionProfileAction.{ActionProfileAction}
use Rattle.p4_types.specs.declared.messages.ActionProfileActionSet.{ActionProfileActionSet}
use Rattle.p4_types.specs.declared.messages.ActionProfileGroup.{ActionProfileGroup}
use Rattle.p4_types.specs.declared.messages.ActionProfileMember.{ActionProfileMember}
use Rattle.p4_types.specs.declared.messages.CounterData.{CounterData}
use Rattle.p4_types.specs.declared.messages.CounterEntry.{CounterEntry}
use Rattle.p4_types.specs.declared.messages.DigestConfig.{DigestConfig}
use Rattle.p4_types.specs.declared.messages.DigestEntry.{DigestEntry}
use Rattle.p4_types.specs.declared.messages.DirectCounterEntry.{DirectCounterEntry}
use Rattle.p4_types.specs.declared.messages.Entity.{Entity}
use Rattle.p4_types.specs.declared.messages.FieldMatch.{FieldMatch}
use Rattle.p4_types.specs.declared.messages.FieldMatchKind.{FieldMatchKind}
use Rattle.p4_types.specs.declared.messages.Index.{Index}
use Rattle.p4_types.specs.declared.messages.Member.{Member}
use Rattle.p4_types.specs.declared.messages.MulticastGroupEntry.{MulticastGroupEntry}
use Rattle.p4_types.specs.declared.messages.PacketReplicationEngineEntry.{PacketReplicationEngineEntry}
use Rattle.p4_types.specs.declared.messages.Param.{Param}
use Rattle.p4_types.specs.declared.messages.Replica.{Replica}
use Rattle.p4_types.specs.declared.messages.TableAction.{TableAction}
use Rattle.p4_types.specs.declared.messages.TableEntry.{TableEntry}
use Rattle.p4_types.specs.declared.messages.FieldMatchKind.TheVariants as kinds
use Rattle.p4_types.specs.declared.messages.TableAction.TheVariants as actions
use Rattle.p4_types.specs.declared.messages.Entity.TheVariants as entities
use Rattle.wire_messages.specs.Written.{Uint32, Uint64, Int32, Int64, Flag, ByteString, Message, Present, Messages, ChosenUint32, Row, row, RowsInRange}
use Rattle.p4v1_wire.specs.Rows.{fields_by}

-- Action.Param
unfoldable pub param_rows : Param → List Row
param_rows m =
    row 2 (Uint32 m.param_id) ∷
    row 3 (ByteString m.value) ∷
    []

-- its numbers and texts are in the ranges of their types
unfoldable pub ParamInRange : Param → Type 0
ParamInRange m = RowsInRange (param_rows m)

-- Action
unfoldable pub action_rows : Action → List Row
action_rows m =
    row 1 (Uint32 m.action_id) ∷
    row 4 (Messages (map (fields_by param_rows) m.params)) ∷
    []

-- its numbers and texts are in the ranges of their types
unfoldable pub ActionInRange : Action → Type 0
ActionInRange m = RowsInRange (action_rows m) × All ParamInRange m.params

-- the number under which a FieldMatch bears a kind
abbrev pub kind_member : FieldMatchKind → ℕ
kind_member (kinds.Exact value) = 2
kind_member (kinds.Ternary value mask) = 3
kind_member (kinds.Lpm value prefix_len) = 4
kind_member (kinds.Range low high) = 6
kind_member (kinds.Optional value) = 7

-- FieldMatch.Exact, Ternary, LPM, Range and Optional
unfoldable pub kind_rows : FieldMatchKind → List Row
kind_rows (kinds.Exact value) = row 1 (ByteString value) ∷ []
kind_rows (kinds.Ternary value mask) = row 1 (ByteString value) ∷ row 2 (ByteString mask) ∷ []
kind_rows (kinds.Lpm value prefix_len) = row 1 (ByteString value) ∷ row 2 (Int32 prefix_len) ∷ []
kind_rows (kinds.Range low high) = row 1 (ByteString low) ∷ row 2 (ByteString high) ∷ []
kind_rows (kinds.Optional value) = row 1 (ByteString value) ∷ []

-- its numbers are in the ranges of their types
abbrev pub KindInRange : FieldMatchKind → Type 0
KindInRange kind = RowsInRange (kind_rows kind)

-- the choice of a FieldMatch
unfoldable pub kind_choice_rows : Option FieldMatchKind → List Row
kind_choice_rows None = []
kind_choice_rows (Some kind) = row (kind_member kind) (Present (Some (fields_by kind_rows kind))) ∷ []

-- its numbers are in the ranges of their types
abbrev pub KindChoiceInRange : Option FieldMatchKind → Type 0
KindChoiceInRange kind = IfSome kind KindInRange

-- FieldMatch
unfoldable pub field_match_rows : FieldMatch → List Row
field_match_rows m =
    row 1 (Uint32 m.field_id) ∷
    kind_choice_rows m.kind

-- its numbers and texts are in the ranges of their types
unfoldable pub FieldMatchInRange : FieldMatch → Type 0
FieldMatchInRange m = RowsInRange (field_match_rows m) × KindChoiceInRange m.kind

-- ActionProfileAction
unfoldable pub profile_action_rows : ActionProfileAction → List Row
profile_action_rows m =
    row 1 (Message (option_map (fields_by action_rows) m.action)) ∷
    row 2 (Int32 m.weight) ∷
    row 3 (Uint32 m.watch) ∷
    row 4 (ByteString m.watch_port) ∷
    []

-- its numbers and texts are in the ranges of their types
unfoldable pub ProfileActionInRange : ActionProfileAction → Type 0
ProfileActionInRange m = RowsInRange (profile_action_rows m) × IfSome m.action ActionInRange

-- ActionProfileActionSet
unfoldable pub action_set_rows : ActionProfileActionSet → List Row
action_set_rows m =
    row 1 (Messages (map (fields_by profile_action_rows) m.action_profile_actions)) ∷
    []

-- its numbers and texts are in the ranges of their types
unfoldable pub ActionSetInRange : ActionProfileActionSet → Type 0
ActionSetInRange m = RowsInRange (action_set_rows m) × All ProfileActionInRange m.action_profile_actions

-- CounterData
unfoldable pub counter_data_rows : CounterData → List Row
counter_data_rows m =
    row 1 (Int64 m.byte_count) ∷
    row 2 (Int64 m.packet_count) ∷
    []

-- its numbers and texts are in the ranges of their types
unfoldable pub CounterDataInRange : CounterData → Type 0
CounterDataInRange m = RowsInRange (counter_data_rows m)

-- TableAction, a choice that may have no member
unfoldable pub table_action_rows : Option TableAction → List Row
table_action_rows None = []
table_action_rows (Some (actions.Action action)) = row 1 (Present (Some (fields_by action_rows action))) ∷ []
table_action_rows (Some (actions.ActionProfileMemberId id)) = row 2 (ChosenUint32 id) ∷ []
table_action_rows (Some (actions.ActionProfileGroupId id)) = row 3 (ChosenUint32 id) ∷ []
table_action_rows (Some (actions.ActionProfileActionSet set)) = row 4 (Present (Some (fields_by action_set_rows set))) ∷ []

-- its numbers are in the ranges of their types
unfoldable pub TableActionInRange : Option TableAction → Type 0
TableActionInRange None = Unit {0}
TableActionInRange (Some (actions.Action action)) = ActionInRange action
TableActionInRange (Some (actions.ActionProfileMemberId id)) = id < 2 ^ 32
TableActionInRange (Some (actions.ActionProfileGroupId id)) = id < 2 ^ 32
TableActionInRange (Some (actions.ActionProfileActionSet set)) = ActionSetInRange set

-- TableEntry
unfoldable pub table_entry_rows : TableEntry → List Row
table_entry_rows m =
    row 1 (Uint32 m.table_id) ∷
    row 2 (Messages (map (fields_by field_match_rows) m.matches)) ∷
    row 3 (Message (option_map (fields_by table_action_rows) m.action)) ∷
    row 4 (Int32 m.priority) ∷
    row 5 (Uint64 m.controller_metadata) ∷
    row 6 (Present (if m.meter_config then Some [] else None)) ∷
    row 7 (Message (option_map (fields_by counter_data_rows) m.counter_data)) ∷
    row 8 (Flag m.is_default_action) ∷
    row 9 (Int64 m.idle_timeout_ns) ∷
    row 10 (Present (if m.time_since_last_hit then Some [] else None)) ∷
    []

-- its numbers and texts are in the ranges of their types
unfoldable pub TableEntryInRange : TableEntry → Type 0
TableEntryInRange m = RowsInRange (table_entry_rows m) × All FieldMatchInRange m.matches × IfSome m.action TableActionInRange × IfSome m.counter_data CounterDataInRange

-- ActionProfileMember
unfoldable pub profile_member_rows : ActionProfileMember → List Row
profile_member_rows m =
    row 1 (Uint32 m.action_profile_id) ∷
    row 2 (Uint32 m.member_id) ∷
    row 3 (Message (option_map (fields_by action_rows) m.action)) ∷
    []

-- its numbers and texts are in the ranges of their types
unfoldable pub ProfileMemberInRange : ActionProfileMember → Type 0
ProfileMemberInRange m = RowsInRange (profile_member_rows m) × IfSome m.action ActionInRange

-- ActionProfileGroup.Member
unfoldable pub group_member_rows : Member → List Row
group_member_rows m =
    row 1 (Uint32 m.member_id) ∷
    row 2 (Int32 m.weight) ∷
    row 3 (Uint32 m.watch) ∷
    row 4 (ByteString m.watch_port) ∷
    []

-- its numbers and texts are in the ranges of their types
unfoldable pub GroupMemberInRange : Member → Type 0
GroupMemberInRange m = RowsInRange (group_member_rows m)

-- ActionProfileGroup
unfoldable pub profile_group_rows : ActionProfileGroup → List Row
profile_group_rows m =
    row 1 (Uint32 m.action_profile_id) ∷
    row 2 (Uint32 m.group_id) ∷
    row 3 (Messages (map (fields_by group_member_rows) m.members)) ∷
    row 4 (Int32 m.max_size) ∷
    []

-- its numbers and texts are in the ranges of their types
unfoldable pub ProfileGroupInRange : ActionProfileGroup → Type 0
ProfileGroupInRange m = RowsInRange (profile_group_rows m) × All GroupMemberInRange m.members

-- Index
unfoldable pub index_rows : Index → List Row
index_rows m =
    row 1 (Int64 m.index) ∷
    []

-- its numbers and texts are in the ranges of their types
unfoldable pub IndexInRange : Index → Type 0
IndexInRange m = RowsInRange (index_rows m)

-- CounterEntry. Its index is present where it is given, as in every answer.
unfoldable pub counter_entry_rows : CounterEntry → List Row
counter_entry_rows m =
    row 1 (Uint32 m.counter_id) ∷
    row 2 (Present (option_map (fields_by index_rows) m.index)) ∷
    row 3 (Message (option_map (fields_by counter_data_rows) m.content)) ∷
    []

-- its numbers and texts are in the ranges of their types
unfoldable pub CounterEntryInRange : CounterEntry → Type 0
CounterEntryInRange m = RowsInRange (counter_entry_rows m) × IfSome m.index IndexInRange × IfSome m.content CounterDataInRange

-- DirectCounterEntry
unfoldable pub direct_counter_entry_rows : DirectCounterEntry → List Row
direct_counter_entry_rows m =
    row 1 (Message (option_map (fields_by table_entry_rows) m.table_entry)) ∷
    row 2 (Message (option_map (fields_by counter_data_rows) m.content)) ∷
    []

-- its numbers and texts are in the ranges of their types
unfoldable pub DirectCounterEntryInRange : DirectCounterEntry → Type 0
DirectCounterEntryInRange m = RowsInRange (direct_counter_entry_rows m) × IfSome m.table_entry TableEntryInRange × IfSome m.content CounterDataInRange

-- Replica
unfoldable pub replica_rows : Replica → List Row
replica_rows m =
    row 1 (Uint32 m.egress_port) ∷
    row 2 (Uint32 m.instance) ∷
    []

-- its numbers and texts are in the ranges of their types
unfoldable pub ReplicaInRange : Replica → Type 0
ReplicaInRange m = RowsInRange (replica_rows m)

-- MulticastGroupEntry
unfoldable pub multicast_group_rows : MulticastGroupEntry → List Row
multicast_group_rows m =
    row 1 (Uint32 m.multicast_group_id) ∷
    row 2 (Messages (map (fields_by replica_rows) m.replicas)) ∷
    []

-- its numbers and texts are in the ranges of their types
unfoldable pub MulticastGroupInRange : MulticastGroupEntry → Type 0
MulticastGroupInRange m = RowsInRange (multicast_group_rows m) × All ReplicaInRange m.replicas

-- PacketReplicationEngineEntry, a choice of which a multicast group alone is written
unfoldable pub replication_entry_rows : PacketReplicationEngineEntry → List Row
replication_entry_rows m =
    row 1 (Present (option_map (fields_by multicast_group_rows) m.multicast_group_entry)) ∷
    []

-- its numbers and texts are in the ranges of their types
unfoldable pub ReplicationEntryInRange : PacketReplicationEngineEntry → Type 0
ReplicationEntryInRange m = RowsInRange (replication_entry_rows m) × IfSome m.multicast_group_entry MulticastGroupInRange

-- DigestEntry.Config
unfoldable pub digest_config_rows : DigestConfig → List Row
digest_config_rows m =
    row 1 (Int64 m.max_timeout_ns) ∷
    row 2 (Int32 m.max_list_size) ∷
    row 3 (Int64 m.ack_timeout_ns) ∷
    []

-- its numbers and texts are in the ranges of their types
unfoldable pub DigestConfigInRange : DigestConfig → Type 0
DigestConfigInRange m = RowsInRange (digest_config_rows m)

-- DigestEntry
unfoldable pub digest_entry_rows : DigestEntry → List Row
digest_entry_rows m =
    row 1 (Uint32 m.digest_id) ∷
    row 2 (Message (Some (fields_by digest_config_rows m.config))) ∷
    []

-- its numbers and texts are in the ranges of their types
unfoldable pub DigestEntryInRange : DigestEntry → Type 0
DigestEntryInRange m = RowsInRange (digest_entry_rows m) × DigestConfigInRange m.config

-- Entity, a choice. One that is not served is never sent, and is written without a member.
unfoldable pub entity_rows : Entity → List Row
entity_rows (entities.TableEntry m) = row 2 (Present (Some (fields_by table_entry_rows m))) ∷ []
entity_rows (entities.ActionProfileMember m) = row 3 (Present (Some (fields_by profile_member_rows m))) ∷ []
entity_rows (entities.ActionProfileGroup m) = row 4 (Present (Some (fields_by profile_group_rows m))) ∷ []
entity_rows (entities.CounterEntry m) = row 7 (Present (Some (fields_by counter_entry_rows m))) ∷ []
entity_rows (entities.DirectCounterEntry m) = row 8 (Present (Some (fields_by direct_counter_entry_rows m))) ∷ []
entity_rows (entities.PacketReplicationEngineEntry m) = row 9 (Present (Some (fields_by replication_entry_rows m))) ∷ []
entity_rows (entities.DigestEntry m) = row 12 (Present (Some (fields_by digest_entry_rows m))) ∷ []
entity_rows (entities.Other member) = []

-- its numbers are in the ranges of their types
unfoldable pub EntityInRange : Entity → Type 0
EntityInRange (entities.TableEntry m) = TableEntryInRange m
EntityInRange (entities.ActionProfileMember m) = ProfileMemberInRange m
EntityInRange (entities.ActionProfileGroup m) = ProfileGroupInRange m
EntityInRange (entities.CounterEntry m) = CounterEntryInRange m
EntityInRange (entities.DirectCounterEntry m) = DirectCounterEntryInRange m
EntityInRange (entities.PacketReplicationEngineEntry m) = ReplicationEntryInRange m
EntityInRange (entities.DigestEntry m) = DigestEntryInRange m
EntityInRange (entities.Other member) = Unit {0}
