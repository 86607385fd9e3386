-- Entities of P4Runtime 1.3.0 by the fields of their messages, a line for each field.
use Rattle.std.specs.Prelude.{ℕ, pos, ◌==◌, if◌then◌else◌, List, [], ◌∷◌, Option, Some, None, option_map, unwrap_or}
use Rattle.p4_types.specs.declared.messages.Action.{Action}
use Rattle.p4_types.specs.declared.messages.ActionProfileAction.{ActionProfileAction}
use Rattle.p4_types.specs.declared.messages.ActionProfileActionSet.{ActionProfileActionSet}
use Rattle.p4_types.specs.declared.messages.ActionProfileGroup.{ActionProfileGroup}
use Rattle.p4_types.specs.declared.messages.ActionProfileMember.{ActionProfileMember}
use Rattle.p4_types.specs.declared.messages.CounterData.{CounterData}
use Rattle.p4_types.specs.declared.messages.CounterEntry.{CounterEntry}
use Rattle.p4_types.specs.declared.messages.DigestConfig.{DigestConfig}
use Rattle.p4_types.specs.declared.messages.DigestEntry.{DigestEntry}
use Rattle.p4_types.specs.declared.messages.DirectCounterEntry.{DirectCounterEntry}
use Rattle.p4_types.specs.declared.messages.Entity.{Entity}
use Rattle.p4_types.specs.declared.messages.FieldMatch.{FieldMatch}
use Rattle.p4_types.specs.declared.messages.FieldMatchKind.{FieldMatchKind}
use Rattle.p4_types.specs.declared.messages.Index.{Index}
use Rattle.p4_types.specs.declared.messages.Member.{Member}
use Rattle.p4_types.specs.declared.messages.MulticastGroupEntry.{MulticastGroupEntry}
use Rattle.p4_types.specs.declared.messages.PacketReplicationEngineEntry.{PacketReplicationEngineEntry}
use Rattle.p4_types.specs.declared.messages.Param.{Param}
use Rattle.p4_types.specs.declared.messages.Replica.{Replica}
use Rattle.p4_types.specs.declared.messages.TableAction.{TableAction}
use Rattle.p4_types.specs.declared.messages.TableEntry.{TableEntry}
use Rattle.p4_types.specs.declared.messages.Entity.TheVariants as entities
use Rattle.p4_types.specs.declared.messages.FieldMatchKind.TheVariants as kinds
use Rattle.p4_types.specs.declared.messages.TableAction.TheVariants as actions
use Rattle.wire_fields.specs.Fields.{WireField}
use Rattle.list_types.specs.Options.{◌>>=◌}
use Rattle.wire_messages.specs.Message.{uint32_at, uint64_at, int32_at, int64_at, bool_at, bytes_at, message_at, choice_at}
use Rattle.p4v1_read.specs.Nested.{one_at, all_at, member_at, opaque_at, optional}

-- Action.Param
unfoldable pub param_of : List WireField → Option Param
param_of fields = do
  param_id ← uint32_at 2 fields
  value ← bytes_at 3 fields
  Some (record { param_id = param_id; value = value })

-- Action
unfoldable pub action_of : List WireField → Option Action
action_of fields = do
  action_id ← uint32_at 1 fields
  params ← all_at param_of 4 fields
  Some (record { action_id = action_id; params = params })

-- FieldMatch.Exact
unfoldable pub exact_of : List WireField → Option FieldMatchKind
exact_of fields = do
  value ← bytes_at 1 fields
  Some (kinds.Exact value)

-- FieldMatch.Ternary
unfoldable pub ternary_of : List WireField → Option FieldMatchKind
ternary_of fields = do
  value ← bytes_at 1 fields
  mask ← bytes_at 2 fields
  Some (kinds.Ternary value mask)

-- FieldMatch.LPM
unfoldable pub lpm_of : List WireField → Option FieldMatchKind
lpm_of fields = do
  value ← bytes_at 1 fields
  prefix_len ← int32_at 2 fields
  Some (kinds.Lpm value prefix_len)

-- FieldMatch.Range
unfoldable pub range_of : List WireField → Option FieldMatchKind
range_of fields = do
  low ← bytes_at 1 fields
  high ← bytes_at 2 fields
  Some (kinds.Range low high)

-- FieldMatch.Optional
unfoldable pub optional_of : List WireField → Option FieldMatchKind
optional_of fields = do
  value ← bytes_at 1 fields
  Some (kinds.Optional value)

-- the member of a FieldMatch by its number
unfoldable pub kind_by : List WireField → ℕ → Option FieldMatchKind
kind_by fields member =
    if member == 2 then member_at exact_of 2 fields else
    if member == 3 then member_at ternary_of 3 fields else
    if member == 4 then member_at lpm_of 4 fields else
    if member == 6 then member_at range_of 6 fields else
    if member == 7 then member_at optional_of 7 fields else None

-- the choice of a FieldMatch
unfoldable pub kind_of : List WireField → Option (Option FieldMatchKind)
kind_of fields = choice_at (2 ∷ 3 ∷ 4 ∷ 6 ∷ 7 ∷ []) fields >>= optional (kind_by fields)

-- FieldMatch
unfoldable pub field_match_of : List WireField → Option FieldMatch
field_match_of fields = do
  field_id ← uint32_at 1 fields
  kind ← kind_of fields
  Some (record { field_id = field_id; kind = kind })

-- ActionProfileAction
unfoldable pub profile_action_of : List WireField → Option ActionProfileAction
profile_action_of fields = do
  action ← one_at action_of 1 fields
  weight ← int32_at 2 fields
  watch ← uint32_at 3 fields
  watch_port ← bytes_at 4 fields
  Some (record { action = action; weight = weight; watch = watch; watch_port = watch_port })

-- ActionProfileActionSet
unfoldable pub action_set_of : List WireField → Option ActionProfileActionSet
action_set_of fields = do
  action_profile_actions ← all_at profile_action_of 1 fields
  Some (record { action_profile_actions = action_profile_actions })

-- the member of a TableAction by its number
unfoldable pub table_action_by : List WireField → ℕ → Option TableAction
table_action_by fields member =
    if member == 1 then option_map actions.Action (member_at action_of 1 fields) else
    if member == 2 then option_map actions.ActionProfileMemberId (uint32_at 2 fields) else
    if member == 3 then option_map actions.ActionProfileGroupId (uint32_at 3 fields) else
    if member == 4 then option_map actions.ActionProfileActionSet (member_at action_set_of 4 fields) else None

-- TableAction, a choice that may have no member
unfoldable pub table_action_of : List WireField → Option (Option TableAction)
table_action_of fields = choice_at (1 ∷ 2 ∷ 3 ∷ 4 ∷ []) fields >>= optional (table_action_by fields)

-- CounterData
unfoldable pub counter_data_of : List WireField → Option CounterData
counter_data_of fields = do
  byte_count ← int64_at 1 fields
  packet_count ← int64_at 2 fields
  Some (record { byte_count = byte_count; packet_count = packet_count })

-- TableEntry
unfoldable pub table_entry_of : List WireField → Option TableEntry
table_entry_of fields = do
  table_id ← uint32_at 1 fields
  matches ← all_at field_match_of 2 fields
  action ← one_at table_action_of 3 fields
  priority ← int32_at 4 fields
  controller_metadata ← uint64_at 5 fields
  meter_config ← opaque_at 6 fields
  counter_data ← one_at counter_data_of 7 fields
  is_default_action ← bool_at 8 fields
  idle_timeout_ns ← int64_at 9 fields
  time_since_last_hit ← opaque_at 10 fields
  Some (record { table_id = table_id; matches = matches; action = action; priority = priority; controller_metadata = controller_metadata; meter_config = meter_config; counter_data = counter_data; is_default_action = is_default_action; idle_timeout_ns = idle_timeout_ns; time_since_last_hit = time_since_last_hit })

-- ActionProfileMember
unfoldable pub profile_member_of : List WireField → Option ActionProfileMember
profile_member_of fields = do
  action_profile_id ← uint32_at 1 fields
  member_id ← uint32_at 2 fields
  action ← one_at action_of 3 fields
  Some (record { action_profile_id = action_profile_id; member_id = member_id; action = action })

-- ActionProfileGroup.Member
unfoldable pub group_member_of : List WireField → Option Member
group_member_of fields = do
  member_id ← uint32_at 1 fields
  weight ← int32_at 2 fields
  watch ← uint32_at 3 fields
  watch_port ← bytes_at 4 fields
  Some (record { member_id = member_id; weight = weight; watch = watch; watch_port = watch_port })

-- ActionProfileGroup
unfoldable pub profile_group_of : List WireField → Option ActionProfileGroup
profile_group_of fields = do
  action_profile_id ← uint32_at 1 fields
  group_id ← uint32_at 2 fields
  members ← all_at group_member_of 3 fields
  max_size ← int32_at 4 fields
  Some (record { action_profile_id = action_profile_id; group_id = group_id; members = members; max_size = max_size })

-- Index
unfoldable pub index_of : List WireField → Option Index
index_of fields = do
  index ← int64_at 1 fields
  Some (record { index = index })

-- CounterEntry
unfoldable pub counter_entry_of : List WireField → Option CounterEntry
counter_entry_of fields = do
  counter_id ← uint32_at 1 fields
  index ← one_at index_of 2 fields
  content ← one_at counter_data_of 3 fields
  Some (record { counter_id = counter_id; index = index; content = content })

-- DirectCounterEntry
unfoldable pub direct_counter_entry_of : List WireField → Option DirectCounterEntry
direct_counter_entry_of fields = do
  table_entry ← one_at table_entry_of 1 fields
  content ← one_at counter_data_of 2 fields
  Some (record { table_entry = table_entry; content = content })

-- Replica
unfoldable pub replica_of : List WireField → Option Replica
replica_of fields = do
  egress_port ← uint32_at 1 fields
  instance ← uint32_at 2 fields
  Some (record { egress_port = egress_port; instance = instance })

-- MulticastGroupEntry
unfoldable pub multicast_group_of : List WireField → Option MulticastGroupEntry
multicast_group_of fields = do
  multicast_group_id ← uint32_at 1 fields
  replicas ← all_at replica_of 2 fields
  Some (record { multicast_group_id = multicast_group_id; replicas = replicas })

-- PacketReplicationEngineEntry
unfoldable pub replication_entry_of : List WireField → Option PacketReplicationEngineEntry
replication_entry_of fields = do
  multicast_group_entry ← one_at multicast_group_of 1 fields
  Some (record { multicast_group_entry = multicast_group_entry })

-- DigestEntry.Config
unfoldable pub digest_config_of : List WireField → Option DigestConfig
digest_config_of fields = do
  max_timeout_ns ← int64_at 1 fields
  max_list_size ← int32_at 2 fields
  ack_timeout_ns ← int64_at 3 fields
  Some (record { max_timeout_ns = max_timeout_ns; max_list_size = max_list_size; ack_timeout_ns = ack_timeout_ns })

-- a configuration that is not given
abbrev pub no_digest_config : DigestConfig
no_digest_config = record { max_timeout_ns = pos 0; max_list_size = pos 0; ack_timeout_ns = pos 0 }

-- DigestEntry
unfoldable pub digest_entry_of : List WireField → Option DigestEntry
digest_entry_of fields = do
  digest_id ← uint32_at 1 fields
  config ← one_at digest_config_of 2 fields
  Some (record { digest_id = digest_id; config = unwrap_or config no_digest_config })

-- The member of an Entity by its number. What is not served is passed over inside.
unfoldable pub entity_by : List WireField → ℕ → Option Entity
entity_by fields member =
    if member == 2 then option_map entities.TableEntry (member_at table_entry_of 2 fields) else
    if member == 3 then option_map entities.ActionProfileMember (member_at profile_member_of 3 fields) else
    if member == 4 then option_map entities.ActionProfileGroup (member_at profile_group_of 4 fields) else
    if member == 7 then option_map entities.CounterEntry (member_at counter_entry_of 7 fields) else
    if member == 8 then option_map entities.DirectCounterEntry (member_at direct_counter_entry_of 8 fields) else
    if member == 9 then option_map entities.PacketReplicationEngineEntry (member_at replication_entry_of 9 fields) else
    if member == 12 then option_map entities.DigestEntry (member_at digest_entry_of 12 fields) else
    option_map (λ _. entities.Other member) (message_at member fields)

-- Entity, a choice that may have no member
unfoldable pub entity_of : List WireField → Option (Option Entity)
entity_of fields = choice_at (1 ∷ 2 ∷ 3 ∷ 4 ∷ 5 ∷ 6 ∷ 7 ∷ 8 ∷ 9 ∷ 10 ∷ 11 ∷ 12 ∷ []) fields >>= optional (entity_by fields)
