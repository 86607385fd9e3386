-- The messages of a P4Info (p4.config.v1) by their fields, a line for each field.
use Rattle.std.specs.Prelude.{List, Option, Some}
use Rattle.p4_types.specs.declared.p4info.Action.{Action}
use Rattle.p4_types.specs.declared.p4info.ActionProfile.{ActionProfile}
use Rattle.p4_types.specs.declared.p4info.ActionRef.{ActionRef}
use Rattle.p4_types.specs.declared.p4info.ControllerPacketMetadata.{ControllerPacketMetadata}
use Rattle.p4_types.specs.declared.p4info.Counter.{Counter}
use Rattle.p4_types.specs.declared.p4info.CounterSpec.{CounterSpec}
use Rattle.p4_types.specs.declared.p4info.Digest.{Digest}
use Rattle.p4_types.specs.declared.p4info.DirectCounter.{DirectCounter}
use Rattle.p4_types.specs.declared.p4info.MatchField.{MatchField}
use Rattle.p4_types.specs.declared.p4info.Metadata.{Metadata}
use Rattle.p4_types.specs.declared.p4info.P4Info.{P4Info}
use Rattle.p4_types.specs.declared.p4info.Param.{Param}
use Rattle.p4_types.specs.declared.p4info.Preamble.{Preamble}
use Rattle.p4_types.specs.declared.p4info.Table.{Table}
use Rattle.wire_fields.specs.Fields.{WireField}
use Rattle.list_types.specs.Options.{◌>>=◌}
use Rattle.wire_messages.specs.Message.{uint32_at, int32_at, int64_at, bool_at, text_at, texts_at, uint32s_at, message_at}
use Rattle.p4v1_read.specs.Nested.{one_at, all_at}

-- Preamble
unfoldable pub preamble_of : List WireField → Option Preamble
preamble_of fields = do
  id ← uint32_at 1 fields
  name ← text_at 2 fields
  alias ← text_at 3 fields
  annotations ← texts_at 4 fields
  Some (record { id = id; name = name; alias = alias; annotations = annotations })

-- MatchField
unfoldable pub match_field_of : List WireField → Option MatchField
match_field_of fields = do
  id ← uint32_at 1 fields
  name ← text_at 2 fields
  bitwidth ← int32_at 4 fields
  match_type ← int32_at 5 fields
  Some (record { id = id; name = name; bitwidth = bitwidth; match_type = match_type })

-- ActionRef
unfoldable pub action_ref_of : List WireField → Option ActionRef
action_ref_of fields = do
  id ← uint32_at 1 fields
  scope ← int32_at 3 fields
  Some (record { id = id; scope = scope })

-- Table
unfoldable pub table_of : List WireField → Option Table
table_of fields = do
  preamble ← one_at preamble_of 1 fields
  match_fields ← all_at match_field_of 2 fields
  action_refs ← all_at action_ref_of 3 fields
  const_default_action_id ← uint32_at 4 fields
  implementation_id ← uint32_at 6 fields
  direct_resource_ids ← uint32s_at 7 fields
  size ← int64_at 8 fields
  idle_timeout_behavior ← int32_at 9 fields
  is_const_table ← bool_at 10 fields
  Some (record { preamble = preamble; match_fields = match_fields; action_refs = action_refs; const_default_action_id = const_default_action_id; implementation_id = implementation_id; direct_resource_ids = direct_resource_ids; size = size; idle_timeout_behavior = idle_timeout_behavior; is_const_table = is_const_table })

-- Action.Param
unfoldable pub param_of : List WireField → Option Param
param_of fields = do
  id ← uint32_at 1 fields
  name ← text_at 2 fields
  bitwidth ← int32_at 4 fields
  Some (record { id = id; name = name; bitwidth = bitwidth })

-- Action
unfoldable pub action_of : List WireField → Option Action
action_of fields = do
  preamble ← one_at preamble_of 1 fields
  params ← all_at param_of 2 fields
  Some (record { preamble = preamble; params = params })

-- ActionProfile
unfoldable pub action_profile_of : List WireField → Option ActionProfile
action_profile_of fields = do
  preamble ← one_at preamble_of 1 fields
  table_ids ← uint32s_at 2 fields
  with_selector ← bool_at 3 fields
  size ← int64_at 4 fields
  max_group_size ← int32_at 5 fields
  Some (record { preamble = preamble; table_ids = table_ids; with_selector = with_selector; size = size; max_group_size = max_group_size })

-- CounterSpec
unfoldable pub counter_spec_of : List WireField → Option CounterSpec
counter_spec_of fields = do
  unit ← int32_at 1 fields
  Some (record { unit = unit })

-- Counter
unfoldable pub counter_of : List WireField → Option Counter
counter_of fields = do
  preamble ← one_at preamble_of 1 fields
  spec ← one_at counter_spec_of 2 fields
  size ← int64_at 3 fields
  Some (record { preamble = preamble; spec = spec; size = size })

-- DirectCounter
unfoldable pub direct_counter_of : List WireField → Option DirectCounter
direct_counter_of fields = do
  preamble ← one_at preamble_of 1 fields
  spec ← one_at counter_spec_of 2 fields
  direct_table_id ← uint32_at 3 fields
  Some (record { preamble = preamble; spec = spec; direct_table_id = direct_table_id })

-- ControllerPacketMetadata.Metadata
unfoldable pub metadata_of : List WireField → Option Metadata
metadata_of fields = do
  id ← uint32_at 1 fields
  name ← text_at 2 fields
  bitwidth ← int32_at 4 fields
  Some (record { id = id; name = name; bitwidth = bitwidth })

-- ControllerPacketMetadata
unfoldable pub controller_packet_metadata_of : List WireField → Option ControllerPacketMetadata
controller_packet_metadata_of fields = do
  preamble ← one_at preamble_of 1 fields
  metadata ← all_at metadata_of 2 fields
  Some (record { preamble = preamble; metadata = metadata })

-- Digest. The inside of its type is carried unread.
unfoldable pub digest_of : List WireField → Option Digest
digest_of fields = do
  preamble ← one_at preamble_of 1 fields
  type_spec ← message_at 2 fields
  Some (record { preamble = preamble; type_spec = type_spec })

-- P4Info
unfoldable pub p4info_of : List WireField → Option P4Info
p4info_of fields = do
  tables ← all_at table_of 2 fields
  actions ← all_at action_of 3 fields
  action_profiles ← all_at action_profile_of 4 fields
  counters ← all_at counter_of 5 fields
  direct_counters ← all_at direct_counter_of 6 fields
  controller_packet_metadata ← all_at controller_packet_metadata_of 9 fields
  digests ← all_at digest_of 12 fields
  Some (record { tables = tables; actions = actions; action_profiles = action_profiles; counters = counters; direct_counters = direct_counters; controller_packet_metadata = controller_packet_metadata; digests = digests })
