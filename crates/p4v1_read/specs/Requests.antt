-- Requests of P4Runtime 1.3.0 by the fields of their messages, a line for each field.
use Rattle.std.specs.Prelude.{ℕ, not, if◌then◌else◌, List, [], ◌∷◌, Option, Some, None, unwrap_or}
use Rattle.std.specs.Option.{option_flatten}
use Rattle.p4_types.specs.declared.messages.Cookie.{Cookie}
use Rattle.p4_types.specs.declared.messages.ForwardingPipelineConfig.{ForwardingPipelineConfig}
use Rattle.p4_types.specs.declared.messages.GetForwardingPipelineConfigRequest.{GetForwardingPipelineConfigRequest}
use Rattle.p4_types.specs.declared.messages.ReadRequest.{ReadRequest}
use Rattle.p4_types.specs.declared.messages.SetForwardingPipelineConfigRequest.{SetForwardingPipelineConfigRequest}
use Rattle.p4_types.specs.declared.messages.Uint128.{Uint128}
use Rattle.p4_types.specs.declared.messages.Update.{Update}
use Rattle.p4_types.specs.declared.messages.WriteRequest.{WriteRequest}
use Rattle.wire_fields.specs.Fields.{WireField}
use Rattle.list_types.specs.Options.{◌>>=◌}
use Rattle.wire_messages.specs.Message.{uint64_at, int32_at, bytes_at, message_at, only_known}
use Rattle.p4v1_read.specs.Nested.{one_at, all_at}
use Rattle.p4v1_read.specs.Entities.{entity_of}

-- Uint128
unfoldable pub uint128_of : List WireField → Option Uint128
uint128_of fields = do
  high ← uint64_at 1 fields
  low ← uint64_at 2 fields
  Some (record { high = high; low = low })

-- an election id, which counts as 0 where it is not given
unfoldable pub election_id_at : ℕ → List WireField → Option Uint128
election_id_at number fields = one_at uint128_of number fields >>= λ id. Some (unwrap_or id (record { high = 0; low = 0 }))

-- Update
unfoldable pub update_of : List WireField → Option Update
update_of fields = do
  kind ← int32_at 1 fields
  entity ← one_at entity_of 2 fields
  Some (record { kind = kind; entity = option_flatten entity })

-- WriteRequest, whose fields are all known
unfoldable pub write_request_of : List WireField → Option WriteRequest
write_request_of fields = if not (only_known (1 ∷ 2 ∷ 3 ∷ 4 ∷ 5 ∷ []) fields) then None else do
  device_id ← uint64_at 1 fields
  role_id ← uint64_at 2 fields
  election_id ← election_id_at 3 fields
  updates ← all_at update_of 4 fields
  atomicity ← int32_at 5 fields
  Some (record { device_id = device_id; role_id = role_id; election_id = election_id; updates = updates; atomicity = atomicity })

-- ReadRequest
unfoldable pub read_request_of : List WireField → Option ReadRequest
read_request_of fields = do
  device_id ← uint64_at 1 fields
  entities ← all_at entity_of 2 fields
  Some (record { device_id = device_id; entities = entities })

-- ForwardingPipelineConfig.Cookie
unfoldable pub cookie_of : List WireField → Option Cookie
cookie_of fields = do
  cookie ← uint64_at 1 fields
  Some (record { cookie = cookie })

-- ForwardingPipelineConfig. Its P4Info is not looked into.
unfoldable pub config_of : List WireField → Option ForwardingPipelineConfig
config_of fields = do
  p4info ← message_at 1 fields
  p4_device_config ← bytes_at 2 fields
  cookie ← one_at cookie_of 3 fields
  Some (record { p4info = p4info; p4_device_config = p4_device_config; cookie = cookie })

-- SetForwardingPipelineConfigRequest, whose fields are all known
unfoldable pub set_request_of : List WireField → Option SetForwardingPipelineConfigRequest
set_request_of fields = if not (only_known (1 ∷ 2 ∷ 3 ∷ 4 ∷ 5 ∷ []) fields) then None else do
  device_id ← uint64_at 1 fields
  role_id ← uint64_at 2 fields
  election_id ← election_id_at 3 fields
  action ← int32_at 4 fields
  config ← one_at config_of 5 fields
  Some (record { device_id = device_id; role_id = role_id; election_id = election_id; action = action; config = config })

-- GetForwardingPipelineConfigRequest
unfoldable pub get_request_of : List WireField → Option GetForwardingPipelineConfigRequest
get_request_of fields = do
  device_id ← uint64_at 1 fields
  response_type ← int32_at 2 fields
  Some (record { device_id = device_id; response_type = response_type })
