-- The messages that only a server sends, by their fields, a line for each field.
use Rattle.std.specs.Prelude.{ℕ, ◌==◌, if◌then◌else◌, List, [], ◌∷◌, Option, Some, None, option_map, unwrap_or}
use Rattle.p4_types.specs.declared.messages.CapabilitiesResponse.{CapabilitiesResponse}
use Rattle.p4_types.specs.declared.messages.DigestList.{DigestList}
use Rattle.p4_types.specs.declared.messages.DigestListAck.{DigestListAck}
use Rattle.p4_types.specs.declared.messages.Entity.{Entity}
use Rattle.p4_types.specs.declared.messages.Error.{Error}
use Rattle.p4_types.specs.declared.messages.GetForwardingPipelineConfigResponse.{GetForwardingPipelineConfigResponse}
use Rattle.p4_types.specs.declared.messages.IdleTimeoutNotification.{IdleTimeoutNotification}
use Rattle.p4_types.specs.declared.messages.P4Data.{P4Data}
use Rattle.p4_types.specs.declared.messages.PacketIn.{PacketIn}
use Rattle.p4_types.specs.declared.messages.PacketOut.{PacketOut}
use Rattle.p4_types.specs.declared.messages.StreamError.{StreamError}
use Rattle.p4_types.specs.declared.messages.StreamErrorDetails.{StreamErrorDetails}
use Rattle.p4_types.specs.declared.messages.StreamMessageResponse.{StreamMessageResponse}
use Rattle.p4_types.specs.declared.messages.P4Data.TheVariants as data_kinds
use Rattle.p4_types.specs.declared.messages.StreamErrorDetails.TheVariants as details
use Rattle.p4_types.specs.declared.messages.StreamMessageResponse.TheVariants as responses
use Rattle.wire_fields.specs.Fields.{WireField}
use Rattle.list_types.specs.Options.{◌>>=◌}
use Rattle.wire_messages.specs.Message.{uint32_at, uint64_at, int32_at, int64_at, bytes_at, text_at, choice_at}
use Rattle.p4v1_read.specs.Nested.{one_at, all_at, member_at, optional}
use Rattle.p4v1_read.specs.Entities.{table_entry_of, entity_of}
use Rattle.p4v1_read.specs.Requests.{config_of}
use Rattle.p4v1_read.specs.Stream.{any_of, arbitration_of, metadata_of, packet_out_of, digest_ack_of}

-- p4.v1.Error
unfoldable pub error_of : List WireField → Option Error
error_of fields = do
  canonical_code ← int32_at 1 fields
  message ← text_at 2 fields
  space ← text_at 3 fields
  code ← int32_at 4 fields
  details ← all_at any_of 5 fields
  Some (record { canonical_code = canonical_code; message = message; space = space; code = code; details = details })

-- PacketIn
unfoldable pub packet_in_of : List WireField → Option PacketIn
packet_in_of fields = do
  payload ← bytes_at 1 fields
  metadata ← all_at metadata_of 2 fields
  Some (record { payload = payload; metadata = metadata })

-- IdleTimeoutNotification
unfoldable pub idle_timeout_of : List WireField → Option IdleTimeoutNotification
idle_timeout_of fields = do
  table_entry ← all_at table_entry_of 1 fields
  timestamp ← int64_at 2 fields
  Some (record { table_entry = table_entry; timestamp = timestamp })

-- ReadResponse: its entities, each a choice that may have no member
unfoldable pub read_response_of : List WireField → Option (List (Option Entity))
read_response_of fields = all_at entity_of 1 fields

-- GetForwardingPipelineConfigResponse
unfoldable pub get_response_of : List WireField → Option GetForwardingPipelineConfigResponse
get_response_of fields = do
  config ← one_at config_of 1 fields
  Some (record { config = config })

-- CapabilitiesResponse
unfoldable pub capabilities_response_of : List WireField → Option CapabilitiesResponse
capabilities_response_of fields = do
  p4runtime_api_version ← text_at 1 fields
  Some (record { p4runtime_api_version = p4runtime_api_version })

-- P4Data with a bitstring
unfoldable pub bitstring_of : List WireField → Option (List ℕ)
bitstring_of fields = choice_at (1 ∷ 5 ∷ []) fields >>= λ member. member >>= λ number. if number == 1 then bytes_at 1 fields else None

-- the member of a P4Data by its number; a struct inside a struct is not read
unfoldable pub p4data_by : List WireField → ℕ → Option P4Data
p4data_by fields member =
    if member == 1 then option_map data_kinds.Bitstring (bytes_at 1 fields) else
    if member == 5 then option_map data_kinds.Struct (member_at (all_at bitstring_of 1) 5 fields) else None

-- P4Data, of which one member is given
unfoldable pub p4data_of : List WireField → Option P4Data
p4data_of fields = choice_at (1 ∷ 5 ∷ []) fields >>= λ member. member >>= p4data_by fields

-- DigestList
unfoldable pub digest_list_of : List WireField → Option DigestList
digest_list_of fields = do
  digest_id ← uint32_at 1 fields
  list_id ← uint64_at 2 fields
  content ← all_at p4data_of 3 fields
  timestamp ← int64_at 4 fields
  Some (record { digest_id = digest_id; list_id = list_id; content = content; timestamp = timestamp })

-- a PacketOut that is not given
abbrev pub no_packet_out : PacketOut
no_packet_out = record { payload = []; metadata = [] }

-- PacketOutError
unfoldable pub packet_out_error_of : List WireField → Option PacketOut
packet_out_error_of fields = one_at packet_out_of 1 fields >>= λ packet. Some (unwrap_or packet no_packet_out)

-- a DigestListAck that is not given
abbrev pub no_digest_ack : DigestListAck
no_digest_ack = record { digest_id = 0; list_id = 0 }

-- DigestListAckError
unfoldable pub digest_ack_error_of : List WireField → Option DigestListAck
digest_ack_error_of fields = one_at digest_ack_of 1 fields >>= λ ack. Some (unwrap_or ack no_digest_ack)

-- the member of a StreamError's choice by its number
unfoldable pub details_by : List WireField → ℕ → Option StreamErrorDetails
details_by fields member =
    if member == 5 then option_map details.PacketOut (member_at packet_out_error_of 5 fields) else
    if member == 6 then option_map details.DigestListAck (member_at digest_ack_error_of 6 fields) else
    if member == 7 then option_map details.Other (member_at any_of 7 fields) else None

-- the choice of a StreamError
unfoldable pub details_of : List WireField → Option (Option StreamErrorDetails)
details_of fields = choice_at (5 ∷ 6 ∷ 7 ∷ []) fields >>= optional (details_by fields)

-- StreamError
unfoldable pub stream_error_of : List WireField → Option StreamError
stream_error_of fields = do
  canonical_code ← int32_at 1 fields
  message ← text_at 2 fields
  space ← text_at 3 fields
  code ← int32_at 4 fields
  details ← details_of fields
  Some (record { canonical_code = canonical_code; message = message; space = space; code = code; details = details })

-- the member of a StreamMessageResponse by its number
unfoldable pub stream_response_by : List WireField → ℕ → Option StreamMessageResponse
stream_response_by fields member =
    if member == 1 then option_map responses.Arbitration (member_at arbitration_of 1 fields) else
    if member == 2 then option_map responses.Packet (member_at packet_in_of 2 fields) else
    if member == 3 then option_map responses.Digest (member_at digest_list_of 3 fields) else
    if member == 4 then option_map responses.IdleTimeoutNotification (member_at idle_timeout_of 4 fields) else
    if member == 5 then option_map responses.Other (member_at any_of 5 fields) else
    if member == 6 then option_map responses.Error (member_at stream_error_of 6 fields) else None

-- StreamMessageResponse, a choice that may have no member
unfoldable pub stream_response_of : List WireField → Option (Option StreamMessageResponse)
stream_response_of fields = choice_at (1 ∷ 2 ∷ 3 ∷ 4 ∷ 5 ∷ 6 ∷ []) fields >>= optional (stream_response_by fields)
