-- Messages of the stream channel by their fields, a line for each field.
use Rattle.std.specs.Prelude.{ℕ, ◌==◌, not, if◌then◌else◌, List, [], ◌∷◌, Option, Some, None, option_map}
use Rattle.p4_types.specs.declared.messages.Any.{Any}
use Rattle.p4_types.specs.declared.messages.DigestListAck.{DigestListAck}
use Rattle.p4_types.specs.declared.messages.MasterArbitrationUpdate.{MasterArbitrationUpdate}
use Rattle.p4_types.specs.declared.messages.PacketMetadata.{PacketMetadata}
use Rattle.p4_types.specs.declared.messages.PacketOut.{PacketOut}
use Rattle.p4_types.specs.declared.messages.Role.{Role}
use Rattle.p4_types.specs.declared.messages.Status.{Status}
use Rattle.p4_types.specs.declared.messages.StreamMessageRequest.{StreamMessageRequest}
use Rattle.p4_types.specs.declared.messages.StreamMessageRequest.TheVariants as members
use Rattle.wire_fields.specs.Fields.{WireField}
use Rattle.list_types.specs.Options.{◌>>=◌}
use Rattle.wire_messages.specs.Message.{uint32_at, uint64_at, int32_at, bytes_at, text_at, choice_at, only_known}
use Rattle.p4v1_read.specs.Nested.{one_at, all_at, member_at, optional}
use Rattle.p4v1_read.specs.Requests.{election_id_at}

-- google.protobuf.Any
unfoldable pub any_of : List WireField → Option Any
any_of fields = do
  type_url ← text_at 1 fields
  value ← bytes_at 2 fields
  Some (record { type_url = type_url; value = value })

-- google.rpc.Status
unfoldable pub status_of : List WireField → Option Status
status_of fields = do
  code ← int32_at 1 fields
  message ← text_at 2 fields
  details ← all_at any_of 3 fields
  Some (record { code = code; message = message; details = details })

-- Role, whose fields are all known
unfoldable pub role_of : List WireField → Option Role
role_of fields = if not (only_known (1 ∷ 2 ∷ []) fields) then None else do
  id ← uint64_at 1 fields
  config ← one_at any_of 2 fields
  Some (record { id = id; config = config })

-- MasterArbitrationUpdate
unfoldable pub arbitration_of : List WireField → Option MasterArbitrationUpdate
arbitration_of fields = do
  device_id ← uint64_at 1 fields
  role ← one_at role_of 2 fields
  election_id ← election_id_at 3 fields
  status ← one_at status_of 4 fields
  Some (record { device_id = device_id; role = role; election_id = election_id; status = status })

-- PacketMetadata
unfoldable pub metadata_of : List WireField → Option PacketMetadata
metadata_of fields = do
  metadata_id ← uint32_at 1 fields
  value ← bytes_at 2 fields
  Some (record { metadata_id = metadata_id; value = value })

-- PacketOut
unfoldable pub packet_out_of : List WireField → Option PacketOut
packet_out_of fields = do
  payload ← bytes_at 1 fields
  metadata ← all_at metadata_of 2 fields
  Some (record { payload = payload; metadata = metadata })

-- DigestListAck
unfoldable pub digest_ack_of : List WireField → Option DigestListAck
digest_ack_of fields = do
  digest_id ← uint32_at 1 fields
  list_id ← uint64_at 2 fields
  Some (record { digest_id = digest_id; list_id = list_id })

-- the member of a StreamMessageRequest by its number
unfoldable pub stream_by : List WireField → ℕ → Option StreamMessageRequest
stream_by fields member =
    if member == 1 then option_map members.Arbitration (member_at arbitration_of 1 fields) else
    if member == 2 then option_map members.Packet (member_at packet_out_of 2 fields) else
    if member == 3 then option_map members.DigestAck (member_at digest_ack_of 3 fields) else
    if member == 4 then option_map members.Other (member_at any_of 4 fields) else None

-- StreamMessageRequest, a choice that may have no member
unfoldable pub stream_of : List WireField → Option (Option StreamMessageRequest)
stream_of fields = choice_at (1 ∷ 2 ∷ 3 ∷ 4 ∷ []) fields >>= optional (stream_by fields)
