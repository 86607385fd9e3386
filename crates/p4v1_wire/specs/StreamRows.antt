-- Rows of the messages of the stream channel, a line for each field.
use Rattle.std.specs.Prelude.{List, [], ◌∷◌, ℕ, Option, Some, None, All, IfSome, map}
use Rattle.std.specs.Option.{option_map}
use Rattle.p4_types.specs.declared.messages.DigestList.{DigestList}
use Rattle.p4_types.specs.declared.messages.DigestListAck.{DigestListAck}
use Rattle.p4_types.specs.declared.messages.IdleTimeoutNotification.{IdleTimeoutNotification}
use Rattle.p4_types.specs.declared.messages.MasterArbitrationUpdate.{MasterArbitrationUpdate}
use Rattle.p4_types.specs.declared.messages.P4Data.{P4Data}
use Rattle.p4_types.specs.declared.messages.PacketIn.{PacketIn}
use Rattle.p4_types.specs.declared.messages.PacketMetadata.{PacketMetadata}
use Rattle.p4_types.specs.declared.messages.PacketOut.{PacketOut}
use Rattle.p4_types.specs.declared.messages.Role.{Role}
use Rattle.p4_types.specs.declared.messages.StreamError.{StreamError}
use Rattle.p4_types.specs.declared.messages.StreamErrorDetails.{StreamErrorDetails}
use Rattle.p4_types.specs.declared.messages.StreamMessageResponse.{StreamMessageResponse}
use Rattle.p4_types.specs.declared.messages.Uint128.{Uint128}
use Rattle.p4_types.specs.declared.messages.P4Data.TheVariants as data_kinds
use Rattle.p4_types.specs.declared.messages.StreamErrorDetails.TheVariants as details
use Rattle.p4_types.specs.declared.messages.StreamMessageResponse.TheVariants as responses
use Rattle.wire_messages.specs.Written.{Uint32, Uint64, Int32, Int64, ByteString, Text, Message, Present, Messages, ChosenBytes, Row, row, RowsInRange}
use Rattle.p4v1_wire.specs.Rows.{fields_by}
use Rattle.p4v1_wire.specs.StatusRows.{any_rows, AnyInRange, status_rows, StatusInRange}
use Rattle.p4v1_wire.specs.EntityRows.{table_entry_rows, TableEntryInRange}

-- Uint128
unfoldable pub uint128_rows : Uint128 → List Row
uint128_rows m =
    row 1 (Uint64 m.high) ∷
    row 2 (Uint64 m.low) ∷
    []

-- its numbers and texts are in the ranges of their types
unfoldable pub Uint128InRange : Uint128 → Type 0
Uint128InRange m = RowsInRange (uint128_rows m)

-- Role
unfoldable pub role_rows : Role → List Row
role_rows m =
    row 1 (Uint64 m.id) ∷
    row 2 (Message (option_map (fields_by any_rows) m.config)) ∷
    []

-- its numbers and texts are in the ranges of their types
unfoldable pub RoleInRange : Role → Type 0
RoleInRange m = RowsInRange (role_rows m) × IfSome m.config AnyInRange

-- MasterArbitrationUpdate. Its status is present where it is given, as in every notice.
unfoldable pub arbitration_rows : MasterArbitrationUpdate → List Row
arbitration_rows m =
    row 1 (Uint64 m.device_id) ∷
    row 2 (Message (option_map (fields_by role_rows) m.role)) ∷
    row 3 (Message (Some (fields_by uint128_rows m.election_id))) ∷
    row 4 (Present (option_map (fields_by status_rows) m.status)) ∷
    []

-- its numbers and texts are in the ranges of their types
unfoldable pub ArbitrationInRange : MasterArbitrationUpdate → Type 0
ArbitrationInRange m = RowsInRange (arbitration_rows m) × IfSome m.role RoleInRange × Uint128InRange m.election_id × IfSome m.status StatusInRange

-- PacketMetadata
unfoldable pub metadata_rows : PacketMetadata → List Row
metadata_rows m =
    row 1 (Uint32 m.metadata_id) ∷
    row 2 (ByteString m.value) ∷
    []

-- its numbers and texts are in the ranges of their types
unfoldable pub MetadataInRange : PacketMetadata → Type 0
MetadataInRange m = RowsInRange (metadata_rows m)

-- PacketIn
unfoldable pub packet_in_rows : PacketIn → List Row
packet_in_rows m =
    row 1 (ByteString m.payload) ∷
    row 2 (Messages (map (fields_by metadata_rows) m.metadata)) ∷
    []

-- its numbers and texts are in the ranges of their types
unfoldable pub PacketInInRange : PacketIn → Type 0
PacketInInRange m = RowsInRange (packet_in_rows m) × All MetadataInRange m.metadata

-- PacketOut
unfoldable pub packet_out_rows : PacketOut → List Row
packet_out_rows m =
    row 1 (ByteString m.payload) ∷
    row 2 (Messages (map (fields_by metadata_rows) m.metadata)) ∷
    []

-- its numbers and texts are in the ranges of their types
unfoldable pub PacketOutInRange : PacketOut → Type 0
PacketOutInRange m = RowsInRange (packet_out_rows m) × All MetadataInRange m.metadata

-- DigestListAck
unfoldable pub digest_ack_rows : DigestListAck → List Row
digest_ack_rows m =
    row 1 (Uint32 m.digest_id) ∷
    row 2 (Uint64 m.list_id) ∷
    []

-- its numbers and texts are in the ranges of their types
unfoldable pub DigestAckInRange : DigestListAck → Type 0
DigestAckInRange m = RowsInRange (digest_ack_rows m)

-- P4Data with a bitstring
abbrev pub bitstring_rows : List ℕ → List Row
bitstring_rows bytes = row 1 (ChosenBytes bytes) ∷ []

-- P4StructLike, whose members are bitstrings
abbrev pub struct_rows : List (List ℕ) → List Row
struct_rows members = row 1 (Messages (map (fields_by bitstring_rows) members)) ∷ []

-- P4Data: a bitstring, or a struct of bitstrings
unfoldable pub p4data_rows : P4Data → List Row
p4data_rows (data_kinds.Bitstring bytes) = bitstring_rows bytes
p4data_rows (data_kinds.Struct members) = row 5 (Present (Some (fields_by struct_rows members))) ∷ []

-- it has no numbers and texts
abbrev pub P4dataInRange : P4Data → Type 0
P4dataInRange content = Unit {0}

-- DigestList
unfoldable pub digest_list_rows : DigestList → List Row
digest_list_rows m =
    row 1 (Uint32 m.digest_id) ∷
    row 2 (Uint64 m.list_id) ∷
    row 3 (Messages (map (fields_by p4data_rows) m.content)) ∷
    row 4 (Int64 m.timestamp) ∷
    []

-- its numbers and texts are in the ranges of their types
unfoldable pub DigestListInRange : DigestList → Type 0
DigestListInRange m = RowsInRange (digest_list_rows m) × All P4dataInRange m.content

-- IdleTimeoutNotification
unfoldable pub idle_timeout_rows : IdleTimeoutNotification → List Row
idle_timeout_rows m =
    row 1 (Messages (map (fields_by table_entry_rows) m.table_entry)) ∷
    row 2 (Int64 m.timestamp) ∷
    []

-- its numbers and texts are in the ranges of their types
unfoldable pub IdleTimeoutInRange : IdleTimeoutNotification → Type 0
IdleTimeoutInRange m = RowsInRange (idle_timeout_rows m) × All TableEntryInRange m.table_entry

-- PacketOutError, which holds the message in field 1
abbrev pub packet_out_error_rows : PacketOut → List Row
packet_out_error_rows m = row 1 (Message (Some (fields_by packet_out_rows m))) ∷ []

-- DigestListAckError, which holds the message in field 1
abbrev pub digest_ack_error_rows : DigestListAck → List Row
digest_ack_error_rows m = row 1 (Message (Some (fields_by digest_ack_rows m))) ∷ []

-- the choice of a StreamError
unfoldable pub details_choice_rows : Option StreamErrorDetails → List Row
details_choice_rows None = []
details_choice_rows (Some (details.PacketOut m)) = row 5 (Present (Some (fields_by packet_out_error_rows m))) ∷ []
details_choice_rows (Some (details.DigestListAck m)) = row 6 (Present (Some (fields_by digest_ack_error_rows m))) ∷ []
details_choice_rows (Some (details.Other m)) = row 7 (Present (Some (fields_by any_rows m))) ∷ []

-- its numbers and texts are in the ranges of their types
unfoldable pub DetailsChoiceInRange : Option StreamErrorDetails → Type 0
DetailsChoiceInRange None = Unit {0}
DetailsChoiceInRange (Some (details.PacketOut m)) = PacketOutInRange m
DetailsChoiceInRange (Some (details.DigestListAck m)) = DigestAckInRange m
DetailsChoiceInRange (Some (details.Other m)) = AnyInRange m

-- StreamError
unfoldable pub stream_error_rows : StreamError → List Row
stream_error_rows m =
    row 1 (Int32 m.canonical_code) ∷
    row 2 (Text m.message) ∷
    row 3 (Text m.space) ∷
    row 4 (Int32 m.code) ∷
    details_choice_rows m.details

-- its numbers and texts are in the ranges of their types
unfoldable pub StreamErrorInRange : StreamError → Type 0
StreamErrorInRange m = RowsInRange (stream_error_rows m) × DetailsChoiceInRange m.details

-- StreamMessageResponse, a choice
unfoldable pub stream_rows : StreamMessageResponse → List Row
stream_rows (responses.Arbitration m) = row 1 (Present (Some (fields_by arbitration_rows m))) ∷ []
stream_rows (responses.Packet m) = row 2 (Present (Some (fields_by packet_in_rows m))) ∷ []
stream_rows (responses.Digest m) = row 3 (Present (Some (fields_by digest_list_rows m))) ∷ []
stream_rows (responses.IdleTimeoutNotification m) = row 4 (Present (Some (fields_by idle_timeout_rows m))) ∷ []
stream_rows (responses.Other m) = row 5 (Present (Some (fields_by any_rows m))) ∷ []
stream_rows (responses.Error m) = row 6 (Present (Some (fields_by stream_error_rows m))) ∷ []

-- its numbers and texts are in the ranges of their types
unfoldable pub StreamInRange : StreamMessageResponse → Type 0
StreamInRange (responses.Arbitration m) = ArbitrationInRange m
StreamInRange (responses.Packet m) = PacketInInRange m
StreamInRange (responses.Digest m) = DigestListInRange m
StreamInRange (responses.IdleTimeoutNotification m) = IdleTimeoutInRange m
StreamInRange (responses.Other m) = AnyInRange m
StreamInRange (responses.Error m) = StreamErrorInRange m
