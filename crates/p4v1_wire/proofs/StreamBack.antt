-- Messages of the stream channel are read back.
use Rattle.std.proofs.Common.{◌≡◌, ℕ, ℤ, ◌^◌, ◌<◌, IsTrue, All, List, [], ◌∷◌, length, Option, Some, None, refl, ap, ◌∙◌, unwrap_or}
use Rattle.p4_types.specs.declared.messages.StreamErrorDetails.{StreamErrorDetails}
use Rattle.p4_types.specs.declared.messages.StreamMessageResponse.{StreamMessageResponse}
use Rattle.p4_types.specs.declared.messages.DigestListAck.{DigestListAck}
use Rattle.p4_types.specs.declared.messages.P4Data.TheVariants as data_kinds
use Rattle.p4_types.specs.declared.messages.StreamErrorDetails.TheVariants as details
use Rattle.p4_types.specs.declared.messages.StreamMessageResponse.TheVariants as responses
use Rattle.p4_types.specs.declared.messages.IdleTimeoutNotification.{IdleTimeoutNotification}
use Rattle.p4_types.specs.declared.messages.MasterArbitrationUpdate.{MasterArbitrationUpdate}
use Rattle.p4_types.specs.declared.messages.PacketIn.{PacketIn}
use Rattle.p4_types.specs.declared.messages.PacketMetadata.{PacketMetadata}
use Rattle.p4_types.specs.declared.messages.PacketOut.{PacketOut}
use Rattle.p4_types.specs.declared.messages.Role.{Role}
use Rattle.p4_types.specs.declared.messages.Uint128.{Uint128}
use Rattle.wire_fields.specs.Laws.{CanBeWritten}
use Rattle.wire_fields.specs.Spelling.{spelling}
use Rattle.list_types.specs.Options.{◌>>=◌}
use Rattle.wire_messages.specs.Message.{number_at, bytes_at, messages_at}
use Rattle.wire_messages.specs.Written.{Int32, Text, Message, payloads, Row, row, written, rising, RowsInRange, look}
use Rattle.wire_messages.proofs.CanWrite.{rows_can_be_written}
use Rattle.wire_messages.proofs.ReadBack.{uint32_back, uint64_back, int32_back, int64_back, bytes_back, chosen_bytes_back, text_back, choice_back, known_back}
use Rattle.p4v1_read.specs.Nested.{all_at}
use Rattle.p4v1_read.specs.Entities.{table_entry_of}
use Rattle.p4v1_read.specs.Requests.{uint128_of}
use Rattle.p4v1_read.specs.Stream.{role_of, arbitration_of, metadata_of, packet_out_of, digest_ack_of, any_of, status_of}
use Rattle.p4v1_wire.specs.ServerMessages.{bitstring_of, p4data_by, p4data_of, digest_list_of, packet_in_of, idle_timeout_of, no_packet_out, packet_out_error_of, no_digest_ack, digest_ack_error_of, details_by, details_of, stream_error_of, stream_response_by, stream_response_of}
use Rattle.p4v1_read.specs.Requests.{election_id_at}
use Rattle.p4v1_wire.specs.StatusRows.{any_rows, AnyInRange, status_rows, StatusInRange}
use Rattle.p4v1_wire.specs.EntityRows.{table_entry_rows, TableEntryInRange}
use Rattle.p4v1_wire.specs.StreamRows.{bitstring_rows, struct_rows, p4data_rows, P4dataInRange, digest_list_rows, DigestListInRange, packet_out_error_rows, digest_ack_error_rows, details_choice_rows, DetailsChoiceInRange, stream_error_rows, StreamErrorInRange, stream_rows, StreamInRange, uint128_rows, role_rows, arbitration_rows, metadata_rows, packet_in_rows, packet_out_rows, digest_ack_rows, idle_timeout_rows, Uint128InRange, RoleInRange, ArbitrationInRange, MetadataInRange, PacketInInRange, PacketOutInRange, DigestAckInRange, IdleTimeoutInRange}
use Rattle.p4v1_wire.specs.Rows.{fields_by}
use Rattle.p4v1_wire.specs.ReadBack.{IsReadBack, itself}
use Rattle.p4v1_wire.specs.Counted.{table_entry_counted, role_counted, arbitration_counted, idle_timeout_counted, stream_counted}
use Rattle.p4v1_wire.proofs.StatusBack.{any_back, status_back}
use Rattle.p4v1_wire.proofs.EntityBack.{table_entry_back}
use Rattle.p4v1_wire.proofs.NestedBack.{read_from, short_inside, member_back, optional_back, given_same, all_back, all_same, or_default}

rising_uint128 : (m : Uint128) → IsTrue (rising (uint128_rows m))
unfolding uint128_rows
rising_uint128 m = refl

uint128_says : (m : Uint128) → Uint128InRange m → length (spelling (fields_by uint128_rows m)) < 2 ^ 64 → uint128_of (fields_by uint128_rows m) ≡ Some (m)
unfolding uint128_of uint128_rows Uint128InRange
uint128_says m fits short =
    let rows = uint128_rows m in
    rw (
      uint64_back 1 rows m.high refl refl,
      uint64_back 2 rows m.low refl refl,
    ) refl

pub uint128_back : IsReadBack uint128_of uint128_rows Uint128InRange itself
unfolding Uint128InRange
uint128_back m fits short = read_from uint128_of (uint128_rows m) (m) (rising_uint128 m) fits short (uint128_says m fits short)

uint128_means : (m : Uint128) → uint128_of (fields_by uint128_rows m) ≡ Some m
unfolding uint128_of uint128_rows
uint128_means m =
    let rows = uint128_rows m in
    rw (uint64_back 1 rows m.high refl refl, uint64_back 2 rows m.low refl refl) refl

abbrev zero_id : Uint128
zero_id = record { high = 0; low = 0 }

default_id : uint128_of [] ≡ Some zero_id
unfolding uint128_of number_at
default_id = refl

-- an election id that is left out counts as 0
election_id_is : (n : ℕ) (rows : List Row) (m : Uint128) → IsTrue (rising rows) → look n rows ≡ payloads (Message (Some (fields_by uint128_rows m))) → All CanBeWritten (written rows) → Uint128InRange m → election_id_at n (written rows) ≡ Some m
unfolding election_id_at
election_id_is n rows m up is whole fits =
    ap (λ (o : Option (Option Uint128)). o >>= λ id. Some (unwrap_or id zero_id)) (optional_back uint128_of n rows uint128_rows Uint128InRange itself (Some m) up is whole fits uint128_back)
    ∙ ap (λ x. Some x) (or_default uint128_of (fields_by uint128_rows m) m zero_id (uint128_means m) default_id)

rising_role : (m : Role) → IsTrue (rising (role_rows m))
unfolding role_rows
rising_role m = refl

role_says : (m : Role) → RoleInRange m → length (spelling (fields_by role_rows m)) < 2 ^ 64 → role_of (fields_by role_rows m) ≡ Some (role_counted m)
unfolding role_of role_rows RoleInRange
role_says m fits short =
    let rows = role_rows m in
    let whole = rows_can_be_written rows refl fits.0 short in
    rw (
      known_back (1 ∷ 2 ∷ []) rows refl,
      uint64_back 1 rows m.id refl refl,
      optional_back any_of 2 rows any_rows AnyInRange itself m.config refl refl whole fits.1 any_back,
    ) refl

pub role_back : IsReadBack role_of role_rows RoleInRange role_counted
unfolding RoleInRange
role_back m fits short = read_from role_of (role_rows m) (role_counted m) (rising_role m) fits.0 short (role_says m fits short)

rising_arbitration : (m : MasterArbitrationUpdate) → IsTrue (rising (arbitration_rows m))
unfolding arbitration_rows
rising_arbitration m = refl

arbitration_says : (m : MasterArbitrationUpdate) → ArbitrationInRange m → length (spelling (fields_by arbitration_rows m)) < 2 ^ 64 → arbitration_of (fields_by arbitration_rows m) ≡ Some (arbitration_counted m)
unfolding arbitration_of arbitration_rows ArbitrationInRange
arbitration_says m fits short =
    let rows = arbitration_rows m in
    let whole = rows_can_be_written rows refl fits.0 short in
    rw (
      uint64_back 1 rows m.device_id refl refl,
      optional_back role_of 2 rows role_rows RoleInRange role_counted m.role refl refl whole fits.1 role_back,
      election_id_is 3 rows m.election_id refl refl whole fits.2,
      given_same status_of 4 rows status_rows StatusInRange m.status refl refl whole fits.3 status_back,
    ) refl

pub arbitration_back : IsReadBack arbitration_of arbitration_rows ArbitrationInRange arbitration_counted
unfolding ArbitrationInRange
arbitration_back m fits short = read_from arbitration_of (arbitration_rows m) (arbitration_counted m) (rising_arbitration m) fits.0 short (arbitration_says m fits short)

rising_metadata : (m : PacketMetadata) → IsTrue (rising (metadata_rows m))
unfolding metadata_rows
rising_metadata m = refl

metadata_says : (m : PacketMetadata) → MetadataInRange m → length (spelling (fields_by metadata_rows m)) < 2 ^ 64 → metadata_of (fields_by metadata_rows m) ≡ Some (m)
unfolding metadata_of metadata_rows MetadataInRange
metadata_says m fits short =
    let rows = metadata_rows m in
    rw (
      uint32_back 1 rows m.metadata_id refl refl fits.0,
      bytes_back 2 rows m.value refl refl,
    ) refl

pub metadata_back : IsReadBack metadata_of metadata_rows MetadataInRange itself
unfolding MetadataInRange
metadata_back m fits short = read_from metadata_of (metadata_rows m) (m) (rising_metadata m) fits short (metadata_says m fits short)

rising_packet_in : (m : PacketIn) → IsTrue (rising (packet_in_rows m))
unfolding packet_in_rows
rising_packet_in m = refl

packet_in_says : (m : PacketIn) → PacketInInRange m → length (spelling (fields_by packet_in_rows m)) < 2 ^ 64 → packet_in_of (fields_by packet_in_rows m) ≡ Some (m)
unfolding packet_in_of packet_in_rows PacketInInRange
packet_in_says m fits short =
    let rows = packet_in_rows m in
    let whole = rows_can_be_written rows refl fits.0 short in
    rw (
      bytes_back 1 rows m.payload refl refl,
      all_same metadata_of 2 rows metadata_rows MetadataInRange m.metadata refl refl whole fits.1 metadata_back,
    ) refl

pub packet_in_back : IsReadBack packet_in_of packet_in_rows PacketInInRange itself
unfolding PacketInInRange
packet_in_back m fits short = read_from packet_in_of (packet_in_rows m) (m) (rising_packet_in m) fits.0 short (packet_in_says m fits short)

rising_packet_out : (m : PacketOut) → IsTrue (rising (packet_out_rows m))
unfolding packet_out_rows
rising_packet_out m = refl

packet_out_says : (m : PacketOut) → PacketOutInRange m → length (spelling (fields_by packet_out_rows m)) < 2 ^ 64 → packet_out_of (fields_by packet_out_rows m) ≡ Some (m)
unfolding packet_out_of packet_out_rows PacketOutInRange
packet_out_says m fits short =
    let rows = packet_out_rows m in
    let whole = rows_can_be_written rows refl fits.0 short in
    rw (
      bytes_back 1 rows m.payload refl refl,
      all_same metadata_of 2 rows metadata_rows MetadataInRange m.metadata refl refl whole fits.1 metadata_back,
    ) refl

pub packet_out_back : IsReadBack packet_out_of packet_out_rows PacketOutInRange itself
unfolding PacketOutInRange
packet_out_back m fits short = read_from packet_out_of (packet_out_rows m) (m) (rising_packet_out m) fits.0 short (packet_out_says m fits short)

rising_digest_ack : (m : DigestListAck) → IsTrue (rising (digest_ack_rows m))
unfolding digest_ack_rows
rising_digest_ack m = refl

digest_ack_says : (m : DigestListAck) → DigestAckInRange m → length (spelling (fields_by digest_ack_rows m)) < 2 ^ 64 → digest_ack_of (fields_by digest_ack_rows m) ≡ Some (m)
unfolding digest_ack_of digest_ack_rows DigestAckInRange
digest_ack_says m fits short =
    let rows = digest_ack_rows m in
    rw (
      uint32_back 1 rows m.digest_id refl refl fits.0,
      uint64_back 2 rows m.list_id refl refl,
    ) refl

pub digest_ack_back : IsReadBack digest_ack_of digest_ack_rows DigestAckInRange itself
unfolding DigestAckInRange
digest_ack_back m fits short = read_from digest_ack_of (digest_ack_rows m) (m) (rising_digest_ack m) fits short (digest_ack_says m fits short)

rising_idle_timeout : (m : IdleTimeoutNotification) → IsTrue (rising (idle_timeout_rows m))
unfolding idle_timeout_rows
rising_idle_timeout m = refl

idle_timeout_says : (m : IdleTimeoutNotification) → IdleTimeoutInRange m → length (spelling (fields_by idle_timeout_rows m)) < 2 ^ 64 → idle_timeout_of (fields_by idle_timeout_rows m) ≡ Some (idle_timeout_counted m)
unfolding idle_timeout_of idle_timeout_rows IdleTimeoutInRange
idle_timeout_says m fits short =
    let rows = idle_timeout_rows m in
    let whole = rows_can_be_written rows refl fits.0 short in
    rw (
      all_back table_entry_of 1 rows table_entry_rows TableEntryInRange table_entry_counted m.table_entry refl refl whole fits.1 table_entry_back,
      int64_back 2 rows m.timestamp refl refl fits.0.1.0,
    ) refl

pub idle_timeout_back : IsReadBack idle_timeout_of idle_timeout_rows IdleTimeoutInRange idle_timeout_counted
unfolding IdleTimeoutInRange
idle_timeout_back m fits short = read_from idle_timeout_of (idle_timeout_rows m) (idle_timeout_counted m) (rising_idle_timeout m) fits.0 short (idle_timeout_says m fits short)

-- ---- digests

bitstring_says : (bytes : List ℕ) → bitstring_of (fields_by bitstring_rows bytes) ≡ Some bytes
unfolding bitstring_of
bitstring_says bytes =
    let rows = bitstring_rows bytes in
    rw (choice_back (1 ∷ 5 ∷ []) rows refl, chosen_bytes_back 1 rows bytes refl refl) refl

abbrev Anything : {A : Type 0} → A → Type 0
Anything x = Unit {0}

all_things : {A : Type 0} (xs : List A) → All Anything xs
all_things xs = λ k d h. tt

bitstring_back : IsReadBack bitstring_of bitstring_rows Anything itself
bitstring_back bytes fits short = read_from bitstring_of (bitstring_rows bytes) bytes refl (tt, tt) short (bitstring_says bytes)

struct_back : IsReadBack (all_at bitstring_of 1) struct_rows Anything itself
struct_back members fits short =
    let rows = struct_rows members in
    let whole = rows_can_be_written rows refl (tt, tt) short in
    read_from (all_at bitstring_of 1) rows members refl (tt, tt) short (all_same bitstring_of 1 rows bitstring_rows Anything members refl refl whole (all_things members) bitstring_back)

p4data_back : IsReadBack p4data_of p4data_rows P4dataInRange itself
unfolding p4data_of p4data_by p4data_rows
p4data_back (data_kinds.Bitstring bytes) fits short =
    let rows = bitstring_rows bytes in
    read_from p4data_of rows (data_kinds.Bitstring bytes) refl (tt, tt) short (rw (choice_back (1 ∷ 5 ∷ []) rows refl, chosen_bytes_back 1 rows bytes refl refl) refl)
p4data_back (data_kinds.Struct members) fits short =
    let rows = p4data_rows (data_kinds.Struct members) in
    let whole = rows_can_be_written rows refl (tt, tt) short in
    read_from p4data_of rows (data_kinds.Struct members) refl (tt, tt) short
    (rw (choice_back (1 ∷ 5 ∷ []) rows refl, member_back (all_at bitstring_of 1) 5 rows struct_rows Anything itself members refl refl whole tt struct_back) refl)

pub digest_list_back : IsReadBack digest_list_of digest_list_rows DigestListInRange itself
unfolding digest_list_of digest_list_rows DigestListInRange
digest_list_back m fits short =
    let rows = digest_list_rows m in
    let whole = rows_can_be_written rows refl fits.0 short in
    read_from digest_list_of rows m refl fits.0 short
    (rw (
      uint32_back 1 rows m.digest_id refl refl fits.0.0,
      uint64_back 2 rows m.list_id refl refl,
      all_same p4data_of 3 rows p4data_rows P4dataInRange m.content refl refl whole fits.1 p4data_back,
      int64_back 4 rows m.timestamp refl refl fits.0.1.1.1.0,
    ) refl)

-- ---- errors

default_packet_out : packet_out_of [] ≡ Some no_packet_out
unfolding packet_out_of bytes_at all_at messages_at
default_packet_out = refl

default_digest_ack : digest_ack_of [] ≡ Some no_digest_ack
unfolding digest_ack_of number_at
default_digest_ack = refl

packet_out_means : (m : PacketOut) → PacketOutInRange m → All CanBeWritten (fields_by packet_out_rows m) → packet_out_of (fields_by packet_out_rows m) ≡ Some m
unfolding packet_out_of packet_out_rows PacketOutInRange
packet_out_means m fits whole =
    let rows = packet_out_rows m in
    rw (bytes_back 1 rows m.payload refl refl, all_same metadata_of 2 rows metadata_rows MetadataInRange m.metadata refl refl whole fits.1 metadata_back) refl

digest_ack_means : (m : DigestListAck) → DigestAckInRange m → digest_ack_of (fields_by digest_ack_rows m) ≡ Some m
unfolding digest_ack_of digest_ack_rows DigestAckInRange
digest_ack_means m fits =
    let rows = digest_ack_rows m in
    rw (uint32_back 1 rows m.digest_id refl refl fits.0, uint64_back 2 rows m.list_id refl refl) refl

packet_out_rows_fit : (m : PacketOut) → PacketOutInRange m → RowsInRange (packet_out_rows m)
unfolding PacketOutInRange
packet_out_rows_fit m fits = fits.0

packet_out_error_back : IsReadBack packet_out_error_of packet_out_error_rows PacketOutInRange itself
unfolding packet_out_error_of
packet_out_error_back m fits short =
    let rows = packet_out_error_rows m in
    let whole = rows_can_be_written rows refl (tt, tt) short in
    let inner = rows_can_be_written (packet_out_rows m) (rising_packet_out m) (packet_out_rows_fit m fits) (short_inside 1 rows (fields_by packet_out_rows m) refl refl whole) in
    read_from packet_out_error_of rows m refl (tt, tt) short
    (ap (λ (o : Option (Option PacketOut)). o >>= λ packet. Some (unwrap_or packet no_packet_out)) (optional_back packet_out_of 1 rows packet_out_rows PacketOutInRange itself (Some m) refl refl whole fits packet_out_back)
    ∙ ap (λ x. Some x) (or_default packet_out_of (fields_by packet_out_rows m) m no_packet_out (packet_out_means m fits inner) default_packet_out))

digest_ack_error_back : IsReadBack digest_ack_error_of digest_ack_error_rows DigestAckInRange itself
unfolding digest_ack_error_of
digest_ack_error_back m fits short =
    let rows = digest_ack_error_rows m in
    let whole = rows_can_be_written rows refl (tt, tt) short in
    read_from digest_ack_error_of rows m refl (tt, tt) short
    (ap (λ (o : Option (Option DigestListAck)). o >>= λ ack. Some (unwrap_or ack no_digest_ack)) (optional_back digest_ack_of 1 rows digest_ack_rows DigestAckInRange itself (Some m) refl refl whole fits digest_ack_back)
    ∙ ap (λ x. Some x) (or_default digest_ack_of (fields_by digest_ack_rows m) m no_digest_ack (digest_ack_means m fits) default_digest_ack))

abbrev error_rows_of : ℤ → List ℕ → List ℕ → ℤ → Option StreamErrorDetails → List Row
error_rows_of canonical_code message space code choice = row 1 (Int32 canonical_code) ∷ row 2 (Text message) ∷ row 3 (Text space) ∷ row 4 (Int32 code) ∷ details_choice_rows choice

details_says : (canonical_code : ℤ) (message space : List ℕ) (code : ℤ) (choice : Option StreamErrorDetails) → DetailsChoiceInRange choice → All CanBeWritten (written (error_rows_of canonical_code message space code choice))
    → details_of (written (error_rows_of canonical_code message space code choice)) ≡ Some choice
unfolding details_of details_by details_choice_rows DetailsChoiceInRange
details_says canonical_code message space code None fits whole = rw (choice_back (5 ∷ 6 ∷ 7 ∷ []) (error_rows_of canonical_code message space code None) refl) refl
details_says canonical_code message space code (Some (details.PacketOut m)) fits whole =
    let rows = error_rows_of canonical_code message space code (Some (details.PacketOut m)) in
    rw (choice_back (5 ∷ 6 ∷ 7 ∷ []) rows refl, member_back packet_out_error_of 5 rows packet_out_error_rows PacketOutInRange itself m refl refl whole fits packet_out_error_back) refl
details_says canonical_code message space code (Some (details.DigestListAck m)) fits whole =
    let rows = error_rows_of canonical_code message space code (Some (details.DigestListAck m)) in
    rw (choice_back (5 ∷ 6 ∷ 7 ∷ []) rows refl, member_back digest_ack_error_of 6 rows digest_ack_error_rows DigestAckInRange itself m refl refl whole fits digest_ack_error_back) refl
details_says canonical_code message space code (Some (details.Other m)) fits whole =
    let rows = error_rows_of canonical_code message space code (Some (details.Other m)) in
    rw (choice_back (5 ∷ 6 ∷ 7 ∷ []) rows refl, member_back any_of 7 rows any_rows AnyInRange itself m refl refl whole fits any_back) refl

rising_error : (canonical_code : ℤ) (message space : List ℕ) (code : ℤ) (choice : Option StreamErrorDetails) → IsTrue (rising (error_rows_of canonical_code message space code choice))
unfolding details_choice_rows
rising_error canonical_code message space code None = refl
rising_error canonical_code message space code (Some (details.PacketOut m)) = refl
rising_error canonical_code message space code (Some (details.DigestListAck m)) = refl
rising_error canonical_code message space code (Some (details.Other m)) = refl

pub stream_error_back : IsReadBack stream_error_of stream_error_rows StreamErrorInRange itself
unfolding stream_error_of stream_error_rows StreamErrorInRange
stream_error_back m fits short =
    let rows = stream_error_rows m in
    let up = rising_error m.canonical_code m.message m.space m.code m.details in
    let whole = rows_can_be_written rows up fits.0 short in
    read_from stream_error_of rows m up fits.0 short
    (rw (
      int32_back 1 rows m.canonical_code up refl fits.0.0,
      text_back 2 rows m.message up refl fits.0.1.0,
      text_back 3 rows m.space up refl fits.0.1.1.0,
      int32_back 4 rows m.code up refl fits.0.1.1.1.0,
      details_says m.canonical_code m.message m.space m.code m.details fits.1 whole,
    ) refl)

-- ---- what a controller is told

stream_says : (m : StreamMessageResponse) → StreamInRange m → All CanBeWritten (written (stream_rows m)) → stream_response_of (fields_by stream_rows m) ≡ Some (stream_counted m)
unfolding stream_response_of stream_response_by stream_rows StreamInRange
stream_says (responses.Arbitration m) fits whole =
    let rows = stream_rows (responses.Arbitration m) in
    rw (choice_back (1 ∷ 2 ∷ 3 ∷ 4 ∷ 5 ∷ 6 ∷ []) rows refl, member_back arbitration_of 1 rows arbitration_rows ArbitrationInRange arbitration_counted m refl refl whole fits arbitration_back) refl
stream_says (responses.Packet m) fits whole =
    let rows = stream_rows (responses.Packet m) in
    rw (choice_back (1 ∷ 2 ∷ 3 ∷ 4 ∷ 5 ∷ 6 ∷ []) rows refl, member_back packet_in_of 2 rows packet_in_rows PacketInInRange itself m refl refl whole fits packet_in_back) refl
stream_says (responses.Digest m) fits whole =
    let rows = stream_rows (responses.Digest m) in
    rw (choice_back (1 ∷ 2 ∷ 3 ∷ 4 ∷ 5 ∷ 6 ∷ []) rows refl, member_back digest_list_of 3 rows digest_list_rows DigestListInRange itself m refl refl whole fits digest_list_back) refl
stream_says (responses.IdleTimeoutNotification m) fits whole =
    let rows = stream_rows (responses.IdleTimeoutNotification m) in
    rw (choice_back (1 ∷ 2 ∷ 3 ∷ 4 ∷ 5 ∷ 6 ∷ []) rows refl, member_back idle_timeout_of 4 rows idle_timeout_rows IdleTimeoutInRange idle_timeout_counted m refl refl whole fits idle_timeout_back) refl
stream_says (responses.Other m) fits whole =
    let rows = stream_rows (responses.Other m) in
    rw (choice_back (1 ∷ 2 ∷ 3 ∷ 4 ∷ 5 ∷ 6 ∷ []) rows refl, member_back any_of 5 rows any_rows AnyInRange itself m refl refl whole fits any_back) refl
stream_says (responses.Error m) fits whole =
    let rows = stream_rows (responses.Error m) in
    rw (choice_back (1 ∷ 2 ∷ 3 ∷ 4 ∷ 5 ∷ 6 ∷ []) rows refl, member_back stream_error_of 6 rows stream_error_rows StreamErrorInRange itself m refl refl whole fits stream_error_back) refl

rising_stream : (m : StreamMessageResponse) → IsTrue (rising (stream_rows m))
unfolding stream_rows
rising_stream (responses.Arbitration m) = refl
rising_stream (responses.Packet m) = refl
rising_stream (responses.Digest m) = refl
rising_stream (responses.IdleTimeoutNotification m) = refl
rising_stream (responses.Other m) = refl
rising_stream (responses.Error m) = refl

stream_in_range : (m : StreamMessageResponse) → RowsInRange (stream_rows m)
unfolding stream_rows
stream_in_range (responses.Arbitration m) = (tt, tt)
stream_in_range (responses.Packet m) = (tt, tt)
stream_in_range (responses.Digest m) = (tt, tt)
stream_in_range (responses.IdleTimeoutNotification m) = (tt, tt)
stream_in_range (responses.Other m) = (tt, tt)
stream_in_range (responses.Error m) = (tt, tt)

pub stream_back : IsReadBack stream_response_of stream_rows StreamInRange stream_counted
stream_back m fits short =
    let up = rising_stream m in
    let in_range = stream_in_range m in
    let whole = rows_can_be_written (stream_rows m) up in_range short in
    read_from stream_response_of (stream_rows m) (stream_counted m) up in_range short (stream_says m fits whole)
