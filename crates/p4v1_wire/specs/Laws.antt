-- What each message is read back as.
use Rattle.p4v1_read.specs.Entities.{table_entry_of, entity_of}
use Rattle.p4v1_read.specs.Requests.{config_of}
use Rattle.p4v1_read.specs.Stream.{any_of, status_of, arbitration_of, packet_out_of, digest_ack_of}
use Rattle.p4v1_wire.specs.ServerMessages.{error_of, packet_in_of, digest_list_of, idle_timeout_of, stream_error_of, stream_response_of, read_response_of, get_response_of, capabilities_response_of}
use Rattle.p4v1_wire.specs.StatusRows.{any_rows, AnyInRange, status_rows, StatusInRange, error_rows, ErrorInRange}
use Rattle.p4v1_wire.specs.EntityRows.{table_entry_rows, TableEntryInRange, entity_rows, EntityInRange}
use Rattle.p4v1_wire.specs.StreamRows.{arbitration_rows, ArbitrationInRange, packet_in_rows, PacketInInRange, packet_out_rows, PacketOutInRange, digest_ack_rows, DigestAckInRange, idle_timeout_rows, IdleTimeoutInRange, digest_list_rows, DigestListInRange, stream_error_rows, StreamErrorInRange, stream_rows, StreamInRange}
use Rattle.p4v1_wire.specs.ResponseRows.{read_response_rows, ReadResponseInRange, config_rows, ConfigInRange, get_response_rows, GetResponseInRange, capabilities_response_rows, CapabilitiesResponseInRange}
use Rattle.p4v1_read.specs.P4Infos.{p4info_of}
use Rattle.p4v1_wire.specs.InfoRows.{info_rows}
use Rattle.p4v1_wire.specs.InfoMessages.{message_of, InfoFits}
use Rattle.p4v1_wire.specs.ReadBack.{IsReadBack, itself}
use Rattle.p4v1_wire.specs.Counted.{table_entry_counted, entity_counted, arbitration_counted, idle_timeout_counted, stream_counted, read_response_counted, config_counted, get_response_counted}

-- a google.protobuf.Any is read back as itself
abbrev pub AnyIsReadBack : Type 0
AnyIsReadBack = IsReadBack any_of any_rows AnyInRange itself

-- a google.rpc.Status is read back as itself
abbrev pub StatusIsReadBack : Type 0
StatusIsReadBack = IsReadBack status_of status_rows StatusInRange itself

-- a p4.v1.Error is read back as itself
abbrev pub ErrorIsReadBack : Type 0
ErrorIsReadBack = IsReadBack error_of error_rows ErrorInRange itself

-- a TableEntry is read back as what it counts as
abbrev pub TableEntryIsReadBack : Type 0
TableEntryIsReadBack = IsReadBack table_entry_of table_entry_rows TableEntryInRange table_entry_counted

-- an Entity is read back as what it counts as: one that is not served, as a choice without a member
abbrev pub EntityIsReadBack : Type 0
EntityIsReadBack = IsReadBack entity_of entity_rows EntityInRange entity_counted

-- a MasterArbitrationUpdate is read back as what it counts as
abbrev pub ArbitrationIsReadBack : Type 0
ArbitrationIsReadBack = IsReadBack arbitration_of arbitration_rows ArbitrationInRange arbitration_counted

-- a PacketIn is read back as itself
abbrev pub PacketInIsReadBack : Type 0
PacketInIsReadBack = IsReadBack packet_in_of packet_in_rows PacketInInRange itself

-- a PacketOut is read back as itself
abbrev pub PacketOutIsReadBack : Type 0
PacketOutIsReadBack = IsReadBack packet_out_of packet_out_rows PacketOutInRange itself

-- a DigestListAck is read back as itself
abbrev pub DigestAckIsReadBack : Type 0
DigestAckIsReadBack = IsReadBack digest_ack_of digest_ack_rows DigestAckInRange itself

-- an IdleTimeoutNotification is read back as what it counts as
abbrev pub IdleTimeoutIsReadBack : Type 0
IdleTimeoutIsReadBack = IsReadBack idle_timeout_of idle_timeout_rows IdleTimeoutInRange idle_timeout_counted

-- a ReadResponse is read back as what its entities count as
abbrev pub ReadResponseIsReadBack : Type 0
ReadResponseIsReadBack = IsReadBack read_response_of read_response_rows ReadResponseInRange read_response_counted

-- a ForwardingPipelineConfig is read back as what it counts as
abbrev pub ConfigIsReadBack : Type 0
ConfigIsReadBack = IsReadBack config_of config_rows ConfigInRange config_counted

-- a GetForwardingPipelineConfigResponse is read back as what it counts as
abbrev pub GetResponseIsReadBack : Type 0
GetResponseIsReadBack = IsReadBack get_response_of get_response_rows GetResponseInRange get_response_counted

-- a CapabilitiesResponse is read back as itself
abbrev pub CapabilitiesResponseIsReadBack : Type 0
CapabilitiesResponseIsReadBack = IsReadBack capabilities_response_of capabilities_response_rows CapabilitiesResponseInRange itself

-- the objects of a program are read back as the P4Info message that they stand for
abbrev pub InfoIsReadBack : Type 0
InfoIsReadBack = IsReadBack p4info_of info_rows InfoFits message_of

-- a DigestList is read back as itself
abbrev pub DigestListIsReadBack : Type 0
DigestListIsReadBack = IsReadBack digest_list_of digest_list_rows DigestListInRange itself

-- a StreamError is read back as itself
abbrev pub StreamErrorIsReadBack : Type 0
StreamErrorIsReadBack = IsReadBack stream_error_of stream_error_rows StreamErrorInRange itself

-- a StreamMessageResponse is read back as what it counts as
abbrev pub StreamResponseIsReadBack : Type 0
StreamResponseIsReadBack = IsReadBack stream_response_of stream_rows StreamInRange stream_counted
