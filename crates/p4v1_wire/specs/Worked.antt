-- Worked messages: their canonical bytes, in base 16 and from left to right.
use Rattle.std.specs.Prelude.{◌≡◌, ℕ, pos, codes, List, [], ◌∷◌, Some, None}
use Rattle.p4_types.specs.declared.messages.CapabilitiesResponse.{CapabilitiesResponse}
use Rattle.p4_types.specs.declared.messages.Error.{Error}
use Rattle.p4_types.specs.declared.messages.FieldMatch.{FieldMatch}
use Rattle.p4_types.specs.declared.messages.FieldMatchKind.TheVariants as kinds
use Rattle.p4_types.specs.declared.messages.GetForwardingPipelineConfigResponse.{GetForwardingPipelineConfigResponse}
use Rattle.p4_types.specs.declared.messages.P4Data.{P4Data}
use Rattle.p4_types.specs.declared.messages.P4Data.TheVariants as data_kinds
use Rattle.p4_types.specs.declared.messages.Status.{Status}
use Rattle.p4_types.specs.declared.messages.StreamErrorDetails.TheVariants as details
use Rattle.p4_types.specs.declared.messages.StreamMessageResponse.{StreamMessageResponse}
use Rattle.p4_types.specs.declared.messages.StreamMessageResponse.TheVariants as responses
use Rattle.wire_fields.specs.Spelling.{spelling}
use Rattle.p4v1_wire.specs.EntityRows.{field_match_rows}
use Rattle.p4v1_wire.specs.ResponseRows.{get_response_rows, capabilities_response_rows}
use Rattle.p4v1_wire.specs.StatusRows.{error_rows, status_rows}
use Rattle.p4v1_wire.specs.StreamRows.{p4data_rows, stream_rows}
use Rattle.p4v1_wire.specs.Rows.{fields_by}

-- the Error of an INSERT of an entry that is there already, and the Status of its Write
abbrev pub already_there : Error
already_there = record { canonical_code = pos 6; message = []; space = codes "p4switch"; code = pos 10; details = [] }

-- the canonical bytes of that Error
abbrev pub already_there_bytes : List ℕ
already_there_bytes = 0x08 ∷ 0x06 ∷ 0x1a ∷ 0x08 ∷ 0x70 ∷ 0x34 ∷ 0x73 ∷ 0x77 ∷ 0x69 ∷ 0x74 ∷ 0x63 ∷ 0x68 ∷ 0x20 ∷ 0x0a ∷ []

-- the Status of that Write: UNKNOWN, with the Error as its one detail
abbrev pub refused_write : Status
refused_write = record { code = pos 2; message = []; details = record { type_url = codes "type.googleapis.com/p4.v1.Error"; value = already_there_bytes } ∷ [] }

-- the canonical bytes of that Status
abbrev pub refused_write_bytes : List ℕ
refused_write_bytes =
    0x08 ∷ 0x02 ∷ 0x1a ∷ 0x31 ∷ 0x0a ∷ 0x1f ∷ 0x74 ∷ 0x79 ∷ 0x70 ∷ 0x65 ∷ 0x2e ∷ 0x67 ∷ 0x6f ∷ 0x6f ∷ 0x67 ∷ 0x6c ∷ 0x65 ∷ 0x61 ∷ 0x70 ∷ 0x69 ∷ 0x73 ∷ 0x2e ∷ 0x63 ∷ 0x6f ∷ 0x6d ∷ 0x2f ∷ 0x70 ∷ 0x34 ∷ 0x2e ∷ 0x76 ∷ 0x31 ∷ 0x2e ∷ 0x45 ∷ 0x72 ∷ 0x72 ∷ 0x6f ∷ 0x72 ∷ 0x12 ∷ 0x0e ∷ already_there_bytes

-- a notice to the controller that became primary, and to one that is not
abbrev pub notice : ℕ → StreamMessageResponse
notice code = responses.Arbitration (record { device_id = 1; role = None; election_id = record { high = 0; low = 5 }; status = Some (record { code = pos code; message = []; details = [] }) })

-- a packet of a controller that may not send
abbrev pub packet_refused : StreamMessageResponse
packet_refused = responses.Error (record { canonical_code = pos 7; message = []; space = codes "p4switch"; code = pos 1; details = Some (details.PacketOut (record { payload = 0xaa ∷ []; metadata = [] })) })

-- the cookie of a configuration
abbrev pub cookie_only : GetForwardingPipelineConfigResponse
cookie_only = record { config = Some (record { p4info = None; p4_device_config = []; cookie = Some (record { cookie = 7 }) }) }

-- the answer to Capabilities: version 1.3.0 of P4Runtime
abbrev pub version : CapabilitiesResponse
version = record { p4runtime_api_version = codes "1.3.0" }

-- a digest's sample of two fields
abbrev pub sample : P4Data
sample = data_kinds.Struct ((0xaa ∷ []) ∷ (0x05 ∷ []) ∷ [])

-- a ternary match of field 1: the value 0x63 under the mask 0xff
abbrev pub ternary_match : FieldMatch
ternary_match = record { field_id = 1; kind = Some (kinds.Ternary (0x63 ∷ []) (0xff ∷ [])) }

-- The canonical bytes of the worked messages, computed from the definitions.
pub record WorkedMessages : Type 0 where
  pub error : spelling (fields_by error_rows already_there) ≡ already_there_bytes
  pub status : spelling (fields_by status_rows refused_write) ≡ refused_write_bytes
  pub primary : spelling (fields_by stream_rows (notice 0)) ≡ 0x0a ∷ 0x08 ∷ 0x08 ∷ 0x01 ∷ 0x1a ∷ 0x02 ∷ 0x10 ∷ 0x05 ∷ 0x22 ∷ 0x00 ∷ []
  pub other : spelling (fields_by stream_rows (notice 6)) ≡ 0x0a ∷ 0x0a ∷ 0x08 ∷ 0x01 ∷ 0x1a ∷ 0x02 ∷ 0x10 ∷ 0x05 ∷ 0x22 ∷ 0x02 ∷ 0x08 ∷ 0x06 ∷ []
  pub refused_packet : spelling (fields_by stream_rows packet_refused)
      ≡ 0x32 ∷ 0x15 ∷ 0x08 ∷ 0x07 ∷ 0x1a ∷ 0x08 ∷ 0x70 ∷ 0x34 ∷ 0x73 ∷ 0x77 ∷ 0x69 ∷ 0x74 ∷ 0x63 ∷ 0x68 ∷ 0x20 ∷ 0x01 ∷ 0x2a ∷ 0x05 ∷ 0x0a ∷ 0x03 ∷ 0x0a ∷ 0x01 ∷ 0xaa ∷ []
  pub config : spelling (fields_by get_response_rows cookie_only) ≡ 0x0a ∷ 0x04 ∷ 0x1a ∷ 0x02 ∷ 0x08 ∷ 0x07 ∷ []
  pub capabilities : spelling (fields_by capabilities_response_rows version) ≡ 0x0a ∷ 0x05 ∷ 0x31 ∷ 0x2e ∷ 0x33 ∷ 0x2e ∷ 0x30 ∷ []
  pub digest : spelling (fields_by p4data_rows sample) ≡ 0x2a ∷ 0x0a ∷ 0x0a ∷ 0x03 ∷ 0x0a ∷ 0x01 ∷ 0xaa ∷ 0x0a ∷ 0x03 ∷ 0x0a ∷ 0x01 ∷ 0x05 ∷ []
  pub match_field : spelling (fields_by field_match_rows ternary_match) ≡ 0x08 ∷ 0x01 ∷ 0x1a ∷ 0x06 ∷ 0x0a ∷ 0x01 ∷ 0x63 ∷ 0x12 ∷ 0x01 ∷ 0xff ∷ []
