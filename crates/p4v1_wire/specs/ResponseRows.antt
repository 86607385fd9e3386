-- Rows of responses, a line for each field.
use Rattle.std.specs.Prelude.{List, [], ◌∷◌, All, IfSome, map}
use Rattle.std.specs.Option.{option_map}
use Rattle.p4_types.specs.declared.messages.CapabilitiesResponse.{CapabilitiesResponse}
use Rattle.p4_types.specs.declared.messages.Cookie.{Cookie}
use Rattle.p4_types.specs.declared.messages.ForwardingPipelineConfig.{ForwardingPipelineConfig}
use Rattle.p4_types.specs.declared.messages.GetForwardingPipelineConfigResponse.{GetForwardingPipelineConfigResponse}
use Rattle.p4_types.specs.declared.messages.ReadResponse.{ReadResponse}
use Rattle.wire_messages.specs.Written.{Uint64, ByteString, Text, Message, Present, Messages, Carried, Row, row, RowsInRange}
use Rattle.p4v1_wire.specs.Rows.{fields_by}
use Rattle.p4v1_wire.specs.EntityRows.{entity_rows, EntityInRange}

-- ReadResponse
unfoldable pub read_response_rows : ReadResponse → List Row
read_response_rows m =
    row 1 (Messages (map (fields_by entity_rows) m.entities)) ∷
    []

-- its numbers and texts are in the ranges of their types
unfoldable pub ReadResponseInRange : ReadResponse → Type 0
ReadResponseInRange m = RowsInRange (read_response_rows m) × All EntityInRange m.entities

-- ForwardingPipelineConfig.Cookie
unfoldable pub cookie_rows : Cookie → List Row
cookie_rows m =
    row 1 (Uint64 m.cookie) ∷
    []

-- its numbers and texts are in the ranges of their types
unfoldable pub CookieInRange : Cookie → Type 0
CookieInRange m = RowsInRange (cookie_rows m)

-- ForwardingPipelineConfig
unfoldable pub config_rows : ForwardingPipelineConfig → List Row
config_rows m =
    row 1 (Carried m.p4info) ∷
    row 2 (ByteString m.p4_device_config) ∷
    row 3 (Message (option_map (fields_by cookie_rows) m.cookie)) ∷
    []

-- its numbers and texts are in the ranges of their types
unfoldable pub ConfigInRange : ForwardingPipelineConfig → Type 0
ConfigInRange m = RowsInRange (config_rows m) × IfSome m.cookie CookieInRange

-- GetForwardingPipelineConfigResponse. Its configuration is present where it is given.
unfoldable pub get_response_rows : GetForwardingPipelineConfigResponse → List Row
get_response_rows m =
    row 1 (Present (option_map (fields_by config_rows) m.config)) ∷
    []

-- its numbers and texts are in the ranges of their types
unfoldable pub GetResponseInRange : GetForwardingPipelineConfigResponse → Type 0
GetResponseInRange m = RowsInRange (get_response_rows m) × IfSome m.config ConfigInRange

-- CapabilitiesResponse
unfoldable pub capabilities_response_rows : CapabilitiesResponse → List Row
capabilities_response_rows m =
    row 1 (Text m.p4runtime_api_version) ∷
    []

-- its numbers and texts are in the ranges of their types
unfoldable pub CapabilitiesResponseInRange : CapabilitiesResponse → Type 0
CapabilitiesResponseInRange m = RowsInRange (capabilities_response_rows m)
