-- The worked messages, computed.
use Rattle.std.proofs.Common.{refl}
use Rattle.canon_bytes.specs.Base128.{base_128}
use Rattle.wire_messages.specs.Written.{written}
use Rattle.p4v1_wire.specs.EntityRows.{field_match_rows, kind_rows, kind_choice_rows}
use Rattle.p4v1_wire.specs.ResponseRows.{config_rows, cookie_rows, get_response_rows, capabilities_response_rows}
use Rattle.p4v1_wire.specs.StatusRows.{any_rows, error_rows, status_rows}
use Rattle.p4v1_wire.specs.StreamRows.{uint128_rows, arbitration_rows, packet_out_rows, p4data_rows, details_choice_rows, stream_error_rows, stream_rows}
use Rattle.p4v1_wire.specs.Worked.{WorkedMessages}

pub worked_messages : WorkedMessages
unfolding base_128 written field_match_rows kind_rows kind_choice_rows config_rows cookie_rows get_response_rows capabilities_response_rows any_rows error_rows status_rows uint128_rows arbitration_rows packet_out_rows p4data_rows details_choice_rows stream_error_rows stream_rows
worked_messages = record { error = refl; status = refl; primary = refl; other = refl; refused_packet = refl; config = refl; capabilities = refl; digest = refl; match_field = refl }
