-- The bridge's P4Info, spelled.
use Rattle.std.proofs.Common.{◌≡◌, refl}
use Rattle.p4v1_wire.specs.InfoRows.{preamble_rows, match_field_rows, action_ref_rows, table_rows, param_rows, action_rows, info_rows}
use Rattle.canon_bytes.specs.Base128.{base_128}
use Rattle.wire_messages.specs.Written.{written, row_bytes}
use Rattle.plane_spec.specs.Bridge.{bridge_info, bridge_bytes}
use Rattle.bridge_program.specs.Spelled.{BridgeIsSpelled}

pub is_spelled : BridgeIsSpelled
unfolding preamble_rows match_field_rows action_ref_rows table_rows param_rows action_rows info_rows base_128 written row_bytes bridge_info bridge_bytes
is_spelled = refl
