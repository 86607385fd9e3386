-- The bridge's P4Info as bytes (p4.config.v1).
use Rattle.std.specs.Prelude.{◌≡◌, ℕ, List}
use Rattle.p4_types.specs.declared.info.Info.{Info}
use Rattle.p4v1_wire.specs.InfoRows.{info_rows}
use Rattle.p4v1_wire.specs.Rows.{fields_by}
use Rattle.wire_fields.specs.Spelling.{spelling}
use Rattle.plane_spec.specs.Bridge.{bridge_info, bridge_bytes}

-- the canonical bytes of objects
abbrev pub canonical_info : Info → List ℕ
canonical_info info = spelling (fields_by info_rows info)

-- those of the bridge
abbrev pub BridgeIsSpelled : Type 0
BridgeIsSpelled = canonical_info bridge_info ≡ bridge_bytes
