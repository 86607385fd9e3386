-- Rows of a P4Info (p4.config.v1), a line for each field.
use Rattle.std.specs.Prelude.{List, [], ◌∷◌, ℕ, Some, All, unwrap_or, map}
use Rattle.p4_types.specs.declared.info.Action.{Action}
use Rattle.p4_types.specs.declared.info.ActionProfile.{ActionProfile}
use Rattle.p4_types.specs.declared.info.ActionRef.{ActionRef}
use Rattle.p4_types.specs.declared.info.ControllerHeader.{ControllerHeader}
use Rattle.p4_types.specs.declared.info.Counter.{Counter}
use Rattle.p4_types.specs.declared.info.Digest.{Digest}
use Rattle.p4_types.specs.declared.info.DirectCounter.{DirectCounter}
use Rattle.p4_types.specs.declared.info.HeaderField.{HeaderField}
use Rattle.p4_types.specs.declared.info.Info.{Info}
use Rattle.p4_types.specs.declared.info.MatchField.{MatchField}
use Rattle.p4_types.specs.declared.info.MatchKind.{MatchKind}
use Rattle.p4_types.specs.declared.info.Param.{Param}
use Rattle.p4_types.specs.declared.info.Scope.{Scope}
use Rattle.p4_types.specs.declared.info.Table.{Table}
use Rattle.p4_types.specs.declared.p4info.CounterSpec.{CounterSpec}
use Rattle.p4_types.specs.declared.p4info.Preamble.{Preamble}
use Rattle.p4_types.specs.declared.info.MatchKind.TheVariants as kinds
use Rattle.p4_types.specs.declared.info.Scope.TheVariants as scopes
use Rattle.wire_messages.specs.Written.{Uint32, Uint64, Int32, Flag, Text, Texts, Packed, Message, Messages, Carried, Row, row, RowsInRange}
use Rattle.p4v1_wire.specs.Rows.{fields_by}

-- Preamble
unfoldable pub preamble_rows : Preamble → List Row
preamble_rows m =
    row 1 (Uint32 m.id) ∷
    row 2 (Text m.name) ∷
    row 3 (Text m.alias) ∷
    row 4 (Texts m.annotations) ∷
    []

-- its numbers and texts are in the ranges of their types
unfoldable pub PreambleInRange : Preamble → Type 0
PreambleInRange m = RowsInRange (preamble_rows m)

-- the number of a match kind
abbrev pub kind_number : MatchKind → ℕ
kind_number kinds.Exact = 2
kind_number kinds.Lpm = 3
kind_number kinds.Ternary = 4
kind_number kinds.Range = 5
kind_number kinds.Optional = 6

-- the number of a scope
abbrev pub scope_number : Scope → ℕ
scope_number scopes.TableAndDefault = 0
scope_number scopes.TableOnly = 1
scope_number scopes.DefaultOnly = 2

-- MatchField
unfoldable pub match_field_rows : MatchField → List Row
match_field_rows m =
    row 1 (Uint32 m.id) ∷
    row 2 (Text m.name) ∷
    row 4 (Uint32 m.bitwidth) ∷
    row 5 (Uint32 (kind_number m.kind)) ∷
    []

-- its numbers and texts are in the ranges of their types
unfoldable pub MatchFieldInRange : MatchField → Type 0
MatchFieldInRange m = RowsInRange (match_field_rows m)

-- ActionRef
unfoldable pub action_ref_rows : ActionRef → List Row
action_ref_rows m =
    row 1 (Uint32 m.id) ∷
    row 3 (Uint32 (scope_number m.scope)) ∷
    []

-- its numbers and texts are in the ranges of their types
unfoldable pub ActionRefInRange : ActionRef → Type 0
ActionRefInRange m = RowsInRange (action_ref_rows m)

-- Table
unfoldable pub table_rows : Table → List Row
table_rows m =
    row 1 (Message (Some (fields_by preamble_rows m.preamble))) ∷
    row 2 (Messages (map (fields_by match_field_rows) m.match_fields)) ∷
    row 3 (Messages (map (fields_by action_ref_rows) m.action_refs)) ∷
    row 4 (Uint32 (unwrap_or m.const_default_action 0)) ∷
    row 6 (Uint32 (unwrap_or m.action_profile 0)) ∷
    row 7 (Packed m.direct_counters) ∷
    row 8 (Uint64 m.size) ∷
    row 9 (Int32 m.idle_timeout_behavior) ∷
    row 10 (Flag m.is_const_table) ∷
    []

-- its numbers and texts are in the ranges of their types
unfoldable pub TableInRange : Table → Type 0
TableInRange m = RowsInRange (table_rows m) × PreambleInRange m.preamble × All MatchFieldInRange m.match_fields × All ActionRefInRange m.action_refs

-- Action.Param
unfoldable pub param_rows : Param → List Row
param_rows m =
    row 1 (Uint32 m.id) ∷
    row 2 (Text m.name) ∷
    row 4 (Uint32 m.bitwidth) ∷
    []

-- its numbers and texts are in the ranges of their types
unfoldable pub ParamInRange : Param → Type 0
ParamInRange m = RowsInRange (param_rows m)

-- Action
unfoldable pub action_rows : Action → List Row
action_rows m =
    row 1 (Message (Some (fields_by preamble_rows m.preamble))) ∷
    row 2 (Messages (map (fields_by param_rows) m.params)) ∷
    []

-- its numbers and texts are in the ranges of their types
unfoldable pub ActionInRange : Action → Type 0
ActionInRange m = RowsInRange (action_rows m) × PreambleInRange m.preamble × All ParamInRange m.params

-- ActionProfile
unfoldable pub action_profile_rows : ActionProfile → List Row
action_profile_rows m =
    row 1 (Message (Some (fields_by preamble_rows m.preamble))) ∷
    row 2 (Packed m.table_ids) ∷
    row 3 (Flag m.with_selector) ∷
    row 4 (Uint64 m.size) ∷
    row 5 (Uint32 m.max_group_size) ∷
    []

-- its numbers and texts are in the ranges of their types
unfoldable pub ActionProfileInRange : ActionProfile → Type 0
ActionProfileInRange m = RowsInRange (action_profile_rows m) × PreambleInRange m.preamble

-- CounterSpec
unfoldable pub counter_spec_rows : CounterSpec → List Row
counter_spec_rows m =
    row 1 (Int32 m.unit) ∷
    []

-- its numbers and texts are in the ranges of their types
unfoldable pub CounterSpecInRange : CounterSpec → Type 0
CounterSpecInRange m = RowsInRange (counter_spec_rows m)

-- Counter
unfoldable pub counter_rows : Counter → List Row
counter_rows m =
    row 1 (Message (Some (fields_by preamble_rows m.preamble))) ∷
    row 2 (Message (Some (fields_by counter_spec_rows (record { unit = m.unit })))) ∷
    row 3 (Uint64 m.size) ∷
    []

-- its numbers and texts are in the ranges of their types
unfoldable pub CounterInRange : Counter → Type 0
CounterInRange m = RowsInRange (counter_rows m) × PreambleInRange m.preamble × CounterSpecInRange (record { unit = m.unit })

-- DirectCounter
unfoldable pub direct_counter_rows : DirectCounter → List Row
direct_counter_rows m =
    row 1 (Message (Some (fields_by preamble_rows m.preamble))) ∷
    row 2 (Message (Some (fields_by counter_spec_rows (record { unit = m.unit })))) ∷
    row 3 (Uint32 m.table) ∷
    []

-- its numbers and texts are in the ranges of their types
unfoldable pub DirectCounterInRange : DirectCounter → Type 0
DirectCounterInRange m = RowsInRange (direct_counter_rows m) × PreambleInRange m.preamble × CounterSpecInRange (record { unit = m.unit })

-- ControllerPacketMetadata.Metadata
unfoldable pub header_field_rows : HeaderField → List Row
header_field_rows m =
    row 1 (Uint32 m.id) ∷
    row 2 (Text m.name) ∷
    row 4 (Uint32 m.bitwidth) ∷
    []

-- its numbers and texts are in the ranges of their types
unfoldable pub HeaderFieldInRange : HeaderField → Type 0
HeaderFieldInRange m = RowsInRange (header_field_rows m)

-- ControllerPacketMetadata
unfoldable pub controller_header_rows : ControllerHeader → List Row
controller_header_rows m =
    row 1 (Message (Some (fields_by preamble_rows m.preamble))) ∷
    row 2 (Messages (map (fields_by header_field_rows) m.fields)) ∷
    []

-- its numbers and texts are in the ranges of their types
unfoldable pub ControllerHeaderInRange : ControllerHeader → Type 0
ControllerHeaderInRange m = RowsInRange (controller_header_rows m) × PreambleInRange m.preamble × All HeaderFieldInRange m.fields

-- Digest. The inside of its type is carried.
unfoldable pub digest_rows : Digest → List Row
digest_rows m =
    row 1 (Message (Some (fields_by preamble_rows m.preamble))) ∷
    row 2 (Carried m.type_spec) ∷
    []

-- its numbers and texts are in the ranges of their types
unfoldable pub DigestInRange : Digest → Type 0
DigestInRange m = RowsInRange (digest_rows m) × PreambleInRange m.preamble

-- P4Info
unfoldable pub info_rows : Info → List Row
info_rows m =
    row 2 (Messages (map (fields_by table_rows) m.tables)) ∷
    row 3 (Messages (map (fields_by action_rows) m.actions)) ∷
    row 4 (Messages (map (fields_by action_profile_rows) m.action_profiles)) ∷
    row 5 (Messages (map (fields_by counter_rows) m.counters)) ∷
    row 6 (Messages (map (fields_by direct_counter_rows) m.direct_counters)) ∷
    row 9 (Messages (map (fields_by controller_header_rows) m.controller_packet_metadata)) ∷
    row 12 (Messages (map (fields_by digest_rows) m.digests)) ∷
    []

-- its numbers and texts are in the ranges of their types
unfoldable pub InfoInRange : Info → Type 0
InfoInRange m = RowsInRange (info_rows m) × All TableInRange m.tables × All ActionInRange m.actions × All ActionProfileInRange m.action_profiles × All CounterInRange m.counters × All DirectCounterInRange m.direct_counters × All ControllerHeaderInRange m.controller_packet_metadata × All DigestInRange m.digests
