-- The message of a P4Info that the objects of a program stand for.
use Rattle.std.specs.Prelude.{pos, ◌^◌, ◌<◌, All, [], map, Some, unwrap_or}
use Rattle.p4_types.specs.declared.p4info as messages
use Rattle.p4_types.specs.declared.info.Action.{Action}
use Rattle.p4_types.specs.declared.info.ActionProfile.{ActionProfile}
use Rattle.p4_types.specs.declared.info.ActionRef.{ActionRef}
use Rattle.p4_types.specs.declared.info.ControllerHeader.{ControllerHeader}
use Rattle.p4_types.specs.declared.info.Counter.{Counter}
use Rattle.p4_types.specs.declared.info.Digest.{Digest}
use Rattle.p4_types.specs.declared.info.DirectCounter.{DirectCounter}
use Rattle.p4_types.specs.declared.info.HeaderField.{HeaderField}
use Rattle.p4_types.specs.declared.info.Info.{Info}
use Rattle.p4_types.specs.declared.info.MatchField.{MatchField}
use Rattle.p4_types.specs.declared.info.Param.{Param}
use Rattle.p4_types.specs.declared.info.Table.{Table}
use Rattle.wire_messages.specs.Written.{Carried, payloads, sent}
use Rattle.p4v1_wire.specs.InfoRows.{kind_number, scope_number, preamble_rows, counter_spec_rows, InfoInRange}
use Rattle.p4v1_wire.specs.ReadBack.{counted, itself}

-- a preamble that is not given
abbrev pub no_preamble : messages.Preamble.Preamble
no_preamble = record { id = 0; name = []; alias = []; annotations = [] }

-- the kind of a counter that is not given
abbrev pub no_spec : messages.CounterSpec.CounterSpec
no_spec = record { unit = pos 0 }

-- the MatchField of a field of a table's key
abbrev pub match_field_message : MatchField → messages.MatchField.MatchField
match_field_message m = record { id = m.id; name = m.name; bitwidth = pos m.bitwidth; match_type = pos (kind_number m.kind) }

-- the ActionRef of an action that a table may run
abbrev pub action_ref_message : ActionRef → messages.ActionRef.ActionRef
action_ref_message m = record { id = m.id; scope = pos (scope_number m.scope) }

-- the Table of a table, in which id 0 stands for no const default action and for no action profile
abbrev pub table_message : Table → messages.Table.Table
table_message m = record {
  preamble = counted preamble_rows itself (Some m.preamble);
  match_fields = map match_field_message m.match_fields;
  action_refs = map action_ref_message m.action_refs;
  const_default_action_id = unwrap_or m.const_default_action 0;
  implementation_id = unwrap_or m.action_profile 0;
  direct_resource_ids = m.direct_counters;
  size = pos m.size;
  idle_timeout_behavior = m.idle_timeout_behavior;
  is_const_table = m.is_const_table;
}

-- the Action.Param of a parameter
abbrev pub param_message : Param → messages.Param.Param
param_message m = record { id = m.id; name = m.name; bitwidth = pos m.bitwidth }

-- the Action of an action
abbrev pub action_message : Action → messages.Action.Action
action_message m = record { preamble = counted preamble_rows itself (Some m.preamble); params = map param_message m.params }

-- the ActionProfile of an action profile
abbrev pub action_profile_message : ActionProfile → messages.ActionProfile.ActionProfile
action_profile_message m = record { preamble = counted preamble_rows itself (Some m.preamble); table_ids = m.table_ids; with_selector = m.with_selector; size = pos m.size; max_group_size = pos m.max_group_size }

-- the Counter of an indirect counter; its spec is not given where the unit is 0
abbrev pub counter_message : Counter → messages.Counter.Counter
counter_message m = record { preamble = counted preamble_rows itself (Some m.preamble); spec = counted counter_spec_rows itself (Some (record { unit = m.unit })); size = pos m.size }

-- the DirectCounter of a direct counter; its spec is not given where the unit is 0
abbrev pub direct_counter_message : DirectCounter → messages.DirectCounter.DirectCounter
direct_counter_message m = record { preamble = counted preamble_rows itself (Some m.preamble); spec = counted counter_spec_rows itself (Some (record { unit = m.unit })); direct_table_id = m.table }

-- the ControllerPacketMetadata.Metadata of a field of a header for a controller
abbrev pub header_field_message : HeaderField → messages.Metadata.Metadata
header_field_message m = record { id = m.id; name = m.name; bitwidth = pos m.bitwidth }

-- the ControllerPacketMetadata of a header for a controller
abbrev pub controller_header_message : ControllerHeader → messages.ControllerPacketMetadata.ControllerPacketMetadata
controller_header_message m = record { preamble = counted preamble_rows itself (Some m.preamble); metadata = map header_field_message m.fields }

-- the Digest of a digest; its type is not given where it has no bytes
abbrev pub digest_message : Digest → messages.Digest.Digest
digest_message m = record { preamble = counted preamble_rows itself (Some m.preamble); type_spec = sent (payloads (Carried m.type_spec)) }

-- the message of a P4Info
abbrev pub message_of : Info → messages.P4Info.P4Info
message_of m = record {
  tables = map table_message m.tables;
  actions = map action_message m.actions;
  action_profiles = map action_profile_message m.action_profiles;
  counters = map counter_message m.counters;
  direct_counters = map direct_counter_message m.direct_counters;
  controller_packet_metadata = map controller_header_message m.controller_packet_metadata;
  digests = map digest_message m.digests;
}

-- widths are numbers of an int32, sizes of an int64
abbrev pub TableNumbersFit : Table → Type 0
TableNumbersFit m = (m.size < 2 ^ 63) × All (λ field. field.bitwidth < 2 ^ 31) m.match_fields

-- the widths of an action's parameters are numbers of an int32
abbrev pub ActionNumbersFit : Action → Type 0
ActionNumbersFit m = All (λ param. param.bitwidth < 2 ^ 31) m.params

-- the size of an action profile is a number of an int64, the limit of its groups one of an int32
abbrev pub ProfileNumbersFit : ActionProfile → Type 0
ProfileNumbersFit m = (m.size < 2 ^ 63) × (m.max_group_size < 2 ^ 31)

-- the size of a counter is a number of an int64
abbrev pub CounterNumbersFit : Counter → Type 0
CounterNumbersFit m = m.size < 2 ^ 63

-- the widths of a header's fields are numbers of an int32
abbrev pub HeaderNumbersFit : ControllerHeader → Type 0
HeaderNumbersFit m = All (λ field. field.bitwidth < 2 ^ 31) m.fields

-- The numbers of a P4Info are in the ranges of their types, and its texts are UTF-8.
pub record InfoFits (info : Info) : Type 0 where
  pub in_range : InfoInRange info
  pub tables : All TableNumbersFit info.tables
  pub actions : All ActionNumbersFit info.actions
  pub action_profiles : All ProfileNumbersFit info.action_profiles
  pub counters : All CounterNumbersFit info.counters
  pub controller_headers : All HeaderNumbersFit info.controller_packet_metadata
