-- What a P4Info means: its objects with widths, kinds, scopes, sizes and references as types.
-- A number that stands for nothing, which no P4Info without a flaw has, counts as the first of its kind.
use Rattle.std.specs.Prelude.{ℕ, ℤ, pos, List, [], ◌∷◌, Option, Some, None, map, unwrap_or, option_map}
use Rattle.p4_types.specs.declared.p4info.Action as message_action
use Rattle.p4_types.specs.declared.p4info.ActionProfile as message_profile
use Rattle.p4_types.specs.declared.p4info.ActionRef as message_ref
use Rattle.p4_types.specs.declared.p4info.ControllerPacketMetadata as message_header
use Rattle.p4_types.specs.declared.p4info.Counter as message_counter
use Rattle.p4_types.specs.declared.p4info.CounterSpec as message_spec
use Rattle.p4_types.specs.declared.p4info.Digest as message_digest
use Rattle.p4_types.specs.declared.p4info.DirectCounter as message_direct
use Rattle.p4_types.specs.declared.p4info.MatchField as message_field
use Rattle.p4_types.specs.declared.p4info.Metadata as message_metadata
use Rattle.p4_types.specs.declared.p4info.P4Info as message_info
use Rattle.p4_types.specs.declared.p4info.Param as message_param
use Rattle.p4_types.specs.declared.p4info.Table as message_table
use Rattle.p4_types.specs.declared.info.Action.{Action}
use Rattle.p4_types.specs.declared.info.ActionProfile.{ActionProfile}
use Rattle.p4_types.specs.declared.info.ActionRef.{ActionRef}
use Rattle.p4_types.specs.declared.info.ControllerHeader.{ControllerHeader}
use Rattle.p4_types.specs.declared.info.Counter.{Counter}
use Rattle.p4_types.specs.declared.info.Digest.{Digest}
use Rattle.p4_types.specs.declared.info.DirectCounter.{DirectCounter}
use Rattle.p4_types.specs.declared.info.HeaderField.{HeaderField}
use Rattle.p4_types.specs.declared.info.Info.{Info}
use Rattle.p4_types.specs.declared.info.MatchField.{MatchField}
use Rattle.p4_types.specs.declared.info.MatchKind.TheVariants as kinds
use Rattle.p4_types.specs.declared.info.Param.{Param}
use Rattle.p4_types.specs.declared.info.Scope.TheVariants as scopes
use Rattle.p4_types.specs.declared.info.Table.{Table}
use Rattle.info_rules.specs.Numbers.{width_of, size_of, kind_of, scope_of, named}
use Rattle.info_rules.specs.Objects.{preamble_of}

-- a field of a table's key, with its width and its match kind
abbrev pub field_of : message_field.MatchField → MatchField
field_of f = record { id = f.id; name = f.name; bitwidth = unwrap_or (width_of f.bitwidth) 1; kind = unwrap_or (kind_of f.match_type) kinds.Exact }

-- an action that a table may run, with its scope
abbrev pub ref_of : message_ref.ActionRef → ActionRef
ref_of r = record { id = r.id; scope = unwrap_or (scope_of r.scope) scopes.TableAndDefault }

-- a table with its key and its actions; id 0 names no const default action and no action profile
abbrev pub table_of : message_table.Table → Table
table_of t = record {
  preamble = preamble_of t.preamble;
  match_fields = map field_of t.match_fields;
  action_refs = map ref_of t.action_refs;
  const_default_action = named t.const_default_action_id;
  action_profile = named t.implementation_id;
  direct_counters = t.direct_resource_ids;
  size = unwrap_or (size_of t.size) 0;
  idle_timeout_behavior = t.idle_timeout_behavior;
  is_const_table = t.is_const_table;
}

-- a parameter of an action, with its width
abbrev pub param_of : message_param.Param → Param
param_of p = record { id = p.id; name = p.name; bitwidth = unwrap_or (width_of p.bitwidth) 1 }

-- an action with its parameters
abbrev pub action_of : message_action.Action → Action
action_of a = record { preamble = preamble_of a.preamble; params = map param_of a.params }

-- an action profile, with its size and the limit of its groups
abbrev pub profile_of : message_profile.ActionProfile → ActionProfile
profile_of p = record {
  preamble = preamble_of p.preamble;
  table_ids = p.table_ids;
  with_selector = p.with_selector;
  size = unwrap_or (size_of p.size) 0;
  max_group_size = unwrap_or (size_of p.max_group_size) 0;
}

-- what a counter counts, where it says so
abbrev pub unit_of : Option message_spec.CounterSpec → ℤ
unit_of given = unwrap_or (option_map (λ x. x.unit) given) (pos 0)

-- an indirect counter, with what it counts and its size
abbrev pub counter_of : message_counter.Counter → Counter
counter_of c = record { preamble = preamble_of c.preamble; unit = unit_of c.spec; size = unwrap_or (size_of c.size) 0 }

-- a direct counter, with what it counts and its table
abbrev pub direct_counter_of : message_direct.DirectCounter → DirectCounter
direct_counter_of c = record { preamble = preamble_of c.preamble; unit = unit_of c.spec; table = c.direct_table_id }

-- a field of a header for a controller, with its width
abbrev pub header_field_of : message_metadata.Metadata → HeaderField
header_field_of m = record { id = m.id; name = m.name; bitwidth = unwrap_or (width_of m.bitwidth) 1 }

-- a header for a controller, with its fields
abbrev pub header_of : message_header.ControllerPacketMetadata → ControllerHeader
header_of h = record { preamble = preamble_of h.preamble; fields = map header_field_of h.metadata }

-- a message that is carried unread, which counts as not given where it is empty
abbrev pub carried : Option (List ℕ) → Option (List ℕ)
carried None = None
carried (Some []) = None
carried (Some (byte ∷ bytes)) = Some (byte ∷ bytes)

-- a digest, whose type is carried unread
abbrev pub digest_of : message_digest.Digest → Digest
digest_of d = record { preamble = preamble_of d.preamble; type_spec = carried d.type_spec }

-- the objects of a P4Info, in its order
abbrev pub info_of : message_info.P4Info → Info
info_of info = record {
  tables = map table_of info.tables;
  actions = map action_of info.actions;
  action_profiles = map profile_of info.action_profiles;
  counters = map counter_of info.counters;
  direct_counters = map direct_counter_of info.direct_counters;
  controller_packet_metadata = map header_of info.controller_packet_metadata;
  digests = map digest_of info.digests;
}
