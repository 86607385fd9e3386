-- The P4Info message of the built-in bridge (this project's profile).
use Rattle.std.specs.Prelude.{pos, false, [], ◌∷◌, codes, Some}
use Rattle.p4_types.specs.declared.p4info.Action.{Action}
use Rattle.p4_types.specs.declared.p4info.P4Info.{P4Info}
use Rattle.p4_types.specs.declared.p4info.Table.{Table}
use Rattle.plane_spec.specs.Bridge.{bridge_table, forward_action, drop_action, named}

-- the bridge's action that sends a frame to a port, its one parameter of 9 bits
abbrev pub forward_message : Action
forward_message = record { preamble = Some (named forward_action (codes "forward")); params = (record { id = 1; name = codes "port"; bitwidth = pos 9 }) ∷ [] }

-- the bridge's action that drops a frame, without parameters
abbrev pub drop_message : Action
drop_message = record { preamble = Some (named drop_action (codes "drop")); params = [] }

-- the bridge's table
abbrev pub table_message : Table
table_message = record {
  preamble = Some (named bridge_table (codes "bridge"));
  match_fields = (record { id = 1; name = codes "eth.dst"; bitwidth = pos 48; match_type = pos 2 }) ∷ [];
  action_refs = (record { id = forward_action; scope = pos 0 }) ∷ (record { id = drop_action; scope = pos 0 }) ∷ [];
  const_default_action_id = 0;
  implementation_id = 0;
  direct_resource_ids = [];
  size = pos 4;
  idle_timeout_behavior = pos 0;
  is_const_table = false;
}

-- all its objects
abbrev pub bridge_message : P4Info
bridge_message = record {
  tables = table_message ∷ [];
  actions = forward_message ∷ drop_message ∷ [];
  action_profiles = [];
  counters = [];
  direct_counters = [];
  controller_packet_metadata = [];
  digests = [];
}
