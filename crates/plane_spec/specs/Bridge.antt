-- The built-in Ethernet bridge (this project's profile).
use Rattle.std.specs.Prelude.{ℕ, pos, true, false, List, [], ◌∷◌, codes, Some, None}
use Rattle.bm_expr.specs.Trees.{Datum}
use Rattle.bm_expr.specs.declared.store.FieldPlace.{FieldPlace}
use Rattle.bm_pipeline.specs.declared.actions.Action as bodies
use Rattle.bm_pipeline.specs.declared.actions.Primitive.TheVariants as primitives
use Rattle.bm_pipeline.specs.declared.headers.FieldRef.TheVariants as refs
use Rattle.bm_pipeline.specs.declared.headers.Header.{Header}
use Rattle.bm_pipeline.specs.declared.parser.KeyTest.TheVariants as key_tests
use Rattle.bm_pipeline.specs.declared.parser.Parser.{Parser}
use Rattle.bm_pipeline.specs.declared.parser.ParserOp.TheVariants as ops
use Rattle.bm_pipeline.specs.declared.program.Program.{Program}
use Rattle.bm_pipeline.specs.declared.tables.Next.TheVariants as nexts
use Rattle.bm_pipeline.specs.declared.tables.Node.TheVariants as nodes
use Rattle.bm_pipeline.specs.declared.tables.Table as table_bodies
use Rattle.bm_pipeline.specs.declared.tables.TableAction.{TableAction}
use Rattle.p4_types.specs.declared.info.Action.{Action}
use Rattle.p4_types.specs.declared.info.Info.{Info}
use Rattle.p4_types.specs.declared.info.MatchKind.TheVariants.{Exact}
use Rattle.p4_types.specs.declared.info.Scope.TheVariants.{TableAndDefault}
use Rattle.p4_types.specs.declared.info.Table.{Table}
use Rattle.p4_types.specs.declared.p4info.Preamble.{Preamble}
use Rattle.role_arbiter.specs.declared.sessions.Session.{Session}
use Rattle.plane_spec.specs.Config.{Config}

-- its one table, which matches the destination address of a frame
abbrev pub bridge_table : ℕ
bridge_table = 0x02000001

-- the action that sends a frame to a port
abbrev pub forward_action : ℕ
forward_action = 0x01000001

-- the action that drops a frame
abbrev pub drop_action : ℕ
drop_action = 0x01000002

-- an object of this id and name
abbrev pub named : ℕ → List ℕ → Preamble
named id name = record { id = id; name = name; alias = []; annotations = [] }

-- the forward action in the bridge's P4Info: its one parameter is the port
abbrev pub forward_info : Action
forward_info = record { preamble = named forward_action (codes "forward"); params = (record { id = 1; name = codes "port"; bitwidth = 9 }) ∷ [] }

-- the drop action in the bridge's P4Info, which has no parameters
abbrev pub drop_info : Action
drop_info = record { preamble = named drop_action (codes "drop"); params = [] }

-- the table in the bridge's P4Info: an exact match of the destination address, at most 4 entries, no counter
abbrev pub bridge_table_info : Table
bridge_table_info = record {
  preamble = named bridge_table (codes "bridge");
  match_fields = (record { id = 1; name = codes "eth.dst"; bitwidth = 48; kind = Exact }) ∷ [];
  action_refs = (record { id = forward_action; scope = TableAndDefault }) ∷ (record { id = drop_action; scope = TableAndDefault }) ∷ [];
  const_default_action = None;
  action_profile = None;
  direct_counters = [];
  size = 4;
  idle_timeout_behavior = pos 0;
  is_const_table = false;
}

-- the bridge's objects
unfoldable pub bridge_info : Info
bridge_info = record {
  tables = bridge_table_info ∷ [];
  actions = forward_info ∷ drop_info ∷ [];
  action_profiles = [];
  counters = [];
  direct_counters = [];
  controller_packet_metadata = [];
  digests = [];
}

-- its P4Info as canonical bytes
unfoldable pub bridge_bytes : List ℕ
bridge_bytes =
    0x12 ∷ 0x30 ∷ 0x0a ∷ 0x0d ∷ 0x08 ∷ 0x81 ∷ 0x80 ∷ 0x80 ∷ 0x10 ∷ 0x12 ∷ 0x06 ∷ 0x62 ∷ 0x72 ∷ 0x69 ∷ 0x64 ∷ 0x67 ∷
    0x65 ∷ 0x12 ∷ 0x0f ∷ 0x08 ∷ 0x01 ∷ 0x12 ∷ 0x07 ∷ 0x65 ∷ 0x74 ∷ 0x68 ∷ 0x2e ∷ 0x64 ∷ 0x73 ∷ 0x74 ∷ 0x20 ∷ 0x30 ∷
    0x28 ∷ 0x02 ∷ 0x1a ∷ 0x05 ∷ 0x08 ∷ 0x81 ∷ 0x80 ∷ 0x80 ∷ 0x08 ∷ 0x1a ∷ 0x05 ∷ 0x08 ∷ 0x82 ∷ 0x80 ∷ 0x80 ∷ 0x08 ∷
    0x40 ∷ 0x04 ∷ 0x1a ∷ 0x1c ∷ 0x0a ∷ 0x0e ∷ 0x08 ∷ 0x81 ∷ 0x80 ∷ 0x80 ∷ 0x08 ∷ 0x12 ∷ 0x07 ∷ 0x66 ∷ 0x6f ∷ 0x72 ∷
    0x77 ∷ 0x61 ∷ 0x72 ∷ 0x64 ∷ 0x12 ∷ 0x0a ∷ 0x08 ∷ 0x01 ∷ 0x12 ∷ 0x04 ∷ 0x70 ∷ 0x6f ∷ 0x72 ∷ 0x74 ∷ 0x20 ∷ 0x09 ∷
    0x1a ∷ 0x0d ∷ 0x0a ∷ 0x0b ∷ 0x08 ∷ 0x82 ∷ 0x80 ∷ 0x80 ∷ 0x08 ∷ 0x12 ∷ 0x04 ∷ 0x64 ∷ 0x72 ∷ 0x6f ∷ 0x70 ∷ []

-- the fields of its `standard_metadata`: ingress_port, egress_spec, egress_port, packet_length, parser_error, checksum_error
abbrev pub metadata_field : ℕ → ℕ → FieldPlace
metadata_field index width = record { index = index; header = 0; width = width }

-- `standard_metadata`
abbrev pub metadata_header : Header
metadata_header = record { place = record { header = 0; first = 0; count = 6 }; metadata = true; widths = 9 ∷ 9 ∷ 9 ∷ 32 ∷ 32 ∷ 1 ∷ []; bits = 92 }

-- `eth`: destination, source, type
abbrev pub eth_header : Header
eth_header = record { place = record { header = 1; first = 6; count = 3 }; metadata = false; widths = 48 ∷ 48 ∷ 16 ∷ []; bits = 112 }

-- the destination address of a frame
abbrev pub destination : FieldPlace
destination = record { index = 6; header = 1; width = 48 }

-- its parser: a frame's header is extracted, and the frame accepted
abbrev pub bridge_parser : Parser
bridge_parser = record {
  init_state = 0;
  parse_states = (record { parser_ops = ops.Extract 1 ∷ []; transition_key = []; transitions = (record { test = key_tests.Default; next_state = None }) ∷ [] }) ∷ [];
}

-- `forward`: the port becomes that of the frame
abbrev pub forward_body : bodies.Action
forward_body = record { runtime_data = 9 ∷ []; primitives = primitives.Assign (metadata_field 1 9) (Datum 0) ∷ [] }

-- `drop`
abbrev pub drop_body : bodies.Action
drop_body = record { runtime_data = []; primitives = primitives.MarkToDrop ∷ [] }

-- `drop` as an action of the table, which ends ingress
abbrev pub dropping : TableAction
dropping = record { action = 1; reference = Some drop_action; next = nexts.End }

-- its table
abbrev pub bridge_table_body : table_bodies.Table
bridge_table_body = record {
  id = Some bridge_table;
  key = refs.Field destination ∷ [];
  actions = (record { action = 0; reference = Some forward_action; next = nexts.End }) ∷ dropping ∷ [];
  hit = nexts.NotNamed;
  miss = nexts.NotNamed;
  base_default_next = None;
  default_entry = Some (record { action = dropping; action_data = [] });
  selector = [];
}

-- its program: a table between parser and deparser, and an empty egress
unfoldable pub bridge_program : Program
bridge_program = record {
  headers = metadata_header ∷ eth_header ∷ [];
  fields = 9;
  standard_metadata = record {
    ingress_port = Some (metadata_field 0 9);
    packet_length = Some (metadata_field 3 32);
    egress_spec = metadata_field 1 9;
    egress_port = Some (metadata_field 2 9);
    egress_rid = None;
    mcast_grp = None;
    parser_error = Some (metadata_field 4 32);
    checksum_error = Some (metadata_field 5 1);
  };
  errors = record { no_error = 0; packet_too_short = 1; no_match = 2 };
  parser = bridge_parser;
  deparser = 1 ∷ [];
  calculations = [];
  checksums = [];
  learn_lists = [];
  actions = forward_body ∷ drop_body ∷ [];
  tables = bridge_table_body ∷ [];
  conditionals = [];
  ingress = Some (nodes.Table 0);
  egress = None;
}

-- its configuration: it has no device configuration, and its cookie is 0
abbrev pub bridge_config : Config
bridge_config = record { p4info = bridge_bytes; device_config = []; cookie = 0; info = bridge_info; program = bridge_program }

-- controller 0 starts as the primary of role 0
abbrev pub bridge_session : Session
bridge_session = record { caller = 0; role = 0; election_id = record { high = 0; low = 1 }; config = None }
