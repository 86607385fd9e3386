-- The router and the lab: two small programs whose packets can be followed by hand (this project's examples).
use Rattle.std.specs.Prelude.{ℕ, true, false, List, [], ◌∷◌, codes, pos, Some, None}
use Rattle.bm_expr.specs.declared.store.FieldPlace.{FieldPlace}
use Rattle.bm_expr.specs.Trees.{Field, Literal, Datum, Add, BitAnd, IsValid}
use Rattle.bm_pipeline.specs.declared.actions.Action.{Action}
use Rattle.bm_pipeline.specs.declared.actions.Primitive.TheVariants as primitives
use Rattle.bm_pipeline.specs.declared.checksums.CalculationInput.TheVariants as inputs
use Rattle.bm_pipeline.specs.declared.headers.FieldRef.TheVariants as refs
use Rattle.bm_pipeline.specs.declared.headers.Header.{Header}
use Rattle.bm_pipeline.specs.declared.parser.KeyTest.TheVariants as key_tests
use Rattle.bm_pipeline.specs.declared.parser.Parser.{Parser}
use Rattle.bm_pipeline.specs.declared.parser.ParserOp.TheVariants as ops
use Rattle.bm_pipeline.specs.declared.program.Program.{Program}
use Rattle.bm_pipeline.specs.declared.tables.Next.{Next}
use Rattle.bm_pipeline.specs.declared.tables.Next.TheVariants as nexts
use Rattle.bm_pipeline.specs.declared.tables.Node.TheVariants as nodes
use Rattle.bm_pipeline.specs.declared.tables.Table.{Table}
use Rattle.bm_pipeline.specs.declared.tables.TableAction.{TableAction}
use Rattle.p4_types.specs.declared.info.Info.{Info}
use Rattle.p4_types.specs.declared.info.Table as info_tables
use Rattle.plane_spec.specs.Bridge.{bridge_program, metadata_field, metadata_header, drop_action, drop_body, named}
use Rattle.plane_spec.specs.Config.{Config}

-- a program with nothing in it but `standard_metadata`, to be filled
abbrev pub bare : Program
bare = record bridge_program { headers = metadata_header ∷ []; fields = 6; deparser = []; actions = []; tables = []; ingress = None }

-- a header at a place, whose fields stand from this one on
abbrev pub header_at : ℕ → ℕ → ℕ → ℕ → List ℕ → Header
header_at place first count bits widths = record { place = record { header = place; first = first; count = count }; metadata = false; widths = widths; bits = bits }

-- a field
abbrev pub field : ℕ → ℕ → ℕ → FieldPlace
field index header width = record { index = index; header = header; width = width }

-- a table's action by its place among the actions and its id in the P4Info, and what follows it
abbrev pub does : ℕ → ℕ → Next → TableAction
does place id next = record { action = place; reference = Some id; next = next }

-- objects of no program, to be filled
abbrev pub no_objects : Info
no_objects = record { tables = []; actions = []; action_profiles = []; counters = []; direct_counters = []; controller_packet_metadata = []; digests = [] }

-- a configuration of these objects and this program; its bytes are not looked at by packets
abbrev pub configured : Info → Program → Config
configured info program = record { p4info = []; device_config = []; cookie = 0; info = info; program = program }

-- ---- the router

-- `route`: the port becomes that of the packet, the address of Ethernet is written, and the time to live falls by one
abbrev pub route_body : Action
route_body = record {
  runtime_data = 9 ∷ 48 ∷ [];
  primitives =
      primitives.Assign (metadata_field 1 9) (Datum 0)
      ∷ primitives.Assign (field 7 1 48) (Field (field 6 1 48))
      ∷ primitives.Assign (field 6 1 48) (Datum 1)
      ∷ primitives.Assign (field 16 2 8) (BitAnd (Add (Field (field 16 2 8)) (Literal 255)) (Literal 255))
      ∷ [];
}

-- its parser: an Ethernet header, and behind type 0800 an IPv4 header
abbrev pub router_parser : Parser
router_parser = record {
  init_state = 0;
  parse_states =
      (record {
        parser_ops = ops.Extract 1 ∷ [];
        transition_key = refs.Field (field 8 1 16) ∷ [];
        transitions = (record { test = key_tests.Masked 0x0800 0xffffffffffffffffffffffffffffffff; next_state = Some 1 }) ∷ (record { test = key_tests.Default; next_state = None }) ∷ [];
      })
      ∷ (record { parser_ops = ops.Extract 2 ∷ []; transition_key = []; transitions = (record { test = key_tests.Default; next_state = None }) ∷ [] })
      ∷ [];
}

-- its table: the longest prefix of the destination; what has no route is dropped
abbrev pub router_table : Table
router_table = record {
  id = Some 0x02000002;
  key = refs.Field (field 20 2 32) ∷ [];
  actions = does 0 0x01000003 nexts.End ∷ does 1 drop_action nexts.End ∷ [];
  hit = nexts.NotNamed;
  miss = nexts.NotNamed;
  base_default_next = None;
  default_entry = Some (record { action = does 1 drop_action nexts.End; action_data = [] });
  selector = [];
}

-- the router: where the IPv4 header is valid, the table is applied, and the header's checksum is written
unfoldable pub router : Program
router = record bare {
  headers = metadata_header ∷ header_at 1 6 3 112 (48 ∷ 48 ∷ 16 ∷ []) ∷ header_at 2 9 12 160 (4 ∷ 4 ∷ 8 ∷ 16 ∷ 16 ∷ 3 ∷ 13 ∷ 8 ∷ 8 ∷ 16 ∷ 32 ∷ 32 ∷ []) ∷ [];
  fields = 21;
  parser = router_parser;
  deparser = 1 ∷ 2 ∷ [];
  calculations = (record {
    input =
        inputs.Field (refs.Field (field 9 2 4))
        ∷ inputs.Field (refs.Field (field 10 2 4))
        ∷ inputs.Field (refs.Field (field 11 2 8))
        ∷ inputs.Field (refs.Field (field 12 2 16))
        ∷ inputs.Field (refs.Field (field 13 2 16))
        ∷ inputs.Field (refs.Field (field 14 2 3))
        ∷ inputs.Field (refs.Field (field 15 2 13))
        ∷ inputs.Field (refs.Field (field 16 2 8))
        ∷ inputs.Field (refs.Field (field 17 2 8))
        ∷ inputs.Field (refs.Field (field 19 2 32))
        ∷ inputs.Field (refs.Field (field 20 2 32))
        ∷ [];
  }) ∷ [];
  checksums = (record { target = field 18 2 16; calculation = 0; update = true; verify = false; if_cond = Some (IsValid 2) }) ∷ [];
  actions = route_body ∷ drop_body ∷ [];
  tables = router_table ∷ [];
  conditionals = (record { expression = IsValid 2; true_next = Some (nodes.Table 0); false_next = None }) ∷ [];
  ingress = Some (nodes.Conditional 0);
}

-- ---- the lab

-- `set_port`: the port becomes that of the packet
abbrev pub set_port_body : Action
set_port_body = record { runtime_data = 9 ∷ []; primitives = primitives.Assign (metadata_field 1 9) (Datum 0) ∷ [] }

-- `learn`: the same, and a sample of the first list is taken
abbrev pub learn_body : Action
learn_body = record { runtime_data = 9 ∷ []; primitives = primitives.GenerateDigest 0 ∷ primitives.Assign (metadata_field 1 9) (Datum 0) ∷ [] }

-- its first table: the bits of the first byte under masks, by priority; what it does not hit is dropped, but the second table may send it
abbrev pub acl_table : Table
acl_table = record {
  id = Some 0x02000011;
  key = refs.Field (field 6 1 8) ∷ [];
  actions = does 0 0x01000011 (nexts.Node (nodes.Table 1)) ∷ does 1 0x01000012 (nexts.Node (nodes.Table 1)) ∷ does 2 drop_action (nexts.Node (nodes.Table 1)) ∷ [];
  hit = nexts.NotNamed;
  miss = nexts.NotNamed;
  base_default_next = Some (nodes.Table 1);
  default_entry = Some (record { action = does 2 drop_action (nexts.Node (nodes.Table 1)); action_data = [] });
  selector = [];
}

-- its second table: the second byte, with groups chosen by the rest
abbrev pub ecmp_table : Table
ecmp_table = record {
  id = Some 0x02000012;
  key = refs.Field (field 7 1 8) ∷ [];
  actions = does 0 0x01000011 nexts.End ∷ [];
  hit = nexts.NotNamed;
  miss = nexts.NotNamed;
  base_default_next = None;
  default_entry = None;
  selector = refs.Field (field 8 1 16) ∷ [];
}

-- the lab: a header of a, b and c, and both tables one behind the other
unfoldable pub lab : Program
lab = record bare {
  headers = metadata_header ∷ header_at 1 6 3 32 (8 ∷ 8 ∷ 16 ∷ []) ∷ [];
  fields = 9;
  deparser = 1 ∷ [];
  learn_lists = (record { digest = Some 0x17000001; elements = refs.Field (field 6 1 8) ∷ refs.Field (field 7 1 8) ∷ [] }) ∷ [];
  actions = set_port_body ∷ learn_body ∷ drop_body ∷ [];
  tables = acl_table ∷ ecmp_table ∷ [];
  ingress = Some (nodes.Table 0);
}

-- the second table's action profile in the P4Info
abbrev pub ecmp_info : info_tables.Table
ecmp_info = record {
  preamble = named 0x02000012 (codes "ecmp");
  match_fields = [];
  action_refs = [];
  const_default_action = None;
  action_profile = Some 0x11000001;
  direct_counters = [];
  size = 8;
  idle_timeout_behavior = pos 0;
  is_const_table = false;
}
