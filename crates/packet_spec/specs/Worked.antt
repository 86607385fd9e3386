-- Packets that were followed by hand: what leaves, and what was hit (this project's examples).
use Rattle.std.specs.Prelude.{◌≡◌, ℕ, ◌+◌, pos, true, List, [], ◌∷◌, codes, map, length, replicate, Some, None}
use Rattle.bm_expr.specs.Trees.{Datum}
use Rattle.bm_pipeline.specs.declared.actions.Primitive.TheVariants as primitives
use Rattle.bm_pipeline.specs.declared.program.Program.{Program}
use Rattle.p4_types.specs.declared.info.ControllerHeader.{ControllerHeader}
use Rattle.p4_types.specs.declared.keys.FieldTest.{FieldTest}
use Rattle.p4_types.specs.declared.keys.FieldTest.TheVariants as tests
use Rattle.p4_types.specs.declared.messages.P4Data.TheVariants as contents
use Rattle.p4_types.specs.declared.multicast.MulticastGroup.{MulticastGroup}
use Rattle.p4_types.specs.declared.records.DropReason.TheVariants as reasons
use Rattle.p4_types.specs.declared.records.Fate.TheVariants as fates
use Rattle.p4_types.specs.declared.records.HitMark.TheVariants as marks
use Rattle.p4_types.specs.declared.table.ActionCall.{ActionCall}
use Rattle.p4_types.specs.declared.table.Entry.{Entry}
use Rattle.p4_types.specs.declared.table.EntryAction.{EntryAction}
use Rattle.p4_types.specs.declared.table.EntryAction.TheVariants as entry_actions
use Rattle.packet_spec.specs.Meaning.{Verdict, dropped, meaning}
use Rattle.packet_spec.specs.Programs.{configured, no_objects, ecmp_info, header_at, field, router, lab}
use Rattle.plane_spec.specs.Bridge.{drop_body, bridge_config, bridge_info, bridge_program, bridge_table, forward_action, metadata_header, eth_header, metadata_field, named}
use Rattle.plane_spec.specs.Config.{Config}
use Rattle.plane_spec.specs.Planes.{Plane, made_plane}

-- the CPU port in all of these
abbrev pub cpu : ℕ
cpu = 255

-- an entry of a table with one field
abbrev pub entry_of : ℕ → FieldTest → ℕ → ℕ → EntryAction → Entry
entry_of table test priority seq action = record { name = record { table = table; tests = test ∷ []; priority = pos priority }; seq = seq; controller_metadata = 0; action = action; slot = None }

-- a call of an action
abbrev pub call_of : ℕ → List ℕ → ActionCall
call_of action arguments = record { action = action; arguments = arguments }

-- a packet that leaves at a port, with what it hit
abbrev pub sent_at : ℕ → List ℕ → Verdict
sent_at port bytes = record { fate = fates.Sent; outputs = (record { port = port; bytes = bytes }) ∷ []; packet_ins = []; sample = None; hits = [] }

-- what leaves, and how many bytes of it
abbrev pub sizes : Verdict → List ℕ
sizes verdict = map (λ output. length output.bytes) verdict.outputs

-- ---- the router

-- 10.1.0.0/16 goes to port 3, with the address 02:00:00:00:00:03
abbrev pub router_plane : Plane
router_plane = record (made_plane 0 (configured no_objects router)) {
  entries = entry_of 0x02000002 (tests.Prefix 0x0a010000 16 32) 0 1 (entry_actions.Call (call_of 0x01000003 (3 ∷ 0x020000000003 ∷ []))) ∷ [];
}

-- a packet to 10.1.2.3 leaves with the new addresses, a time to live that is one less, and its checksum
abbrev pub RouterForwards : Type 0
RouterForwards =
    meaning (Some router_plane) cpu 1
    (2 ∷ 0 ∷ 0 ∷ 0 ∷ 0 ∷ 10 ∷ 2 ∷ 0 ∷ 0 ∷ 0 ∷ 0 ∷ 1 ∷ 8 ∷ 0 ∷ 69 ∷ 0 ∷ 0 ∷ 24 ∷ 0 ∷ 0 ∷ 64 ∷ 0 ∷ 64 ∷ 1 ∷ 36 ∷ 225 ∷ 10 ∷ 0 ∷ 0 ∷ 1 ∷ 10 ∷ 1 ∷ 2 ∷ 3 ∷ 222 ∷ 173 ∷ 190 ∷ 239 ∷ [])
    ≡ record (sent_at 3
    (2 ∷ 0 ∷ 0 ∷ 0 ∷ 0 ∷ 3 ∷ 2 ∷ 0 ∷ 0 ∷ 0 ∷ 0 ∷ 10 ∷ 8 ∷ 0 ∷ 69 ∷ 0 ∷ 0 ∷ 24 ∷ 0 ∷ 0 ∷ 64 ∷ 0 ∷ 63 ∷ 1 ∷ 37 ∷ 225 ∷ 10 ∷ 0 ∷ 0 ∷ 1 ∷ 10 ∷ 1 ∷ 2 ∷ 3 ∷ 222 ∷ 173 ∷ 190 ∷ 239 ∷ [])) { hits = marks.Entry 0x02000002 1 None ∷ [] }

-- a packet to 11.0.0.1 has no route, and is dropped
abbrev pub RouterDrops : Type 0
RouterDrops =
    meaning (Some router_plane) cpu 1
    (2 ∷ 0 ∷ 0 ∷ 0 ∷ 0 ∷ 10 ∷ 2 ∷ 0 ∷ 0 ∷ 0 ∷ 0 ∷ 1 ∷ 8 ∷ 0 ∷ 69 ∷ 0 ∷ 0 ∷ 24 ∷ 0 ∷ 0 ∷ 64 ∷ 0 ∷ 64 ∷ 1 ∷ 36 ∷ 225 ∷ 10 ∷ 0 ∷ 0 ∷ 1 ∷ 11 ∷ 0 ∷ 0 ∷ 1 ∷ 222 ∷ 173 ∷ 190 ∷ 239 ∷ [])
    ≡ dropped reasons.ByPipeline None []

-- a time to live of 0 becomes 255
abbrev pub RouterWraps : Type 0
RouterWraps =
    meaning (Some router_plane) cpu 1
    (2 ∷ 0 ∷ 0 ∷ 0 ∷ 0 ∷ 10 ∷ 2 ∷ 0 ∷ 0 ∷ 0 ∷ 0 ∷ 1 ∷ 8 ∷ 0 ∷ 69 ∷ 0 ∷ 0 ∷ 24 ∷ 0 ∷ 0 ∷ 64 ∷ 0 ∷ 0 ∷ 1 ∷ 100 ∷ 225 ∷ 10 ∷ 0 ∷ 0 ∷ 1 ∷ 10 ∷ 1 ∷ 2 ∷ 3 ∷ 222 ∷ 173 ∷ 190 ∷ 239 ∷ [])
    ≡ record (sent_at 3
    (2 ∷ 0 ∷ 0 ∷ 0 ∷ 0 ∷ 3 ∷ 2 ∷ 0 ∷ 0 ∷ 0 ∷ 0 ∷ 10 ∷ 8 ∷ 0 ∷ 69 ∷ 0 ∷ 0 ∷ 24 ∷ 0 ∷ 0 ∷ 64 ∷ 0 ∷ 255 ∷ 1 ∷ 101 ∷ 224 ∷ 10 ∷ 0 ∷ 0 ∷ 1 ∷ 10 ∷ 1 ∷ 2 ∷ 3 ∷ 222 ∷ 173 ∷ 190 ∷ 239 ∷ [])) { hits = marks.Entry 0x02000002 1 None ∷ [] }

-- ---- the lab

-- an entry that learns, and a digest entry of its list
abbrev pub lab_learning : Plane
lab_learning = record (made_plane 0 (configured no_objects lab)) {
  entries = entry_of 0x02000011 (tests.Masked 0xaa 0xff) 1 1 (entry_actions.Call (call_of 0x01000012 (4 ∷ []))) ∷ [];
  digests = (record { digest_id = 0x17000001; config = record { max_timeout_ns = pos 0; max_list_size = pos 1; ack_timeout_ns = pos 0 } }) ∷ [];
}

-- a packet that it hits leaves, and gives a sample of its first two bytes
abbrev pub LabLearns : Type 0
LabLearns =
    meaning (Some lab_learning) cpu 1 (0xaa ∷ 5 ∷ 0 ∷ 0 ∷ [])
    ≡ record (sent_at 4 (0xaa ∷ 5 ∷ 0 ∷ 0 ∷ [])) { sample = Some (record { digest = 0x17000001; content = contents.Struct ((0xaa ∷ []) ∷ (5 ∷ []) ∷ []) }); hits = marks.Entry 0x02000011 1 None ∷ [] }

-- of 0a under 0f to port 2 and a0 under f0 to port 1 with one priority, the one that came first is taken
abbrev pub lab_ternary : Plane
lab_ternary = record (made_plane 0 (configured no_objects lab)) {
  entries = entry_of 0x02000011 (tests.Masked 0x0a 0x0f) 10 1 (entry_actions.Call (call_of 0x01000011 (2 ∷ [])))
      ∷ entry_of 0x02000011 (tests.Masked 0xa0 0xf0) 10 2 (entry_actions.Call (call_of 0x01000011 (1 ∷ []))) ∷ [];
}

-- a packet that both hit leaves by the first
abbrev pub LabTakesFirst : Type 0
LabTakesFirst = meaning (Some lab_ternary) cpu 1 (0xaa ∷ 0 ∷ 0 ∷ 0 ∷ []) ≡ record (sent_at 2 (0xaa ∷ 0 ∷ 0 ∷ 0 ∷ [])) { hits = marks.Entry 0x02000011 1 None ∷ [] }

-- a group of two members with weights 1 and 3
abbrev pub lab_group : Plane
lab_group = record (made_plane 0 (configured (record no_objects { tables = ecmp_info ∷ [] }) lab)) {
  entries = entry_of 0x02000012 (tests.Equal 5) 0 1 (entry_actions.Group 0x11000001 1) ∷ [];
  members = (record { profile = 0x11000001; id = 1; call = call_of 0x01000011 (1 ∷ []) }) ∷ (record { profile = 0x11000001; id = 2; call = call_of 0x01000011 (2 ∷ []) }) ∷ [];
  groups = (record { profile = 0x11000001; id = 1; shares = (record { member = 1; weight = 1 }) ∷ (record { member = 2; weight = 3 }) ∷ [] }) ∷ [];
}

-- a packet whose hash has the remainder 0 by 4 leaves by the first member
abbrev pub GroupChoosesFirst : Type 0
GroupChoosesFirst = meaning (Some lab_group) cpu 1 (0xaa ∷ 5 ∷ 0 ∷ 3 ∷ []) ≡ record (sent_at 1 (0xaa ∷ 5 ∷ 0 ∷ 3 ∷ [])) { hits = marks.Entry 0x02000012 1 None ∷ [] }

-- one with the remainder 1 leaves by the second
abbrev pub GroupChoosesSecond : Type 0
GroupChoosesSecond = meaning (Some lab_group) cpu 1 (0xaa ∷ 5 ∷ 0 ∷ 0 ∷ []) ≡ record (sent_at 2 (0xaa ∷ 5 ∷ 0 ∷ 0 ∷ [])) { hits = marks.Entry 0x02000012 1 None ∷ [] }

-- a one-shot set of the same actions and weights
abbrev pub lab_set : Plane
lab_set = record (made_plane 0 (configured (record no_objects { tables = ecmp_info ∷ [] }) lab)) {
  entries = entry_of 0x02000012 (tests.Equal 5) 0 1 (entry_actions.Set 0x11000001
      ((record { call = call_of 0x01000011 (1 ∷ []); weight = 1 }) ∷ (record { call = call_of 0x01000011 (2 ∷ []); weight = 3 }) ∷ [])) ∷ [];
}

-- chooses as the group does
abbrev pub SetChoosesSecond : Type 0
SetChoosesSecond = meaning (Some lab_set) cpu 1 (0xaa ∷ 5 ∷ 0 ∷ 0 ∷ []) ≡ record (sent_at 2 (0xaa ∷ 5 ∷ 0 ∷ 0 ∷ [])) { hits = marks.Entry 0x02000012 1 None ∷ [] }

-- ---- the bridge

-- an address goes to a port
abbrev pub bridge_plane : Config → ℕ → ℕ → Plane
bridge_plane config address port = record (made_plane 0 config) { entries = entry_of bridge_table (tests.Equal address) 0 1 (entry_actions.Call (call_of forward_action (port ∷ []))) ∷ [] }

-- 13 bytes are too short for a header: the address reads 0, and they leave whole
abbrev pub ShortFrameLeaves : Type 0
ShortFrameLeaves =
    meaning (Some (bridge_plane bridge_config 0 2)) cpu 1 (0 ∷ 0 ∷ 0 ∷ 0 ∷ 0 ∷ 2 ∷ 0 ∷ 0 ∷ 0 ∷ 0 ∷ 0 ∷ 1 ∷ 8 ∷ [])
    ≡ record (sent_at 2 (0 ∷ 0 ∷ 0 ∷ 0 ∷ 0 ∷ 2 ∷ 0 ∷ 0 ∷ 0 ∷ 0 ∷ 0 ∷ 1 ∷ 8 ∷ [])) { hits = marks.Entry bridge_table 1 None ∷ [] }

-- a header of two fields that stands before what goes to a controller
abbrev pub notify : ControllerHeader
notify = record { preamble = named 0x04000001 (codes "packet_in"); fields = (record { id = 1; name = codes "port"; bitwidth = 9 }) ∷ (record { id = 2; name = codes "rest"; bitwidth = 7 }) ∷ [] }

-- the bridge with that header
abbrev pub notifying : Config
notifying = record bridge_config { info = record bridge_info { controller_packet_metadata = notify ∷ [] } }

-- at the CPU port its two fields are taken from the front
abbrev pub ControllerIsTold : Type 0
ControllerIsTold =
    meaning (Some (bridge_plane notifying 0 255)) cpu 1 (0x81 ∷ 3 ∷ 7 ∷ [])
    ≡ record (sent_at 0 []) {
      outputs = [];
      packet_ins = (record { payload = 7 ∷ []; metadata = (record { metadata_id = 1; value = 1 ∷ 2 ∷ [] }) ∷ (record { metadata_id = 2; value = 3 ∷ [] }) ∷ [] }) ∷ [];
      hits = marks.Entry bridge_table 1 None ∷ [];
    }

-- one byte is too short for it
abbrev pub ControllerHeaderTooShort : Type 0
ControllerHeaderTooShort = meaning (Some (bridge_plane notifying 0 255)) cpu 1 (9 ∷ []) ≡ dropped reasons.TooShortForController None (marks.Entry bridge_table 1 None ∷ [])

-- ---- long packets

-- the bridge with a header of these fields that `forward` puts before the packet
abbrev pub widening : ℕ → ℕ → List ℕ → Program
widening count bits widths = record bridge_program {
  headers = metadata_header ∷ eth_header ∷ header_at 2 9 count bits widths ∷ [];
  fields = 9 + count;
  deparser = 2 ∷ 1 ∷ [];
  actions = (record { runtime_data = 9 ∷ []; primitives = primitives.AddHeader (record { header = 2; first = 9; count = count }) ∷ primitives.Assign (metadata_field 1 9) (Datum 0) ∷ [] }) ∷ [];
}

-- a plane of it, in which all goes to port 2
abbrev pub wide_plane : Program → Plane
wide_plane program = bridge_plane (record bridge_config { program = program }) 0 2

-- one byte before 9,216: 9,217 bytes leave
abbrev pub LongerLeaves : Type 0
LongerLeaves = sizes (meaning (Some (wide_plane (widening 1 8 (8 ∷ [])))) cpu 1 (replicate 9216 0)) ≡ 9217 ∷ []

-- 1,025 bytes before 9,215: 10,240 bytes leave
abbrev pub LongestLeaves : Type 0
LongestLeaves = sizes (meaning (Some (wide_plane (widening 65 8200 (8 ∷ replicate 64 128)))) cpu 1 (replicate 9215 0)) ≡ 10240 ∷ []

-- one byte more is too long
abbrev pub TooLongIsDropped : Type 0
TooLongIsDropped = meaning (Some (wide_plane (widening 65 8200 (8 ∷ replicate 64 128)))) cpu 1 (replicate 9216 0) ≡ dropped reasons.TooLong None (marks.Entry bridge_table 1 None ∷ [])

-- ---- copies

-- the bridge with `mcast_grp` and `egress_rid`, and with an action that assigns the first in the place of `forward`
abbrev pub flooding : Program
flooding = record bridge_program {
  headers = metadata_header ∷ eth_header ∷ (record (header_at 2 9 2 32 (16 ∷ 16 ∷ [])) { metadata = true }) ∷ [];
  fields = 11;
  standard_metadata = record bridge_program.standard_metadata { mcast_grp = Some (field 9 2 16); egress_rid = Some (field 10 2 16) };
  actions = (record { runtime_data = 16 ∷ []; primitives = primitives.Assign (field 9 2 16) (Datum 0) ∷ [] }) ∷ drop_body ∷ [];
}

-- a plane of it, in which all goes to group 7, with these groups
abbrev pub flood_plane : List MulticastGroup → Plane
flood_plane groups = record (bridge_plane (record bridge_config { program = flooding }) 0 7) { multicast = groups }

-- group 7: ports 1, 3 and the CPU port
abbrev pub group_seven : MulticastGroup
group_seven = record { id = 7; replicas = (record { egress_port = 1; instance = 0 }) ∷ (record { egress_port = 3; instance = 1 }) ∷ (record { egress_port = 255; instance = 0 }) ∷ [] }

-- a frame to the address 0
abbrev pub frame : List ℕ
frame = 0 ∷ 0 ∷ 0 ∷ 0 ∷ 0 ∷ 0 ∷ 0 ∷ 0 ∷ 0 ∷ 0 ∷ 0 ∷ 1 ∷ 8 ∷ 0 ∷ []

-- it leaves at ports 1 and 3, and goes to a controller
abbrev pub FloodCopies : Type 0
FloodCopies =
    meaning (Some (flood_plane (group_seven ∷ []))) cpu 1 frame
    ≡ record {
      fate = fates.Sent;
      outputs = (record { port = 1; bytes = frame }) ∷ (record { port = 3; bytes = frame }) ∷ [];
      packet_ins = (record { payload = frame; metadata = [] }) ∷ [];
      sample = None;
      hits = marks.Entry bridge_table 1 None ∷ [];
    }

-- without the group it is dropped
abbrev pub AbsentGroupDrops : Type 0
AbsentGroupDrops = meaning (Some (flood_plane [])) cpu 1 frame ≡ dropped reasons.ByPipeline None (marks.Entry bridge_table 1 None ∷ [])
