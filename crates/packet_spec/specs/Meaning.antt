-- What becomes of one packet in a plane (P4-16, "Architecture description"; BMv2, "simple_switch"; P4Runtime 1.3.0, "Packet I/O", "Digests").
use Rattle.std.specs.Prelude.{ℕ, suc, ◌/◌, ◌%◌, ◌^◌, ◌==◌, nat_lt, if◌then◌else◌, Bool, List, [], ◌∷◌, ◌++◌, codes, drop, find, length, map, slice_get, sum_by, Option, Some, None}
use Rattle.std.specs.Str.{bytes_eq}
use Rattle.std.specs.List.{list_any}
use Rattle.bm_expr.specs.declared.store.FieldPlace.{FieldPlace}
use Rattle.bm_expr.specs.Store.{Contents, assigned, field_read}
use Rattle.bm_pipeline.specs.declared.actions.LearnList.{LearnList}
use Rattle.bm_pipeline.specs.declared.tables.Node.{Node}
use Rattle.bm_pipeline.specs.Places.{node_count}
use Rattle.canon_bytes.specs.Bits.{bits}
use Rattle.canon_bytes.specs.ByteString.{canon}
use Rattle.p4_types.specs.declared.info.ControllerHeader.{ControllerHeader}
use Rattle.p4_types.specs.declared.info.HeaderField.{HeaderField}
use Rattle.p4_types.specs.declared.info.Info.{Info}
use Rattle.p4_types.specs.declared.messages.P4Data.TheVariants as contents
use Rattle.p4_types.specs.declared.messages.PacketIn.{PacketIn}
use Rattle.p4_types.specs.declared.messages.PacketMetadata.{PacketMetadata}
use Rattle.p4_types.specs.declared.messages.Replica.{Replica}
use Rattle.p4_types.specs.declared.records.DropReason.{DropReason}
use Rattle.p4_types.specs.declared.records.DropReason.TheVariants as reasons
use Rattle.p4_types.specs.declared.records.Fate.{Fate}
use Rattle.p4_types.specs.declared.records.Fate.TheVariants as fates
use Rattle.p4_types.specs.declared.records.HitMark.{HitMark}
use Rattle.p4_types.specs.declared.records.Output.{Output}
use Rattle.p4_types.specs.declared.records.Sample.{Sample}
use Rattle.packet_spec.specs.Walking.{Walk, walk_from}
use Rattle.plane_spec.specs.Multicast.{multicast_of, replicas_in}
use Rattle.plane_spec.specs.Planes.{Plane}
use Rattle.program_spec.specs.Actions.{drop_port}
use Rattle.program_spec.specs.Checksums.{sums_verified, sums_updated}
use Rattle.program_spec.specs.Deparsing.{deparsed, longest}
use Rattle.program_spec.specs.Numbers.{runs}
use Rattle.program_spec.specs.Parsing.{Parsed, parse}
use Rattle.program_spec.specs.Stores.{read, assigned_if, entering}

-- what becomes of a packet: its fate, what it sends to ports, to a controller and to a digest, and what it hit
pub record Verdict : Type 0 where
  pub fate : Fate
  pub outputs : List Output
  pub packet_ins : List PacketIn
  pub sample : Option Sample
  pub hits : List HitMark

-- a packet that is dropped for a reason: nothing is sent, but its sample and its hits stay
abbrev pub dropped : DropReason → Option Sample → List HitMark → Verdict
dropped reason sample hits = record { fate = fates.Dropped reason; outputs = []; packet_ins = []; sample = sample; hits = hits }

-- the controller header of a name, if the program has one
abbrev pub header_named : List ℕ → Info → Option ControllerHeader
header_named name info = find (λ header. bytes_eq header.preamble.name name) info.controller_packet_metadata

-- the fields of a controller header; without one there are none
abbrev pub fields_of : Option ControllerHeader → List HeaderField
fields_of None = []
fields_of (Some header) = header.fields

-- the fields of the header that stands before a packet to a controller
abbrev pub packet_in_fields : Info → List HeaderField
packet_in_fields info = fields_of (header_named (codes "packet_in") info)

-- the widths of controller header fields
abbrev pub widths_of : List HeaderField → List ℕ
widths_of fields = map (λ field. field.bitwidth) fields

-- how many whole bytes controller header fields take
abbrev pub bytes_in : List HeaderField → ℕ
bytes_in fields = sum_by (λ field. field.bitwidth) fields / 8

-- the metadata of these fields with these numbers, in canonical form
abbrev pub metadata_of : List HeaderField → List ℕ → List PacketMetadata
metadata_of [] numbers = []
metadata_of (field ∷ fields) [] = []
metadata_of (field ∷ fields) (number ∷ numbers) = (record { metadata_id = field.id; value = canon number }) ∷ metadata_of fields numbers

-- the PacketIn of bytes: the header's fields are taken from the front
abbrev pub packet_in_of : List HeaderField → List ℕ → PacketIn
packet_in_of fields bytes = record { payload = drop (bytes_in fields) bytes; metadata = metadata_of fields (runs (widths_of fields) (bits bytes)) }

-- bytes for a controller, who gets nothing where they are fewer than its header
abbrev pub to_controller : List HeaderField → Option Sample → List HitMark → List ℕ → Verdict
to_controller fields sample hits bytes =
    if nat_lt (length bytes) (bytes_in fields) then dropped reasons.TooShortForController sample hits
    else record { fate = fates.Sent; outputs = []; packet_ins = packet_in_of fields bytes ∷ []; sample = sample; hits = hits }

-- bytes that leave at a port; at the CPU port they go to a controller
abbrev pub sent_to : Info → ℕ → ℕ → Option Sample → List HitMark → List ℕ → Verdict
sent_to info cpu port sample hits bytes =
    if nat_lt longest (length bytes) then dropped reasons.TooLong sample hits else
    if port == cpu then to_controller (packet_in_fields info) sample hits bytes
    else record { fate = fates.Sent; outputs = (record { port = port; bytes = bytes }) ∷ []; packet_ins = []; sample = sample; hits = hits }

-- whether a digest is told of
abbrev pub is_told : ℕ → Plane → Bool
is_told digest plane = list_any (λ entry. entry.digest_id == digest) plane.digests

-- a sample of a digest: the fields of its list as they are, in canonical form
abbrev pub sampled : ℕ → LearnList → Contents → Sample
sampled digest list store = record { digest = digest; content = contents.Struct (map (λ field. canon (read store field)) list.elements) }

-- the sample of a digest, if it is told of
abbrev pub sample_by : Plane → LearnList → Contents → Option ℕ → Option Sample
sample_by plane list store None = None
sample_by plane list store (Some digest) = if is_told digest plane then Some (sampled digest list store) else None

-- the sample of a list, if there is one
abbrev pub sample_in : Plane → Contents → Option LearnList → Option Sample
sample_in plane store None = None
sample_in plane store (Some list) = sample_by plane list store list.digest

-- the sample that a packet gives: of the last list that was named, with this store
abbrev pub sample_of : Plane → Contents → Option ℕ → Option Sample
sample_of plane store None = None
sample_of plane store (Some place) = sample_in plane store (slice_get plane.config.program.learn_lists place)

-- `egress_spec`: the port at which a packet is to leave, a number of 9 bits
abbrev pub egress_spec : Plane → Contents → ℕ
egress_spec plane store = field_read store plane.config.program.standard_metadata.egress_spec % 2 ^ 9

-- a walk from a node on, which hit this before
abbrev pub walked : Plane → Option Node → Contents → List HitMark → Walk
walked plane node store hits = walk_from plane (suc (node_count plane.config.program)) node (record { store = store; learned = None; hits = hits })

-- what is written of a packet behind egress, with the bits that were not extracted: checksums are updated, headers are put before the rest
abbrev pub written : Plane → Contents → List ℕ → List ℕ
written plane store rest = deparsed plane.config.program (sums_updated plane.config.program store) rest

-- a packet behind egress, whose port was chosen before; one that egress drops is dropped
abbrev pub left : Plane → ℕ → ℕ → List ℕ → Option Sample → Walk → Verdict
left plane cpu port rest sample walk =
    if egress_spec plane walk.store == drop_port then dropped reasons.ByPipeline sample walk.hits
    else sent_to plane.config.info cpu port sample walk.hits (written plane walk.store rest)

-- the store that egress begins with: `egress_port` is the port that was chosen
abbrev pub before_egress : Plane → Contents → Contents
before_egress plane store = assigned_if plane.config.program.standard_metadata.egress_port (egress_spec plane store) store

-- a packet that goes through egress, with the store that it begins with and what was hit before
abbrev pub through_egress : Plane → ℕ → List ℕ → Option Sample → Contents → List HitMark → Verdict
through_egress plane cpu rest sample store hits =
    left plane cpu (egress_spec plane store) rest sample (walked plane plane.config.program.egress (before_egress plane store) hits)

-- a packet behind ingress that goes to one port; one that ingress drops is dropped
abbrev pub chosen_port : Plane → ℕ → List ℕ → Option Sample → Walk → Verdict
chosen_port plane cpu rest sample walk =
    if egress_spec plane walk.store == drop_port then dropped reasons.ByPipeline sample walk.hits
    else through_egress plane cpu rest sample walk.store walk.hits

-- the store of a copy, of what ingress left: `egress_spec` is the replica's port, and `egress_rid` its instance
abbrev pub copy_store : Plane → Contents → Replica → Contents
copy_store plane store replica =
    assigned_if plane.config.program.standard_metadata.egress_rid replica.instance
    (assigned store plane.config.program.standard_metadata.egress_spec replica.egress_port)

-- what becomes of copies together: they were sent where one of them was; else their fate is the first one's
abbrev pub fate_with : Fate → Fate → Fate
fate_with first fates.Sent = fates.Sent
fate_with first (fates.Dropped reason) = first

-- a copy, and those behind it, whose hits begin with its own
abbrev pub joined : Verdict → Verdict → Verdict
joined copy others = record {
  fate = fate_with copy.fate others.fate;
  outputs = copy.outputs ++ others.outputs;
  packet_ins = copy.packet_ins ++ others.packet_ins;
  sample = others.sample;
  hits = others.hits;
}

-- a packet behind ingress that is copied: each copy begins with the store as ingress left it; where there are none it is dropped
abbrev pub copies_left : Plane → ℕ → List ℕ → Option Sample → Contents → List Replica → List HitMark → Verdict
copies_left plane cpu rest sample store [] hits = dropped reasons.ByPipeline sample hits
copies_left plane cpu rest sample store (replica ∷ replicas) hits =
    let copy : Verdict = through_egress plane cpu rest sample (copy_store plane store replica) hits in
    joined copy (copies_left plane cpu rest sample store replicas copy.hits)

-- the number of a field that the program may lack, and then 0
abbrev pub field_if : Option FieldPlace → Contents → ℕ
field_if None store = 0
field_if (Some place) store = field_read store place

-- `mcast_grp`: the id of the multicast group that was chosen, and 0 where none was
abbrev pub mcast_grp : Plane → Contents → ℕ
mcast_grp plane store = field_if plane.config.program.standard_metadata.mcast_grp store

-- the replicas of the group that was chosen; one that is absent has none
abbrev pub replicas_of : Plane → Contents → List Replica
replicas_of plane store = replicas_in (multicast_of (mcast_grp plane store) plane.multicast)

-- a packet behind ingress, with its sample: it is copied where a multicast group was chosen, whatever its port is; else it goes to its port
abbrev pub behind_sample : Plane → ℕ → List ℕ → Option Sample → Walk → Verdict
behind_sample plane cpu rest sample walk =
    if mcast_grp plane walk.store == 0 then chosen_port plane cpu rest sample walk
    else copies_left plane cpu rest sample walk.store (replicas_of plane walk.store) walk.hits

-- a packet behind ingress: the list that was named last gives a sample of the fields as they are
abbrev pub behind_ingress : Plane → ℕ → List ℕ → Walk → Verdict
behind_ingress plane cpu rest walk = behind_sample plane cpu rest (sample_of plane walk.store walk.learned) walk

-- a packet behind the parser: checksums are verified, and ingress is walked
abbrev pub behind_parser : Plane → ℕ → Parsed → Verdict
behind_parser plane cpu parsed = behind_ingress plane cpu parsed.rest (walked plane plane.config.program.ingress (sums_verified plane.config.program parsed.store) [])

-- What becomes of a packet that enters at a port, in a plane; a packet to a controller leaves at the CPU port. Without a plane it is dropped.
unfoldable pub meaning : Option Plane → ℕ → ℕ → List ℕ → Verdict
meaning None cpu port packet = dropped reasons.WithoutPipeline None []
meaning (Some plane) cpu port packet = behind_parser plane cpu (parse plane.config.program (bits packet) (entering plane.config.program port (length packet)))
