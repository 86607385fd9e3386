-- Verdicts by how a packet ends.
use Rattle.std.specs.Prelude.{ℕ, List, [], ◌∷◌, drop, map, Option, Some, None}
use Rattle.canon_bytes.specs.ByteString.{canon}
use Rattle.p4_types.specs.declared.messages.P4Data.TheVariants as contents
use Rattle.p4_types.specs.declared.messages.PacketIn.{PacketIn}
use Rattle.p4_types.specs.declared.messages.PacketMetadata.{PacketMetadata}
use Rattle.p4_types.specs.declared.records.Fate.{Fate}
use Rattle.p4_types.specs.declared.records.Fate.TheVariants as fates
use Rattle.p4_types.specs.declared.records.HitMark.{HitMark}
use Rattle.p4_types.specs.declared.records.Output.{Output}
use Rattle.p4_types.specs.declared.records.Sample.{Sample}
use Rattle.packet_spec.specs.Meaning.{Verdict}
use Rattle.pkt_worker.specs.declared.ending.Datum.{Datum}
use Rattle.pkt_worker.specs.declared.ending.Ending.{Ending}
use Rattle.pkt_worker.specs.declared.ending.Ending.TheVariants as endings

-- whether a packet that ends so was sent
abbrev pub fate_by : Ending → Fate
fate_by (endings.Dropped reason) = fates.Dropped reason
fate_by (endings.ToPort port) = fates.Sent
fate_by endings.ToController = fates.Sent

-- what leaves at ports of a packet with these bytes
abbrev pub outputs_by : Ending → List ℕ → List Output
outputs_by (endings.Dropped reason) bytes = []
outputs_by (endings.ToPort port) bytes = (record { port = port; bytes = bytes }) ∷ []
outputs_by endings.ToController bytes = []

-- a number that a controller's header carries, in canonical form
abbrev pub carried : Datum → PacketMetadata
carried datum = record { metadata_id = datum.id; value = canon datum.number }

-- what goes to a controller: the bytes from a place on, with what the header before them carries
abbrev pub packet_ins_by : Ending → List ℕ → ℕ → List Datum → List PacketIn
packet_ins_by (endings.Dropped reason) bytes payload metadata = []
packet_ins_by (endings.ToPort port) bytes payload metadata = []
packet_ins_by endings.ToController bytes payload metadata = (record { payload = drop payload bytes; metadata = map carried metadata }) ∷ []

-- the sample of a digest with these numbers, if there is a digest
abbrev pub sample_by : Option ℕ → List ℕ → Option Sample
sample_by None numbers = None
sample_by (Some digest) numbers = Some (record { digest = digest; content = contents.Struct (map canon numbers) })

-- a verdict by how the packet ends, what it is then, its sample and its hits
abbrev pub verdict_by : Ending → List ℕ → ℕ → List Datum → Option Sample → List HitMark → Verdict
verdict_by ending bytes payload metadata sample hits = record {
  fate = fate_by ending;
  outputs = outputs_by ending bytes;
  packet_ins = packet_ins_by ending bytes payload metadata;
  sample = sample;
  hits = hits;
}

-- how many hits there is room for: an entry and 64 cells in each of 128 tables, in ingress and in the egress of 32 copies
abbrev pub hits_room : ℕ
hits_room = 274560

-- how many bytes there is room for in what leaves
abbrev pub bytes_room : ℕ
bytes_room = 10240

-- how many numbers there is room for in a header or a sample
abbrev pub numbers_room : ℕ
numbers_room = 128

-- how many hits one walk has at most
abbrev pub walk_room : ℕ
walk_room = 8320
