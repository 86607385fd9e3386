-- The copies of a packet that were made before the last one.
use Rattle.std.specs.Prelude.{ℕ, ◌+◌, ◌*◌, ◌≤◌, List, [], ◌++◌, All, length, map, Option, Some, None}
use Rattle.std.specs.List.{slice_range}
use Rattle.p4_types.specs.declared.messages.PacketIn.{PacketIn}
use Rattle.p4_types.specs.declared.records.Fate.{Fate}
use Rattle.p4_types.specs.declared.records.Output.{Output}
use Rattle.packet_spec.specs.Meaning.{Verdict, fate_with}
use Rattle.pkt_worker.specs.declared.copies.OutputPart.{OutputPart}
use Rattle.pkt_worker.specs.declared.copies.PacketInPart.{PacketInPart}
use Rattle.pkt_worker.specs.declared.ending.Datum.{Datum}
use Rattle.pkt_worker.specs.Verdicts.{carried, bytes_room, numbers_room}

-- so many copies: what became of them together, if there are any, and what they send
pub record CopiesMade : Type 0 where
  pub count : ℕ
  pub fate : Option Fate
  pub outputs : List Output
  pub packet_ins : List PacketIn

-- none yet
abbrev pub no_copies : CopiesMade
no_copies = record { count = 0; fate = None; outputs = []; packet_ins = [] }

-- what becomes of a packet with the copies before
abbrev pub fate_behind : Option Fate → Fate → Fate
fate_behind None fate = fate
fate_behind (Some before) fate = fate_with before fate

-- with one copy more
abbrev pub with_copy : CopiesMade → Verdict → CopiesMade
with_copy before copy = record {
  count = before.count + 1;
  fate = Some (fate_behind before.fate copy.fate);
  outputs = before.outputs ++ copy.outputs;
  packet_ins = before.packet_ins ++ copy.packet_ins;
}

-- the verdict on all copies, of which this is the last
abbrev pub with_last : CopiesMade → Verdict → Verdict
with_last before last = record {
  fate = fate_behind before.fate last.fate;
  outputs = before.outputs ++ last.outputs;
  packet_ins = before.packet_ins ++ last.packet_ins;
  sample = last.sample;
  hits = last.hits;
}

-- how many copies there is room for
abbrev pub copies_room : ℕ
copies_room = 31

-- what leaves, of these bytes
abbrev pub output_of : List ℕ → OutputPart → Output
output_of bytes part = record { port = part.port; bytes = slice_range bytes part.start part.end }

-- what goes to a controller, of these bytes and numbers
abbrev pub packet_in_of : List ℕ → List Datum → PacketInPart → PacketIn
packet_in_of bytes metadata part = record { payload = slice_range bytes part.start part.end; metadata = map carried (slice_range metadata part.first part.last) }

-- the place of a copy's bytes is within so many
abbrev pub IsOutputWithin : ℕ → OutputPart → Type 0
IsOutputWithin bytes part = (part.start ≤ part.end) × (part.end ≤ bytes)

-- the same of a copy to a controller, and of the place of its numbers
abbrev pub IsPacketInWithin : ℕ → ℕ → PacketInPart → Type 0
IsPacketInWithin bytes metadata part = (part.start ≤ part.end) × (part.end ≤ bytes) × (part.first ≤ part.last) × (part.last ≤ metadata)

-- so many copies are kept in their places: there are no more parts, bytes and numbers than so many have
pub record AreKept (count : ℕ) (outputs : List OutputPart) (packet_ins : List PacketInPart) (bytes metadata : ℕ) : Type 0 where
  pub few : count ≤ copies_room
  pub few_outputs : length outputs ≤ count
  pub few_packet_ins : length packet_ins ≤ count
  pub few_bytes : bytes ≤ bytes_room * count
  pub few_metadata : metadata ≤ numbers_room * count
  pub outputs_within : All (IsOutputWithin bytes) outputs
  pub packet_ins_within : All (IsPacketInWithin bytes metadata) packet_ins

-- there is room for all
pub record HaveRoom (outputs packet_ins bytes metadata : ℕ) : Type 0 where
  pub outputs_room : copies_room ≤ outputs
  pub packet_ins_room : copies_room ≤ packet_ins
  pub bytes_room_for_all : bytes_room * copies_room ≤ bytes
  pub metadata_room : numbers_room * copies_room ≤ metadata
