-- How records stand on a tape, and where (this project's profile).
use Rattle.std.specs.Prelude.{◌≡◌, ℕ, ◌+◌, ◌<◌, ◌≤◌, ◌^◌, ◌==◌, Bool, true, false, if◌then◌else◌, List, [], ◌∷◌, ◌++◌, length, codes}
use Rattle.std.specs.List.{flat_map}
use Rattle.std.specs.Int.{w16, w32, to_be_bytes}
use Rattle.p4_types.specs.declared.calls.Method.{Method}
use Rattle.p4_types.specs.declared.calls.Method.TheVariants as methods
use Rattle.p4_types.specs.declared.tape.TapeRecord.{TapeRecord}
use Rattle.p4_types.specs.declared.tape.TapeRecord.TheVariants.{Call, Packet, Leave, Meet}

-- a record of this kind and lane: both, the payload's length, and the payload
abbrev pub framed : ℕ → ℕ → List ℕ → List ℕ
framed kind lane payload = kind ∷ to_be_bytes w16 lane ++ to_be_bytes w32 (length payload) ++ payload

-- the number of a method on a tape
abbrev pub method_number : Method → ℕ
method_number methods.Write = 1
method_number methods.Read = 2
method_number methods.SetForwardingPipelineConfig = 3
method_number methods.GetForwardingPipelineConfig = 4
method_number methods.StreamChannel = 5
method_number methods.Capabilities = 6

-- how a record stands on a tape
abbrev pub record_bytes : TapeRecord → List ℕ
record_bytes (Call lane method message) = framed 1 lane (method_number method ∷ message)
record_bytes (Packet lane port packet) = framed 2 lane (to_be_bytes w16 port ++ packet)
record_bytes (Leave lane) = framed 4 lane []
record_bytes (Meet lane controller call) = framed 5 lane (to_be_bytes w16 controller ++ to_be_bytes w32 call)

-- what is true of the record of a call: one of 32 controllers' lanes, a message of at most 8 MiB
pub record IsCall (lane : ℕ) (message : List ℕ) : Type 0 where
  pub of_controller : lane < 32
  pub size : length message ≤ 8388608

-- what is true of the record of a packet: one of 16 workers' lanes, a port, at most 9,216 bytes
pub record IsPacket (lane port : ℕ) (packet : List ℕ) : Type 0 where
  pub of_worker : lane < 16
  pub in_ports : port ≤ 510
  pub size : length packet ≤ 9216

-- what is true of the record of a stream's end: one of 32 controllers' lanes
pub record IsLeave (lane : ℕ) : Type 0 where
  pub of_controller : lane < 32

-- what is true of the record of a meet: one of 16 workers' lanes, one of 32 controllers' lanes, a call's number from 1, in 32 bits
pub record IsMeet (lane controller call : ℕ) : Type 0 where
  pub of_worker : lane < 16
  pub of_controller : controller < 32
  pub from_one : 1 ≤ call
  pub in_word : call < 2 ^ 32

-- what the records of a tape so far say of its lanes: how many calls each controller's lane has made, and whether its stream has ended
pub record Lanes : Type 0 where
  pub calls : ℕ → ℕ
  pub has_left : ℕ → Bool

-- before the first record
abbrev pub no_lanes : Lanes
no_lanes = record { calls = λ lane. 0; has_left = λ lane. false }

-- the end of a stream is a call too
abbrev pub with_call : ℕ → Lanes → Lanes
with_call lane lanes = record lanes { calls = λ other. if other == lane then lanes.calls other + 1 else lanes.calls other }

-- the lanes behind a record
abbrev pub lanes_after : Lanes → TapeRecord → Lanes
lanes_after lanes (Call lane method message) = with_call lane lanes
lanes_after lanes (Packet lane port packet) = lanes
lanes_after lanes (Meet lane controller call) = lanes
lanes_after lanes (Leave lane) = record (with_call lane lanes) { has_left = λ other. if other == lane then true else lanes.has_left other }

-- what is true of a record by itself
abbrev pub IsRecord : TapeRecord → Type 0
IsRecord (Call lane method message) = IsCall lane message
IsRecord (Packet lane port packet) = IsPacket lane port packet
IsRecord (Leave lane) = IsLeave lane
IsRecord (Meet lane controller call) = IsMeet lane controller call

-- a meet names a call that was made, by a record that stands earlier on the tape
abbrev pub HasMade : Lanes → TapeRecord → Type 0
HasMade lanes (Call lane method message) = Unit {0}
HasMade lanes (Packet lane port packet) = Unit {0}
HasMade lanes (Leave lane) = Unit {0}
HasMade lanes (Meet lane controller call) = call ≤ lanes.calls controller

-- the record may stand where the lanes are so
abbrev pub MayStand : Lanes → TapeRecord → Type 0
MayStand lanes item = IsRecord item × HasMade lanes item

-- each meet names a call that was made before it
abbrev pub NameMade : Lanes → List TapeRecord → Type 0
NameMade lanes [] = Unit {0}
NameMade lanes (item ∷ items) = HasMade lanes item × NameMade (lanes_after lanes item) items

-- the bytes with which each tape begins
abbrev pub magic : List ℕ
magic = codes "P4TAPE1\n"

-- the record that ends a tape
abbrev pub end_bytes : List ℕ
end_bytes = framed 0 0 []

-- the bytes of the tape of these records
abbrev pub tape_bytes : List TapeRecord → List ℕ
tape_bytes records = magic ++ (flat_map record_bytes records ++ end_bytes)
