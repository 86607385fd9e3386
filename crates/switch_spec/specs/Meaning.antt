-- The record of a packet (P4Runtime 1.3.0, "Packet I/O"; the fields of a record: this project's profile).
use Rattle.std.specs.Prelude.{ℕ, List, map, Option, option_map}
use Rattle.p4_types.specs.declared.messages.PacketIn.{PacketIn}
use Rattle.p4_types.specs.declared.records.CpuMessage.{CpuMessage}
use Rattle.p4_types.specs.declared.records.Record.{Record}
use Rattle.p4_types.specs.declared.tape.Who.{Who}
use Rattle.packet_spec.specs.Meaning.{Verdict, meaning}
use Rattle.plane_spec.specs.Planes.{ControlState, primary}

-- a packet to a controller's lane, or to none
abbrev pub to_lane : Option ℕ → PacketIn → CpuMessage
to_lane lane packet = record { lane = lane; packet = packet }

-- to whom packets for a controller go: to the primary of role 0, if there is one
abbrev pub receiver : ControlState → Option ℕ
receiver c = option_map (λ p. p.caller) (primary c 0)

-- the record of a lane's packet after n steps, of which packets to a controller go to this lane or to none
abbrev pub record_of : Who → ℕ → ℕ → Option ℕ → Verdict → Record
record_of lane index n receiver v = record {
  who = lane;
  index = index;
  steps = n;
  fate = v.fate;
  outputs = v.outputs;
  cpu = map (to_lane receiver) v.packet_ins;
  digest = v.sample;
  hits = v.hits;
}

-- the record of a lane's packet that enters at a port in a control state, after n steps: what becomes of it in the active plane
abbrev pub carried : Who → ℕ → ℕ → ControlState → ℕ → List ℕ → Record
carried lane index n c port packet = record_of lane index n (receiver c) (meaning c.active c.cpu port packet)
