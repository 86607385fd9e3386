-- A packet in a datagram.
use Rattle.std.specs.Prelude.{◌≡◌, ℕ, ◌^◌, ◌<◌, ◌≤◌, List, ◌++◌, length}
use Rattle.std.specs.Int.{w16, to_be_bytes}
use Rattle.sw_edge.specs.declared.TheConstants.{MAX_PACKET, MAX_PORT}

-- the datagram of a packet: its port in two bytes, the more significant one first, and then the packet's bytes
abbrev pub datagram_of : ℕ → List ℕ → List ℕ
datagram_of port packet = to_be_bytes w16 port ++ packet

-- the datagram is that of a packet which may enter the switch at this port
pub record Bears (datagram : List ℕ) (port : ℕ) (packet : List ℕ) : Type 0 where
  pub spelled : datagram ≡ datagram_of port packet
  pub port_fits : port ≤ MAX_PORT
  pub packet_fits : length packet ≤ MAX_PACKET

-- the datagram is that of no packet which may enter
abbrev pub BearsNone : List ℕ → Type 0
BearsNone datagram = (port : ℕ) (packet : List ℕ) → ¬ Bears datagram port packet

-- what is written for a packet is read as that packet and as no other
abbrev pub OneReading : Type 0
OneReading = (port other : ℕ) (packet rest : List ℕ) → port < 2 ^ 16 → other < 2 ^ 16 → datagram_of port packet ≡ datagram_of other rest → (port ≡ other) × (packet ≡ rest)
