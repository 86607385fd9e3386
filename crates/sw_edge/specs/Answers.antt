-- What each answer of a call says of what is left to read and of what was sent.
use Rattle.std.specs.Prelude.{ℕ, ◌<◌, ◌≤◌, List, [], ◌∷◌, length, take, ⊤, Option}
use Rattle.sw_edge.specs.Told.{Keeps, Consumes, Appends, AppendsPrefix, Ends}
use Rattle.sw_edge.specs.declared.TheConstants.{MAX_PACKET, MAX_PORT}
use Rattle.sw_edge.specs.declared.answers.Got.{Got}
use Rattle.sw_edge.specs.declared.answers.Got.TheVariants as got
use Rattle.sw_edge.specs.declared.answers.Pulled.{Pulled}
use Rattle.sw_edge.specs.declared.answers.Pulled.TheVariants as pulled
use Rattle.sw_edge.specs.declared.answers.Taken.{Taken}
use Rattle.sw_edge.specs.declared.answers.Taken.TheVariants as taken
use Rattle.sw_edge.specs.declared.answers.Sent.{Sent}
use Rattle.sw_edge.specs.declared.answers.Sent.TheVariants as sent

-- at least one byte came, and as many as the buffer has room for at most
abbrev pub Fits : Got → List ℕ → Type 0
Fits (got.Bytes n) buf = (0 < n) × (n ≤ length buf)
Fits got.End buf = ⊤
Fits got.Failed buf = ⊤

-- a read took the next bytes into the front of the buffer, or met the end, or failed and took none
abbrev pub Takes : Option (List ℕ) → Option (List ℕ) → Got → List ℕ → Type 0
Takes old new (got.Bytes n) buf = Consumes old new (take n buf)
Takes old new got.End buf = Ends old new
Takes old new got.Failed buf = Keeps old new

-- the same of a pull
abbrev pub PullFits : Pulled → List ℕ → Type 0
PullFits (pulled.Bytes n) buf = (0 < n) × (n ≤ length buf)
PullFits pulled.Quiet buf = ⊤
PullFits pulled.End buf = ⊤
PullFits pulled.Failed buf = ⊤

-- a pull took the next bytes into the front of the buffer, or met the end, or took none
abbrev pub Pulls : Option (List ℕ) → Option (List ℕ) → Pulled → List ℕ → Type 0
Pulls old new (pulled.Bytes n) buf = Consumes old new (take n buf)
Pulls old new pulled.Quiet buf = Keeps old new
Pulls old new pulled.End buf = Ends old new
Pulls old new pulled.Failed buf = Keeps old new

-- a packet came from a port of the switch and is no longer than a packet may be
abbrev pub PacketFits : Taken → List ℕ → Type 0
PacketFits (taken.Packet port len) buf = (port ≤ MAX_PORT) × (len ≤ MAX_PACKET) × (len ≤ length buf)
PacketFits taken.Quiet buf = ⊤
PacketFits taken.End buf = ⊤
PacketFits taken.Failed buf = ⊤

-- a take gave the next packet into the front of the buffer, or met the end, or took none
abbrev pub TakesPacket : Option (List (ℕ × List ℕ)) → Option (List (ℕ × List ℕ)) → Taken → List ℕ → Type 0
TakesPacket old new (taken.Packet port len) buf = Consumes old new ((port, take len buf) ∷ [])
TakesPacket old new taken.Quiet buf = Keeps old new
TakesPacket old new taken.End buf = Ends old new
TakesPacket old new taken.Failed buf = Keeps old new

-- a write sent all of the bytes, or failed and sent some first of them
abbrev pub Sends : Option (List ℕ) → Option (List ℕ) → Sent → List ℕ → Type 0
Sends old new sent.All bytes = Appends old new bytes
Sends old new sent.Failed bytes = AppendsPrefix old new bytes

-- a put sent the packet, or failed and sent nothing
abbrev pub Puts : Option (List (ℕ × List ℕ)) → Option (List (ℕ × List ℕ)) → Sent → ℕ → List ℕ → Type 0
Puts old new sent.All port packet = Appends old new ((port, packet) ∷ [])
Puts old new sent.Failed port packet = Keeps old new
