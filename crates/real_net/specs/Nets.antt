-- What a net over a network holds, and what its calls come to.
use Rattle.std.specs.Prelude.{◌≡◌, ℕ, ◌+◌, ◌<◌, ◌⊎◌, Option, None, Some, Result, Ok, Err}
use Rattle.std.specs.declared.io.Error.{Error}
use Rattle.sw_edge.specs.declared.answers.Sent.{Sent}
use Rattle.sw_edge.specs.declared.answers.Sent.TheVariants as sent
use Rattle.sw_edge.specs.declared.answers.Accepted.{Accepted}
use Rattle.sw_edge.specs.declared.answers.Accepted.TheVariants as accepted
use Rattle.sw_edge.specs.declared.answers.Opened.{Opened}
use Rattle.sw_edge.specs.declared.answers.Opened.TheVariants as opened
use Rattle.real_net.specs.declared.attempts.Trouble.{Trouble}
use Rattle.real_net.specs.declared.attempts.Trouble.TheVariants as trouble
use Rattle.real_net.specs.Attempts.{IsTriedBy}
use Rattle.real_net.specs.Links.{HeldLink}
use Rattle.real_net.specs.Packets.{HeldPorts}

-- the socket of the packets, and the port to which outputs are sent
pub record Bound (D : Type 0) : Type 0 where
  pub socket : D
  pub outputs : ℕ

-- a net: its network, what it listens at, and how often it failed and found nothing
pub record HeldNet (N L D : Type 0) : Type 0 where
  pub network : N
  pub listener : Option L
  pub packets : Option (Bound D)
  pub faults : ℕ
  pub quiets : ℕ

-- packets come in by a socket at their port, and go out to the next port; there are none at port 0
abbrev pub Binds : {D : Type 0} → (ℕ → Result D Error → Type 0) → ℕ → Option (Bound D) → Type 0
Binds binds port None = port ≡ 0
Binds binds port (Some bound) = (0 < port) × (port + 1 < 65536) × (bound.outputs ≡ port + 1) × binds port (Ok bound.socket)

-- the network gave no socket at the port of packets, or there is no port above it
abbrev pub BindsNot : {D : Type 0} → (ℕ → Result D Error → Type 0) → ℕ → Type 0
BindsNot binds port = (port ≡ 65535) ⊎ ((0 < port) × ((e : Error) × binds port (Err e)))

-- the net listens at both ports, or one of them was refused and it is as it was
abbrev pub Listens : {N L D : Type 0} → (ℕ → N → Result L Error → Type 0) → (ℕ → N → Result D Error → Type 0) → ℕ → ℕ → HeldNet N L D → HeldNet N L D → Sent → Type 0
Listens {N} {L} {D} listens binds control packets old new sent.All =
    ((listener : L) × (new.listener ≡ Some listener) × listens control old.network (Ok listener))
    × Binds (λ port. binds port old.network) packets new.packets
Listens listens binds control packets old new sent.Failed =
    (new.listener ≡ old.listener) × (new.packets ≡ old.packets)
    × (((e : Error) × listens control old.network (Err e)) ⊎ BindsNot (λ port. binds port old.network) packets)

-- a link over the stream that the listener gave, or none for now where the wait was too long; all else is a fault
abbrev pub LinkTells : {S : Type 0} → Result S Trouble → Accepted (HeldLink S) → Type 0
LinkTells (Ok stream) told = told ≡ accepted.Link (record { stream = stream; faults = 0; quiets = 0; ends = 0 })
LinkTells (Err trouble.CutShort) told = told ≡ accepted.Failed
LinkTells (Err trouble.TimedOut) told = told ≡ accepted.Quiet
LinkTells (Err trouble.Fault) told = told ≡ accepted.Failed

-- the answer of an accept is that of the listener's tries; without a listener it fails
abbrev pub AcceptTells : {L S : Type 0} → (L → Result S Error → L → Type 0) → ℕ → Option L → Option L → Accepted (HeldLink S) → Type 0
AcceptTells accepts most None new told = (new ≡ None) × (told ≡ accepted.Failed)
AcceptTells accepts most (Some listener) None told = ⊥
AcceptTells {L} {S} accepts most (Some listener) (Some later) told =
    (answer : Result S Trouble) × IsTriedBy accepts most listener later answer × LinkTells answer told

-- ports are over another handle of the socket and send to the same port; there are none without a socket, and where no handle was given
abbrev pub PortsTell : {D : Type 0} → (D → Result D Error → Type 0) → Option (Bound D) → Opened (HeldPorts D) → Type 0
PortsTell handles None told = told ≡ opened.Failed
PortsTell handles (Some bound) (opened.Ports ports) =
    handles bound.socket (Ok ports.socket) × (ports ≡ record { socket = ports.socket; outputs = bound.outputs; faults = 0; quiets = 0 })
PortsTell handles (Some bound) opened.Failed = (e : Error) × handles bound.socket (Err e)
