-- What ports over a socket of datagrams tell, and what tries of the socket's calls come to.
use Rattle.std.specs.Prelude.{◌≡◌, ◌↔◌, ℕ, List, take, length, Result, Ok, Err}
use Rattle.std.specs.declared.io.Error.{Error}
use Rattle.sw_edge.specs.declared.answers.Taken.{Taken}
use Rattle.sw_edge.specs.declared.answers.Taken.TheVariants as taken
use Rattle.sw_edge.specs.declared.answers.Sent.{Sent}
use Rattle.sw_edge.specs.declared.answers.Sent.TheVariants as sent
use Rattle.real_net.specs.declared.attempts.Trouble.{Trouble}
use Rattle.real_net.specs.declared.attempts.Trouble.TheVariants as trouble
use Rattle.real_net.specs.Attempts.{IsTriedBy}
use Rattle.real_net.specs.Datagrams.{Bears, BearsNone}

-- ports: their socket, the port to which outputs are sent, and how often they failed and found nothing
pub record HeldPorts (D : Type 0) : Type 0 where
  pub socket : D
  pub outputs : ℕ
  pub faults : ℕ
  pub quiets : ℕ

-- a datagram that bears a packet is that packet, any other is quiet, and so is a wait that was too long; all else is a fault
abbrev pub TakeTells : Result (List ℕ) Trouble → Taken → List ℕ → Type 0
TakeTells (Ok datagram) (taken.Packet port len) buf = Bears datagram port (take len buf)
TakeTells (Ok datagram) taken.Quiet buf = BearsNone datagram
TakeTells (Ok datagram) taken.End buf = ⊥
TakeTells (Ok datagram) taken.Failed buf = ⊥
TakeTells (Err trouble.CutShort) told buf = told ≡ taken.Failed
TakeTells (Err trouble.TimedOut) told buf = told ≡ taken.Quiet
TakeTells (Err trouble.Fault) told buf = told ≡ taken.Failed

-- the answer of a take is that of the datagram that came
pub record IsTakenBy {D : Type 0} (receives : D → Result (List ℕ) Error → D → Type 0) (most : ℕ) (old new : D) (buf : List ℕ) (told : Taken) : Type 0 where
  pub answer : Result (List ℕ) Trouble
  pub tried : IsTriedBy receives most old new answer
  pub tells : TakeTells answer told buf

-- the answer of a put is whether the packet's datagram was sent whole
pub record IsPutBy {D : Type 0} (sends : D → Result ℕ Error → D → Type 0) (most : ℕ) (old new : D) (datagram : List ℕ) (told : Sent) : Type 0 where
  pub answer : Result ℕ Trouble
  pub tried : IsTriedBy sends most old new answer
  pub told_is : (told ≡ sent.All) ↔ (answer ≡ Ok (length datagram))
