-- What the calls of a lane saw of the counters, beside what its own packets counted (this project's profile).
use Rattle.std.specs.Prelude.{◌≡◌, List, [], ◌∷◌, map, Option, Some, None, is_some}
use Rattle.std.specs.List.{filter_map, AllByRecursion}
use Rattle.ctl_lock.specs.declared.signed.Signed.{Signed}
use Rattle.lane_work.specs.Work.{Work}
use Rattle.snap_worker.specs.Sums.{AreSums, NoMore, SeatLooks}
use Rattle.switch_spec.specs.Counts.{Figures, Carried, no_figures, counted}

-- The lane's seat looked at counters, and nothing else of its work changed.
pub record Looks (before after : Work) : Type 0 where
  pub others : after ≡ record before { seat = after.seat }
  pub seat : SeatLooks before.seat after.seat

-- a call that was made, the sums behind the figures that it saw, and the packet that it made enter
pub record Turn : Type 0 where
  pub signed : Signed
  pub sums : Figures
  pub packet : Option Carried

-- the sums with what a packet has counted
abbrev pub behind_packet : Figures → Option Carried → Figures
behind_packet g None = g
behind_packet g (Some packet) = counted g packet

-- Each call saw at least what the one before it saw with what the lane's packets have counted since, and in the end at least that is known.
abbrev pub Rising : Figures → List Turn → Figures → Type 0
Rising floor [] last = NoMore floor last
Rising floor (turn ∷ turns) last = NoMore floor turn.sums × AreSums turn.signed.figures turn.sums × Rising (behind_packet turn.sums turn.packet) turns last

-- a packet is in a turn just where the turn's call made one enter
abbrev pub HasOwnPacket : Turn → Type 0
HasOwnPacket turn = is_some turn.packet ≡ is_some turn.signed.entry.reply.packet

-- The calls that a lane made and the packets that they made enter, in their turns; this is known of the counters at last.
pub record IsReading (made : List Signed) (packets : List Carried) (last : Figures) : Type 0 where
  pub turns : List Turn
  pub own : AllByRecursion HasOwnPacket turns
  pub made_are : map (λ (turn : Turn). turn.signed) turns ≡ made
  pub packets_are : filter_map (λ (turn : Turn). turn.packet) turns ≡ packets
  pub rising : Rising no_figures turns last
