-- What lanes made and carried: the calls of a journal, and the records of packets beside it (this project's profile).
use Rattle.std.specs.Prelude.{◌≡◌, ℕ, ◌+◌, ◌≤◌, ◌==◌, Bool, false, List, [], ◌∷◌, ◌++◌, length, map, get_or, filter, count_by, Option, option_map, is_some}
use Rattle.std.specs.List.{filter_map, zip, AllByRecursion}
use Rattle.p4_types.specs.declared.events.Start.{Start}
use Rattle.p4_types.specs.declared.records.Record.{Record}
use Rattle.p4_types.specs.declared.tape.Who.{Who}
use Rattle.p4_types.specs.declared.tape.Who.TheVariants as who
use Rattle.plane_spec.specs.Config.{Event}
use Rattle.plane_spec.specs.Planes.{ControlState, opened, applied, after}
use Rattle.switch_spec.specs.Counts.{Arrival, Carried}
use Rattle.switch_spec.specs.History.{Made, published, steps_of}
use Rattle.switch_spec.specs.Meaning.{carried}

-- the same lane
abbrev pub is_who : Who → Who → Bool
is_who (who.Controller a) (who.Controller b) = a == b
is_who (who.Controller a) (who.Worker b) = false
is_who (who.Worker a) (who.Controller b) = false
is_who (who.Worker a) (who.Worker b) = a == b

-- the records of one lane
abbrev pub records_of : Who → List Record → List Record
records_of lane records = filter (λ r. is_who lane r.who) records

-- the calls that a lane made
abbrev pub made_on : ℕ → List Made → List Made
made_on lane journal = filter (λ made. lane == made.entry.lane) journal

-- the steps through a controller's call of this number, from 1; none where it did not make so many
abbrev pub steps_through : ℕ → ℕ → List Made → ℕ
steps_through controller call journal = get_or (0 ∷ map (λ made. made.entry.reply.steps) (made_on controller journal)) call 0

-- the packets that a lane carried
abbrev pub carried_on : Who → List Carried → List Carried
carried_on lane records = filter (λ carried. is_who lane carried.outcome.who) records

-- a packet of a controller enters at the CPU port
abbrev pub from_cpu : Start → List ℕ → Arrival
from_cpu start packet = (start.cpu, packet)

-- the packet that a call made enter
abbrev pub packet_out : Start → Made → Option Arrival
packet_out start made = option_map (from_cpu start) made.entry.reply.packet

-- those of a lane's calls
abbrev pub packets_out : Start → ℕ → List Made → List Arrival
packets_out start lane journal = filter_map (packet_out start) (made_on lane journal)

-- The outcome is the meaning of the packet after that many steps of the list.
pub record Fits (start : Start) (list : List Event) (packet : Carried) : Type 0 where
  pub in_list : packet.outcome.steps ≤ length (steps_of list)
  pub meant : let r = packet.outcome in
      r ≡ carried r.who r.index r.steps (after start list r.steps) packet.arrival.0 packet.arrival.1

-- a lane's packets are numbered 1, 2, 3 and on, and none is after fewer steps than one before it
abbrev pub InTurn : List Record → List Record → Type 0
InTurn before [] = Unit {0}
InTurn before (r ∷ later) =
    (r.index ≡ count_by (λ e. is_who r.who e.who) before + 1) × AllByRecursion (λ e. e.steps ≤ r.steps) (records_of r.who before) × InTurn (before ++ r ∷ []) later

-- the calls of a lane that made a packet enter
abbrev pub made_with_packet : ℕ → List Made → List Made
made_with_packet lane journal = filter (λ made. is_some made.entry.reply.packet) (made_on lane journal)

-- a packet of a controller is after at least the steps through the call that made it enter
abbrev pub Covers : ℕ → List Made → List Carried → Type 0
Covers lane journal records =
    AllByRecursion (λ x. x.1.entry.reply.steps ≤ x.0.outcome.steps) (zip (carried_on (who.Controller lane) records) (made_with_packet lane journal))

-- the control state at the end of a run
abbrev pub final : Start → List Made → ControlState
final start journal = applied (opened start) (published start journal)
