-- How often a packet of a run is counted (this project's profile).
use Rattle.std.specs.Prelude.{ℕ, ◌≤◌, List, length, Some, IfSome}
use Rattle.std.specs.List.{AllByRecursion}
use Rattle.p4_types.specs.declared.events.Start.{Start}
use Rattle.p4_types.specs.declared.tape.TapeRecord.{TapeRecord}
use Rattle.packet_spec.specs.Meaning.{meaning}
use Rattle.plane_spec.specs.Config.{Event, IsValidConfig}
use Rattle.plane_spec.specs.Legal.{Legal}
use Rattle.plane_spec.specs.PlaneLaws.{HasFewReplicas}
use Rattle.plane_spec.specs.Planes.{Plane, opened, after}
use Rattle.run_counts.specs.Totals.{AreWithin}
use Rattle.run_spec.specs.Report.{IsRun}
use Rattle.run_spec.specs.Tape.{IsRecord}
use Rattle.switch_spec.specs.Counts.{Carried}
use Rattle.switch_spec.specs.History.{Made}

-- the plane is one of a valid configuration
abbrev pub HasValid : Plane → Type 0
HasValid plane = IsValidConfig plane.config

-- After any events that may follow one another the active plane is one of a valid configuration.
abbrev pub ConfigsStayValid : Type 0
ConfigsStayValid = (start : Start) (list : List Event) (n : ℕ) → Legal (opened start) list → IfSome (after start list n).active HasValid

-- In such a plane, in which no multicast group has more than 32 replicas, a packet hits at most 274,560 times: an entry and 64
-- cells in each of 128 tables, in ingress and in the egress of 32 copies.
abbrev pub HitsAreFew : Type 0
HitsAreFew = (plane : Plane) (cpu port : ℕ) (packet : List ℕ) → HasValid plane → HasFewReplicas plane → length (meaning (Some plane) cpu port packet).hits ≤ 274560

-- The packets of a run of a tape are within the limits of words of 64 bits.
abbrev pub RunsAreWithin : Type 0
RunsAreWithin = (start : Start) (tape : List TapeRecord) (journal : List Made) (records : List Carried)
    → IsRun start tape journal records → AllByRecursion IsRecord tape → length tape ≤ 48000000 → AreWithin records
