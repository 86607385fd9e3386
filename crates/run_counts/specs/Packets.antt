-- How long the packets of a run are, and how many there are (this project's profile).
use Rattle.std.specs.Prelude.{ℕ, ◌≤◌, List, length}
use Rattle.std.specs.List.{filter_map, AllByRecursion}
use Rattle.p4_types.specs.declared.events.Start.{Start}
use Rattle.p4_types.specs.declared.tape.TapeRecord.{TapeRecord}
use Rattle.plane_spec.specs.Planes.{opened}
use Rattle.run_spec.specs.Report.{packet_on, calls_on, IsRun}
use Rattle.run_spec.specs.Tape.{IsRecord}
use Rattle.switch_spec.specs.Carrying.{made_on, packets_out}
use Rattle.switch_spec.specs.Counts.{Arrival, Carried}
use Rattle.switch_spec.specs.History.{Made, History}

-- a packet enters with at most 9,216 bytes
abbrev pub IsShort : Arrival → Type 0
IsShort arrival = length arrival.1 ≤ 9216

-- the packets that a tape has for a worker's lane
abbrev pub WorkersPacketsAreShort : Type 0
WorkersPacketsAreShort = (tape : List TapeRecord) (lane : ℕ) → AllByRecursion IsRecord tape → AllByRecursion IsShort (filter_map (packet_on lane) tape)

-- the packets that the calls of a controller's lane make enter
abbrev pub ControllersPacketsAreShort : Type 0
ControllersPacketsAreShort = (start : Start) (journal : List Made) (lane : ℕ) → History (opened start) 0 journal → AllByRecursion IsShort (packets_out start lane journal)

-- the packets of all lanes
abbrev pub PacketsAreShort : Type 0
PacketsAreShort = (start : Start) (tape : List TapeRecord) (journal : List Made) (records : List Carried)
    → IsRun start tape journal records → AllByRecursion IsRecord tape → AllByRecursion (λ carried. IsShort carried.arrival) records

-- a worker's lane has at most as many packets as its tape has records
abbrev pub WorkersPacketsAreFew : Type 0
WorkersPacketsAreFew = (tape : List TapeRecord) (lane : ℕ) → length (filter_map (packet_on lane) tape) ≤ length tape

-- a controller's lane has at most as many packets as it made calls
abbrev pub ControllersPacketsAreFew : Type 0
ControllersPacketsAreFew = (start : Start) (journal : List Made) (lane : ℕ) → length (packets_out start lane journal) ≤ length (made_on lane journal)

-- a controller's lane has at most as many calls as its tape has records
abbrev pub CallsAreFew : Type 0
CallsAreFew = (tape : List TapeRecord) (journal : List Made) (lane : ℕ) → length (calls_on lane tape journal) ≤ length tape

-- all lanes together have at most as many packets as their tape has records
abbrev pub PacketsAreFew : Type 0
PacketsAreFew = (start : Start) (tape : List TapeRecord) (journal : List Made) (records : List Carried) → IsRun start tape journal records → length records ≤ length tape
