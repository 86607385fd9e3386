-- Packets that a worker of a desk takes from ports, and what it puts there (this project's profile).
use Rattle.std.specs.Prelude.{◌≡◌, ℕ, List, [], ◌∷◌, map, Option, Some, None}
use Rattle.std.specs.List.{flat_map}
use Rattle.live_desk.specs.Passing.{HasRun}
use Rattle.p4_types.specs.declared.records.Output.{Output}
use Rattle.packet_spec.specs.Meaning.{Verdict}
use Rattle.serve_run.specs.declared.ports_end.PortsEnd.{PortsEnd}
use Rattle.serve_run.specs.declared.ports_end.PortsEnd.TheVariants as ends
use Rattle.pub_snap.specs.Beginnings.{Beginning}
use Rattle.snap_worker.specs.Working.{Working, state_after, verdict_in}
use Rattle.sw_edge.specs.Told.{Appends, AppendsPrefix, Consumes}

-- a packet, behind its port
abbrev pub Bound : Type 0
Bound = ℕ × List ℕ

-- a packet that came in at a port, and the published list after which it was run
pub record Carried : Type 0 where
  pub port : ℕ
  pub bytes : List ℕ
  pub told : Beginning

-- what becomes of it
abbrev pub verdict_of : Carried → Verdict
verdict_of one = verdict_in (state_after one.told) one.port one.bytes

-- as ports give it
abbrev pub arrival : Carried → Bound
arrival one = (one.port, one.bytes)

-- an output, as ports take it
abbrev pub departure : Output → Bound
departure output = (output.port, output.bytes)

-- what a verdict makes leave
abbrev pub leaving : Verdict → List Bound
leaving verdict = map departure verdict.outputs

-- what packets make leave, packet by packet
abbrev pub departures : List Carried → List Bound
departures packets = flat_map (λ one. leaving (verdict_of one)) packets

-- a worker ran packets, one after another
abbrev pub HasCarried : Working → List Carried → Working → Type 0
HasCarried before [] after = after ≡ before
HasCarried before (one ∷ rest) after = (between : Working) × (one.told ≡ between.told) × HasRun one.port one.bytes before between (verdict_of one) × HasCarried between rest after

-- What was put of what was to leave: all, or some first of it where the ports failed. Without an end all goes on.
abbrev pub IsPut : Option PortsEnd → Option (List Bound) → Option (List Bound) → List Bound → Type 0
IsPut None before after packets = Appends before after packets
IsPut (Some ends.Closed) before after packets = Appends before after packets
IsPut (Some ends.Stopped) before after packets = Appends before after packets
IsPut (Some ends.Memory) before after packets = Appends before after packets
IsPut (Some ends.Fault) before after packets = AppendsPrefix before after packets

-- Packets were taken from ports, a worker ran them, and what they made leave was put there: all of it, up to an end.
pub record Carries (end : Option PortsEnd) (left rest sent now : Option (List Bound)) (before after : Working) : Type 0 where
  pub packets : List Carried
  pub took : Consumes left rest (map arrival packets)
  pub ran : HasCarried before packets after
  pub put : IsPut end sent now (departures packets)
