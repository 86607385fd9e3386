-- What a worker knows, and what it makes of a packet.
use Rattle.std.specs.Prelude.{ℕ, ◌+◌, ◌-◌, ◌^◌, min, false, List, [], Option, Some, None}
use Rattle.counter_bank.specs.Account.{Account}
use Rattle.event_log.specs.Lists.{no_list}
use Rattle.packet_spec.specs.Meaning.{Verdict, meaning}
use Rattle.plane_spec.specs.Planes.{ControlState, opened, applied}
use Rattle.pub_snap.specs.Beginnings.{Beginning}
use Rattle.pub_snap.specs.Snapshots.{Sight}
use Rattle.snap_worker.specs.declared.place.Place.{Place}
use Rattle.snap_worker.specs.declared.place.Place.TheVariants as places

-- What was seen or learnt of the list, and how often a snapshot was refused. Of the image that was seen last: its steps, and who gets packets to a controller.
pub record Watched : Type 0 where
  pub told : Beginning
  pub refusals : ℕ
  pub steps : ℕ
  pub receiver : Option ℕ

-- the same, with the seat by which it counts
pub record Working : Type 0 where
  pub told : Beginning
  pub refusals : ℕ
  pub steps : ℕ
  pub receiver : Option ℕ
  pub seat : Account

-- what a viewer knows, wherever it is
abbrev pub sight_in : Place → Sight
sight_in (places.Out sight) = sight
sight_in (places.At stay) = record { told = stay.view.told; refusals = stay.view.refusals }

-- the same of one that may be nowhere, where it knows nothing
abbrev pub sight_of : Option Place → Sight
sight_of None = record { told = record { list = no_list; start = record { device = 0; cpu = 0; rows = 0; slots = 0; bridge = false }; events = [] }; refusals = 0 }
sight_of (Some place) = sight_in place

-- a worker that has run no packet yet
abbrev pub new_worker : Beginning → ℕ → Account → Working
new_worker told refusals seat = record { told = told; refusals = refusals; steps = 0; receiver = None; seat = seat }

-- one refusal more; the count stands still at 2^64 - 1
abbrev pub one_more : ℕ → ℕ
one_more refusals = min (refusals + 1) (2 ^ 64 - 1)

-- the control state after the events that were told
abbrev pub state_after : Beginning → ControlState
state_after told = applied (opened told.start) told.events

-- what becomes of a packet that enters at a port in the active plane of a control state
abbrev pub verdict_in : ControlState → ℕ → List ℕ → Verdict
verdict_in c port packet = meaning c.active c.cpu port packet
