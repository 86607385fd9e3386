-- What was told of a published list.
use Rattle.std.specs.Prelude.{◌≡◌, ◌<◌, List, [], ◌∷◌, ◌++◌, length}
use mathlib.Core.List.{IsPrefix}
use Rattle.event_log.specs.Lists.{ListName, Known}
use Rattle.p4_types.specs.declared.events.Start.{Start}
use Rattle.plane_spec.specs.Config.{Event}
use Rattle.pub_snap.specs.declared.listed.Listed.{Listed}
use Rattle.pub_snap.specs.Listing.{start_of, events_of}

-- which list it is, its start, and events with which it begins
pub record Beginning : Type 0 where
  pub list : ListName
  pub start : Start
  pub events : List Event

-- the same of what the log knows
abbrev pub beginning_of : Known Listed → Beginning
beginning_of k = record { list = k.list; start = start_of k.events; events = events_of k.events }

-- a beginning that goes on with these events
abbrev pub with_events : Beginning → List Event → Beginning
with_events b events = record { list = b.list; start = b.start; events = b.events ++ events }

-- both are of one list, and the second begins with all events of the first
pub record Begins (a b : Beginning) : Type 0 where
  pub list : b.list ≡ a.list
  pub start : b.start ≡ a.start
  pub events : IsPrefix a.events b.events

-- the second begins with all events of the first, and has more
abbrev pub IsLonger : Beginning → Beginning → Type 0
IsLonger a b = Begins a b × (length a.events < length b.events)
