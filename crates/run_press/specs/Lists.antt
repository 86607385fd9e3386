-- The rule of a list of events in which any may follow, and what a step of its word tells.
use Rattle.std.specs.Prelude.{ℕ, List}
use Rattle.logbook.specs.Pages.{Cell, Step, View}
use Rattle.plane_spec.specs.Config.{Event}
use Rattle.event_log.specs.Ruling as ruling

-- the state of a list that has none
abbrev pub Any : Type 0
Any = Unit {0}

-- the word is the length of the list
abbrev pub IsKept : List Cell → List Event → Type 0
IsKept = ruling.IsKept {S = Any} {E = Event} tt (λ s event. s) (λ s event. Unit {0})

-- the event was added to all that had been seen; or the list had more, and was seen
abbrev pub Added : Step Event → View Event ℕ → ℕ → View Event ℕ → Type 0
Added = ruling.Added {S = Any} {E = Event} tt (λ s event. s) (λ s event. Unit {0})
