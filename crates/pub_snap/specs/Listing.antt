-- The list that threads share: the start of the switch, and then events.
use Rattle.std.specs.Prelude.{◌≡◌, ℕ, false, List, [], ◌∷◌, map, Option, Some, None}
use Rattle.p4_types.specs.declared.events.Start.{Start}
use Rattle.plane_spec.specs.Config.{Event}
use Rattle.plane_spec.specs.Legal.{May, Legal}
use Rattle.plane_spec.specs.Planes.{ControlState, opened, apply}
use Rattle.pub_snap.specs.declared.listed.Listed.{Listed}
use Rattle.pub_snap.specs.declared.listed.Listed.TheVariants.{Open, Made}

-- the control state after one more of a list; before the first there is none
abbrev pub listed : Option ControlState → Listed → Option ControlState
listed None (Open start) = Some (opened start)
listed None (Made event) = None
listed (Some c) (Open start) = Some c
listed (Some c) (Made event) = Some (apply c event)

-- the start comes first and once, and then events that may follow
abbrev pub MayList : Option ControlState → Listed → Type 0
MayList None (Open start) = Unit {0}
MayList None (Made event) = ⊥
MayList (Some c) (Open start) = ⊥
MayList (Some c) (Made event) = May c event

-- the list of a start and events
abbrev pub listing : Start → List Event → List Listed
listing start events = Open start ∷ map (λ event. Made event) events

-- the start of a list
abbrev pub start_of : List Listed → Start
start_of [] = record { device = 0; cpu = 0; rows = 0; slots = 0; bridge = false }
start_of (Open start ∷ list) = start
start_of (Made event ∷ list) = record { device = 0; cpu = 0; rows = 0; slots = 0; bridge = false }

-- the events of a list
abbrev pub events_of : List Listed → List Event
events_of [] = []
events_of (Open start ∷ list) = events_of list
events_of (Made event ∷ list) = event ∷ events_of list

-- a list that has begun, with events that are legal after its start
pub record IsListing (list : List Listed) : Type 0 where
  pub is : list ≡ listing (start_of list) (events_of list)
  pub legal : Legal (opened (start_of list)) (events_of list)
