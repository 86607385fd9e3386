-- The image that is shown to viewers, and what each of them has seen.
use Rattle.std.specs.Prelude.{◌≡◌, ℕ, ◌+◌, ◌-◌, ◌^◌, ◌≤◌, min, List, [], ◌∷◌, ◌++◌, length, fold, sum_by, Option, Some, None, IfSome}
use mathlib.Core.Option.{some}
use lib.ListN.{get_elem?}
use Rattle.event_log.specs.Lists.{ListName}
use Rattle.plane_image.specs.Image.{ImageVersions, steps_of}
use Rattle.plane_image.specs.Taking.{taken, steps_taken}
use Rattle.plane_spec.specs.Config.{Event}
use Rattle.plane_spec.specs.Legal.{Legal}
use Rattle.plane_spec.specs.Planes.{ControlState, opened, applied}
use Rattle.pub_snap.specs.Beginnings.{Beginning, Begins, with_events}

-- an image that is shown, and what it is after
pub record Snapshot : Type 0 where
  pub image : ImageVersions
  pub told : Beginning

-- how many steps these events are; the number stands still at 2^64 - 1
abbrev pub steps_in : List Event → ℕ
steps_in events = min (sum_by steps_of events) (2 ^ 64 - 1)

-- the image is that after the events, with their steps, and nothing of it is still to be undone
pub record IsAfter (image : ImageVersions) (told : Beginning) : Type 0 where
  pub now : image.now ≡ applied (opened told.start) told.events
  pub settled : image.before ≡ image.now
  pub steps : image.steps ≡ steps_in told.events
  pub legal : Legal (opened told.start) told.events

-- an image after any event is taken
abbrev pub image_after : ImageVersions → Event → ImageVersions
image_after image event = record {
  now = taken image.now event;
  before = taken image.now event;
  steps = min (image.steps + steps_taken image.now event) (2 ^ 64 - 1);
}

-- an event, and what the list begins with after it
pub record Shift : Type 0 where
  pub event : Event
  pub after : Beginning

-- what is shown after an event
abbrev pub shifted : Snapshot → Shift → Snapshot
shifted shown shift = record { image = image_after shown.image shift.event; told = shift.after }

-- the shifts by events, from a beginning on
abbrev pub shifts : Beginning → List Event → List Shift
shifts b [] = []
shifts b (event ∷ events) = (record { event = event; after = with_events b (event ∷ []) }) ∷ shifts (with_events b (event ∷ [])) events

-- after these shifts an image is shown that is after its events, and its list goes on
pub record AreShowable (shown : Snapshot) (list : List Shift) : Type 0 where
  pub after : IsAfter (fold shifted shown list).image (fold shifted shown list).told
  pub begins : Begins shown.told (fold shifted shown list).told

-- What is shown is the image after its events, and its list begins with all that any viewer has seen
pub record IsKept (shown : Snapshot) (views : List (Option Beginning)) : Type 0 where
  pub after : IsAfter shown.image shown.told
  pub seen : (seat : ℕ) (b : Beginning) → get_elem? views seat ≡ some (Some b) → Begins b shown.told

-- what a look at it, or a change of it, tells: what is shown then was seen, which begins with all that was seen before
pub record IsSeen (view : Option Beginning) (before shown : Snapshot) (view' : Option Beginning) : Type 0 where
  pub is : view' ≡ Some shown.told
  pub after : IsAfter shown.image shown.told
  pub began : IfSome view (λ b. Begins b shown.told)

-- something of this list was seen
abbrev pub IsOf : ListName → Option Beginning → Type 0
IsOf list None = ⊥
IsOf list (Some b) = b.list ≡ list

-- what a viewer knows: it has seen or learnt this, and was refused so often
pub record Sight : Type 0 where
  pub told : Beginning
  pub refusals : ℕ

-- what a view shows
pub record Scene : Type 0 where
  pub image : ImageVersions
  pub told : Beginning
  pub refusals : ℕ

-- what a publisher has published, and what is pending
pub record Feed : Type 0 where
  pub told : Beginning
  pub pending : List Event

-- a published list, with what is pending behind it
abbrev pub all_of : Feed → List Event
all_of feed = feed.told.events ++ feed.pending

-- legal events, of which there are no more than a list has room for
pub record IsFeed (feed : Feed) : Type 0 where
  pub legal : Legal (applied (opened feed.told.start) feed.told.events) feed.pending
  pub few : length feed.told.events + length feed.pending ≤ 2 ^ 64 - 2
