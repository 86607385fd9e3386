-- The rule of the table, and what each step does to a seat.
use Rattle.std.specs.Prelude.{◌≡◌, ℕ, ◌+◌, ◌<◌, List, [], ◌∷◌, ◌++◌}
use mathlib.Core.Option.{Option, some, none}
use mathlib.Core.List.{IsPrefix}
use lib.ListN.{get_elem?}
use Rattle.atomic_table.specs.Table.{State, Me, Step}
use Rattle.lane_table.specs.declared.roles.Role.{Role}
use Rattle.lane_table.specs.declared.roles.Role.TheVariants.{AtJournal, AtLane, Bearing, Spent}
use Rattle.lane_table.specs.declared.roles.Hand.{Hand}
use Rattle.lane_table.specs.declared.roles.Hand.TheVariants.{Empty, Holds, Bears}
use Rattle.lane_table.specs.Lanes.{of_lane, NoneFrom}

module _ {E : Type 0} where
  -- the seat beside the journal, with an empty hand
  abbrev pub at_journal : List E → ℕ → Role E
  at_journal entries lanes = AtJournal entries lanes Empty

  -- the seat of a lane
  abbrev pub at_lane : ℕ → List E → Role E
  at_lane number entries = AtLane number entries

  -- a note
  abbrev pub bearing : List E → Role E
  bearing entries = Bearing entries

  -- the entries that a seat knows
  abbrev pub entries_of : Role E → List E
  entries_of (AtJournal entries lanes hand) = entries
  entries_of (AtLane number entries) = entries
  entries_of (Bearing entries) = entries
  entries_of Spent = []

  -- how many lanes were claimed, or the number of the lane
  abbrev pub number_of : Role E → ℕ
  number_of (AtJournal entries lanes hand) = lanes
  number_of (AtLane number entries) = number
  number_of (Bearing entries) = 0
  number_of Spent = 0

  -- the first seat, beside a journal that is empty
  abbrev pub first_role : Role E
  first_role = at_journal [] 0

  -- the seat keeps what it knows
  abbrev pub as_it_was : Role E → Role E
  as_it_was r = r

  -- a seat that knows nothing
  abbrev pub nothing : Role E → Role E
  nothing r = Spent

  -- a note of what the seat knows
  abbrev pub noted : Role E → Role E
  noted r = Bearing (entries_of r)

  -- the seat beside the journal once it has counted one lane more
  abbrev pub one_lane_more : Role E → Role E
  one_lane_more (AtJournal entries lanes hand) = AtJournal entries (lanes + 1) hand
  one_lane_more (AtLane number entries) = AtLane number entries
  one_lane_more (Bearing entries) = Bearing entries
  one_lane_more Spent = Spent

  -- the seat of the next lane
  abbrev pub next_lane : Role E → Role E
  next_lane r = AtLane (number_of r) []

  -- what the other seat knows lies in a hand
  abbrev pub in_hand : Role E → Hand E
  in_hand (AtJournal entries lanes hand) = Empty
  in_hand (AtLane number entries) = Holds number entries
  in_hand (Bearing entries) = Bears entries
  in_hand Spent = Empty

  -- the seat holds what the other knows
  abbrev pub holding : Role E → Role E → Role E
  holding r other = AtJournal (entries_of r) (number_of r) (in_hand other)

  -- the seat with an empty hand
  abbrev pub emptied : Role E → Role E
  emptied r = at_journal (entries_of r) (number_of r)

  -- what the seat beside the journal holds
  abbrev pub hand_of : Role E → Hand E
  hand_of (AtJournal entries lanes hand) = hand
  hand_of (AtLane number entries) = Empty
  hand_of (Bearing entries) = Empty
  hand_of Spent = Empty

  -- what is in a hand, as a seat
  abbrev pub released : Hand E → Role E
  released Empty = Spent
  released (Holds number entries) = AtLane number entries
  released (Bears entries) = Bearing entries

  -- what the seat holds, as a seat
  abbrev pub handed : Role E → Role E
  handed r = released (hand_of r)

  -- this is the seat beside the journal, and it holds what it holds
  abbrev pub IsAtJournal : Me E (Role E) → Type 0
  IsAtJournal me = me ≡ (AtJournal (entries_of me.0) (number_of me.0) (hand_of me.0), [])

  -- this is the seat beside the journal, with an empty hand
  abbrev pub IsFree : Me E (Role E) → Type 0
  IsFree me = me ≡ (emptied me.0, [])

  -- this is a seat that can be held
  abbrev pub IsHeld : Me E (Role E) → Type 0
  IsHeld me = me ≡ (released (in_hand me.0), [])

  -- the list with the entry, if there is one
  abbrev pub extended : List E → Option E → List E
  extended entries (some e) = entries ++ e ∷ []
  extended entries none = entries

  -- the hand with the entry, where a lane is in it
  abbrev pub hand_extended : Hand E → Option E → Hand E
  hand_extended Empty said = Empty
  hand_extended (Holds number entries) said = Holds number (extended entries said)
  hand_extended (Bears entries) said = Bears entries

  -- the seat after an entry of the lane in its hand
  abbrev pub appended : Role E → Option E → Role E
  appended (AtJournal entries lanes hand) said = AtJournal (extended entries said) lanes (hand_extended hand said)
  appended (AtLane number entries) said = AtLane number entries
  appended (Bearing entries) said = Bearing entries
  appended Spent said = Spent

module _ {E : Type 0} (lane : E → ℕ) where
  -- what is in a hand agrees with the entries of the journal
  abbrev pub HandAgrees : List E → Hand E → Type 0
  HandAgrees all Empty = Unit {0}
  HandAgrees all (Holds number entries) = entries ≡ of_lane lane number all
  HandAgrees all (Bears entries) = IsPrefix entries all

  -- what a step tells the seat beside the journal: its hand agrees with the journal, and no lane has entries that was not claimed
  abbrev pub Told : Role E → Type 0
  Told (AtJournal entries lanes hand) = NoneFrom lane lanes entries × HandAgrees entries hand
  Told (AtLane number entries) = Unit {0}
  Told (Bearing entries) = Unit {0}
  Told Spent = Unit {0}

  -- what a comparison tells, and it changes nothing
  abbrev pub Compared : Step E → Me E (Role E) → ℕ → Me E (Role E) → Type 0
  Compared step v found w = (w ≡ v) × Told v.0

  -- what the step of an entry tells
  abbrev pub Appended : Step E → Me E (Role E) → ℕ → Me E (Role E) → Type 0
  Appended step v found w = (w ≡ (appended v.0 step.said, v.1)) × Told v.0

  -- the seat `id`, which holds the lane or is the lane's, is the lane's owner
  abbrev pub HandFits : List E → ℕ → (ℕ → ℕ) → ℕ → Hand E → Type 0
  HandFits all lanes owner id Empty = Unit {0}
  HandFits all lanes owner id (Holds number entries) = (owner number ≡ id) × (number < lanes) × (entries ≡ of_lane lane number all)
  HandFits all lanes owner id (Bears entries) = IsPrefix entries all

  -- what a seat knows is so, where `all` is the journal, and `owner` says which seat has a lane
  abbrev pub Fits : List E → ℕ → (ℕ → ℕ) → ℕ → ℕ → Role E → Type 0
  Fits all lanes owner keeper id (AtJournal entries number hand) = (keeper ≡ id) × (entries ≡ all) × (number ≡ lanes) × HandFits all lanes owner id hand
  Fits all lanes owner keeper id (AtLane number entries) = (owner number ≡ id) × (number < lanes) × (entries ≡ of_lane lane number all)
  Fits all lanes owner keeper id (Bearing entries) = IsPrefix entries all
  Fits all lanes owner keeper id Spent = Unit {0}

  -- there is one journal, whose lanes are owned by one seat each, and each seat knows what is so
  pub record Kept (s : State E (Role E)) : Type 0 where
    pub all : List E
    pub lanes : ℕ
    pub owner : ℕ → ℕ
    pub keeper : ℕ
    pub none_from : NoneFrom lane lanes all
    pub each : (id : ℕ) (r : Role E) → get_elem? s.views id ≡ some r → Fits all lanes owner keeper id r
