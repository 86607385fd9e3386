-- What an entry does to the lanes of a journal.
use Rattle.std.specs.Prelude.{◌≡◌, ◌≢◌, ℕ, ◌<◌, All, List, Some, slice_get}
use mathlib.Core.List.{IsPrefix}
use Rattle.lane_table.specs.Lanes.{Journal, Lane, Agrees, NoneFrom, of_lane, with_entry, with_call}

-- an entry of a lane that agrees with the journal leaves it so, once it stands in both
abbrev pub KeepsItsLane : {E : Type 0} → (E → ℕ) → Type 0
KeepsItsLane {E} lane = (l : Lane E) (j : Journal E) (e : E) → lane e ≡ l.number → Agrees lane l j → Agrees lane (with_call l e) (with_entry j e)

-- an entry of another lane leaves a lane that agrees with the journal as it is
abbrev pub KeepsOtherLanes : {E : Type 0} → (E → ℕ) → Type 0
KeepsOtherLanes {E} lane = (l : Lane E) (j : Journal E) (e : E) → lane e ≢ l.number → Agrees lane l j → Agrees lane l (with_entry j e)

-- where the lanes from a number on have no entry, each entry is of a lane below it
abbrev pub NeedsNoOther : {E : Type 0} → (E → ℕ) → Type 0
NeedsNoOther {E} lane = (j : Journal E) → NoneFrom lane j.lanes j.entries → All (λ e. lane e < j.lanes) j.entries

-- a call that a note shows is the same call of its lane in each journal that begins with the note
abbrev pub ShowsItsCall : {E : Type 0} → (E → ℕ) → Type 0
ShowsItsCall {E} lane = (noted all : List E) (number k : ℕ) (e : E) → IsPrefix noted all → slice_get (of_lane lane number noted) k ≡ Some e → slice_get (of_lane lane number all) k ≡ Some e
