-- What slots of counters and sequence numbers tell through a run.
use Rattle.std.specs.Prelude.{◌≡◌, ℕ, ◌+◌, ◌<◌, ◌≤◌, List, Contains, Some}
use Rattle.p4_types.specs.declared.events.Start.{Start}
use Rattle.p4_types.specs.declared.table.Entry.{Entry}
use Rattle.plane_spec.specs.Config.{Event, cells_in}
use Rattle.plane_spec.specs.Legal.{Legal}
use Rattle.plane_spec.specs.Planes.{Plane, opened, applied, after}

-- one of the plane's cells has this slot
abbrev pub HasCell : Plane → ℕ → Type 0
HasCell plane slot = (plane.cells ≤ slot) × (slot < plane.cells + cells_in plane.config)

-- What the active planes of two moments tell of each other: a slot is that of one number or of a cell, and a slot that an entry has now it had since its INSERT.
pub record TellAlike (before now : Plane) : Type 0 where
  pub numbers : (e f : Entry) (slot : ℕ) → Contains before.entries e → Contains now.entries f → e.slot ≡ Some slot → f.slot ≡ Some slot → e.seq ≡ f.seq
  pub slots : (e f : Entry) (slot : ℕ) → Contains before.entries e → Contains now.entries f → e.seq ≡ f.seq → f.slot ≡ Some slot → e.slot ≡ Some slot
  pub cells_now : (e : Entry) (slot : ℕ) → Contains before.entries e → e.slot ≡ Some slot → HasCell now slot → ⊥
  pub cells_before : (f : Entry) (slot : ℕ) → Contains now.entries f → f.slot ≡ Some slot → HasCell before slot → ⊥

-- Through any events that may follow one another slots and sequence numbers belong together, and no entry's slot is a cell's.
abbrev pub SlotsStay : Type 0
SlotsStay = (start : Start) (list : List Event) (n : ℕ) (before now : Plane) → Legal (opened start) list
    → (after start list n).active ≡ Some before → (applied (opened start) list).active ≡ Some now → TellAlike before now
