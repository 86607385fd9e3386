-- What undoes the edits of a vector.
use Rattle.std.specs.Prelude.{ℕ, ◌<◌, ◌≤◌, List, [], ◌∷◌, length, set}
use Rattle.std.specs.List.{insert, remove}
use Rattle.undo_vec.specs.declared.edit.Edit.{Edit}
use Rattle.undo_vec.specs.declared.edit.Edit.TheVariants as edits

-- what a vector holds, and what it held before the edits that can be undone
pub record Versions (T : Type 0) : Type 0 where
  pub items : List T
  pub before : List T

-- the items before an edit
abbrev pub back : {T : Type 0} → Edit T → List T → List T
back (edits.Inserted place) items = remove items place
back (edits.Replaced place item) items = set items place item
back (edits.Removed place item) items = insert items place item

-- the items before all edits of a log, of which the last is undone first
abbrev pub backs : {T : Type 0} → List (Edit T) → List T → List T
backs [] items = items
backs (edit ∷ log) items = back edit (backs log items)

-- the edit can be undone within the capacity
abbrev pub Fits : {T : Type 0} → Edit T → List T → ℕ → Type 0
Fits (edits.Inserted place) items capacity = place < length items
Fits (edits.Replaced place item) items capacity = place < length items
Fits (edits.Removed place item) items capacity = (place ≤ length items) × (length items < capacity)

-- all edits of a log can be undone within the capacity
abbrev pub CanUndo : {T : Type 0} → List (Edit T) → List T → ℕ → Type 0
CanUndo [] items capacity = Unit {0}
CanUndo (edit ∷ log) items capacity = CanUndo log items capacity × Fits edit (backs log items) capacity
