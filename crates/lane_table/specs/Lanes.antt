-- The journal, its lanes, and what each token of the table stands for.
use Rattle.std.specs.Prelude.{◌≡◌, ◌==◌, ℕ, zero, suc, ◌+◌, ◌≤◌, List, [], ◌∷◌, ◌++◌, filter}
use Rattle.atomic_table.specs.Seated.{TableId}

-- which table it is
abbrev pub LaneTableId : Type 0
LaneTableId = TableId

-- the name of no table
abbrev pub no_table : LaneTableId
no_table = record { words = 0; slots = 0; views_name = 0; atom = 0; block = 0; offset = 0; slot_names = [] }

-- the entries of a lane, in their order
abbrev pub of_lane : {E : Type 0} → (E → ℕ) → ℕ → List E → List E
of_lane lane number entries = filter (λ e. lane e == number) entries

-- the lanes from a number on have no entry
abbrev pub NoneFrom : {E : Type 0} → (E → ℕ) → ℕ → List E → Type 0
NoneFrom lane number entries = (later : ℕ) → number ≤ later → of_lane lane later entries ≡ []

-- what the seat beside the journal knows: all entries of the journal, and the number of lanes that were claimed
pub record Journal (E : Type 0) : Type 0 where
  pub table : LaneTableId
  pub entries : List E
  pub lanes : ℕ

-- what the seat of a lane knows: the lane's number, and all entries of the lane
pub record Lane (E : Type 0) : Type 0 where
  pub table : LaneTableId
  pub number : ℕ
  pub entries : List E

-- what a note knows: entries with which the journal begins
pub record Noted (E : Type 0) : Type 0 where
  pub table : LaneTableId
  pub entries : List E

-- a journal without entries, of which no lane is claimed
abbrev pub new_journal : {E : Type 0} → LaneTableId → Journal E
new_journal t = record { table = t; entries = []; lanes = 0 }

-- the journal once its next lane is claimed
abbrev pub with_lane : {E : Type 0} → Journal E → Journal E
with_lane j = record { table = j.table; entries = j.entries; lanes = j.lanes + 1 }

-- the lane that is claimed next: it has no entry
abbrev pub next_of : {E : Type 0} → Journal E → Lane E
next_of j = record { table = j.table; number = j.lanes; entries = [] }

-- the seats of the first so many lanes, by their numbers, none of which has an entry
abbrev pub seats_from : {E : Type 0} → LaneTableId → ℕ → List (Lane E)
seats_from table zero = []
seats_from table (suc more) = seats_from table more ++ (record { table = table; number = more; entries = [] }) ∷ []

-- the journal with one entry more
abbrev pub with_entry : {E : Type 0} → Journal E → E → Journal E
with_entry j e = record { table = j.table; entries = j.entries ++ e ∷ []; lanes = j.lanes }

-- the lane with one entry more
abbrev pub with_call : {E : Type 0} → Lane E → E → Lane E
with_call l e = record { table = l.table; number = l.number; entries = l.entries ++ e ∷ [] }

-- a note of all that the journal has
abbrev pub note_of : {E : Type 0} → Journal E → Noted E
note_of j = record { table = j.table; entries = j.entries }

-- the lane's entries are the journal's entries of this lane
abbrev pub Agrees : {E : Type 0} → (E → ℕ) → Lane E → Journal E → Type 0
Agrees lane l j = l.entries ≡ of_lane lane l.number j.entries
