-- Which of the linked rows a key takes, and which has a name (P4Runtime 1.3.0, "Table entries").
use Rattle.std.specs.Prelude.{◌≡◌, ℕ, ℤ, nat_lt, int_lt, Bool, true, false, ◌||◌, ◌&&◌, not, List, Option, Some, None, if◌then◌else◌}
use Rattle.std.specs.Ordering.{int_eq}
use Rattle.std.specs.Option.{IsSomeAnd}
use Rattle.p4_types.specs.declared.table.Entry.{Entry}
use Rattle.p4_types.specs.declared.table.EntryName.{EntryName}
use Rattle.plane_spec.specs.Entries.{hits, beats, prefix_length, same_name}
use Rattle.row_index.specs.declared.asks.Ask.{Ask}
use Rattle.row_index.specs.declared.found.Found.{Found}

module _ (linked : ℕ → Bool) (rows : ℕ → Option Entry) where
  -- no linked row that the key hits beats this one
  abbrev pub IsUnbeaten : ℕ → List ℕ → Entry → Type 0
  IsUnbeaten table key entry = (place : ℕ) (other : Entry) → linked place ≡ true → rows place ≡ Some other → hits table key other ≡ true → beats other entry ≡ false

  -- The place of the row that a key takes: of the linked rows it is the one that the key hits and that no other that it hits beats; none where it hits none.
  abbrev pub IsBest : ℕ → List ℕ → Option ℕ → Type 0
  IsBest table key None = (place : ℕ) (entry : Entry) → linked place ≡ true → rows place ≡ Some entry → hits table key entry ≡ false
  IsBest table key (Some place) = (linked place ≡ true) × IsSomeAnd (rows place) (λ entry. (hits table key entry ≡ true) × IsUnbeaten table key entry)

  -- the place of a linked row of that name; none where no linked row has it
  abbrev pub IsNamed : EntryName → Option ℕ → Type 0
  IsNamed name None = (place : ℕ) (entry : Entry) → linked place ≡ true → rows place ≡ Some entry → same_name name entry.name ≡ false
  IsNamed name (Some place) = (linked place ≡ true) × IsSomeAnd (rows place) (λ entry. same_name name entry.name ≡ true)

-- by priorities, lengths of prefixes and sequence numbers of two rows, whether the first wins
abbrev pub wins : ℤ → ℤ → ℕ → ℕ → ℕ → ℕ → Bool
wins p q l m s t = if int_lt q p then true else if int_lt p q then false else if nat_lt m l then true else if nat_lt l m then false else nat_lt s t

-- what was found wins over another
abbrev pub wins_over : Found → Found → Bool
wins_over a b = wins a.priority b.priority a.length b.length a.seq b.seq

-- what is found takes the lead from the best so far
abbrev pub takes_lead : Found → Option Found → Bool
takes_lead candidate None = true
takes_lead candidate (Some found) = wins_over candidate found

-- the row of that name and sequence number, found at a place
abbrev pub found_at : ℕ → EntryName → ℕ → Found
found_at place name seq = record { place = place; priority = name.priority; length = prefix_length name.tests; seq = seq }

-- the row wins over what was found
abbrev pub beats_found : Entry → Found → Bool
beats_found entry found = wins entry.name.priority found.priority (prefix_length entry.name.tests) found.length entry.seq found.seq

-- some row of a shape with that ask could win over what was found
abbrev pub may_win : Ask → Option Found → Bool
may_win ask None = true
may_win ask (Some found) = int_lt found.priority ask.priority || (int_eq ask.priority found.priority && not (nat_lt ask.length found.length))

-- what was found is that row
pub record IsOf (entry : Entry) (found : Found) : Type 0 where
  pub priority : found.priority ≡ entry.name.priority
  pub length : found.length ≡ prefix_length entry.name.tests
  pub seq : found.seq ≡ entry.seq

module _ (rows : ℕ → Option Entry) (table : ℕ) (key : List ℕ) where
  -- what was found is a row that the key hits
  abbrev pub IsHit : Found → Type 0
  IsHit found = IsSomeAnd (rows found.place) (λ entry. (hits table key entry ≡ true) × IsOf entry found)

  -- the row at the place does not beat what was found, if the key hits it
  abbrev pub IsCovered : Option Found → ℕ → Type 0
  IsCovered best place = (entry : Entry) → rows place ≡ Some entry → hits table key entry ≡ true → IsSomeAnd best (λ found. beats_found entry found ≡ false)
