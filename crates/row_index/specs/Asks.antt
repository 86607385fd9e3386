-- In which order the shapes of the rows are asked.
use Rattle.std.specs.Prelude.{◌≡◌, ℕ, ◌+◌, ◌<◌, ◌≤◌, ◌⊎◌, nat_lt, int_lt, Bool, true, false, if◌then◌else◌, List, length, slice_index_or}
use Rattle.std.specs.List.{Contains}
use Rattle.row_index.specs.declared.asks.Ask.{Ask}

-- of two asks the first is first: that of the lower table; of one table, that of the greater priority, then that of the longer prefix
abbrev pub is_before : Ask → Ask → Bool
is_before a b =
    if nat_lt a.table b.table then true else
    if nat_lt b.table a.table then false else
    if int_lt b.priority a.priority then true else
    if int_lt a.priority b.priority then false else
    nat_lt b.length a.length

-- there is one ask more
pub record Puts (old new : List Ask) (ask : Ask) : Type 0 where
  pub has : Contains new ask
  pub kept : (other : Ask) → Contains old other → Contains new other
  pub only : (other : Ask) → Contains new other → (other ≡ ask) ⊎ Contains old other
  pub len : length new ≡ length old + 1

-- there is one ask less, which is of that shape
pub record Takes (old new : List Ask) (shape : ℕ) : Type 0 where
  pub kept : (other : Ask) → Contains old other → (other.shape ≡ shape → ⊥) → Contains new other
  pub only : (other : Ask) → Contains new other → Contains old other
  pub len : length new + 1 ≡ length old

-- the asks of the table begin from one place to the other
pub record IsAround (asks : List Ask) (table low high : ℕ) : Type 0 where
  pub ordered : low ≤ high
  pub within : high ≤ length asks
  pub below : (k : ℕ) (d : Ask) → k < low → (slice_index_or asks k d).table < table
  pub above : (k : ℕ) (d : Ask) → high ≤ k → k < length asks → table ≤ (slice_index_or asks k d).table
