-- What leads to a place of a bucket.
use Rattle.std.specs.Prelude.{◌≡◌, ℕ, suc, ◌<◌, ◌≤◌, Bool, true, List, Option, Some, None, slice_set}
use Rattle.row_index.specs.Reach.{reach}

-- a place, or behind all places
abbrev pub bound : Option ℕ → ℕ → ℕ
bound None limit = limit
bound (Some place) limit = place

-- it is above the place, and of the bucket
abbrev pub IsHigher : (ℕ → Bool) → ℕ → ℕ → Option ℕ → Type 0
IsHigher test limit place None = Unit {0}
IsHigher test limit place (Some above) = (place < above) × (above < limit) × (test above ≡ true)

-- it is the least place of the bucket that is above the place, or there is none
pub record IsAbove (test : ℕ → Bool) (limit place : ℕ) (above : Option ℕ) : Type 0 where
  pub higher : IsHigher test limit place above
  pub least : reach test (bound above limit) ≤ suc place

-- the heads, of which that of the bucket leads elsewhere where no place is above
abbrev pub aim_head : Option ℕ → ℕ → ℕ → List ℕ → List ℕ
aim_head None bucket to heads = slice_set heads bucket to
aim_head (Some above) bucket to heads = heads

-- the links, of which that of the place above leads elsewhere
abbrev pub aim_link : Option ℕ → ℕ → List ℕ → List ℕ
aim_link None to links = links
aim_link (Some above) to links = slice_set links above to
