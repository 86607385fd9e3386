-- Places in buckets.
use Rattle.std.specs.Prelude.{ℕ, ◌==◌, Bool, false, List, Option, Some, None, slice_index_or}
use Rattle.row_index.specs.declared.placed.Placed.{Placed}

-- how many buckets there are, and for each place what is linked there, or none
pub record Buckets : Type 0 where
  pub count : ℕ
  pub places : List (Option Placed)

-- what is linked at a place
abbrev pub place_at : List (Option Placed) → ℕ → Option Placed
place_at places place = slice_index_or places place None

-- something is linked there, in the bucket
abbrev pub is_in : ℕ → Option Placed → Bool
is_in bucket None = false
is_in bucket (Some placed) = placed.bucket == bucket

-- the place has something in the bucket
abbrev pub in_bucket : List (Option Placed) → ℕ → ℕ → Bool
in_bucket places bucket place = is_in bucket (place_at places place)
