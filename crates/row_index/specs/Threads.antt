-- How the places of each bucket are threaded.
use Rattle.std.specs.Prelude.{◌≡◌, ℕ, ◌<◌, ◌^◌, true, List, length, Option, slice_index}
use Rattle.row_index.specs.declared.placed.Placed.{Placed}
use Rattle.row_index.specs.Reach.{reach}
use Rattle.row_index.specs.Places.{in_bucket}

-- A bucket's head leads to its greatest place, and the link of each of its places to the next one below.
pub record Threaded (heads links : List ℕ) (places : List (Option Placed)) : Type 0 where
  pub head : (bucket : ℕ) → bucket < length heads → slice_index heads bucket ≡ reach (in_bucket places bucket) (length places)
  pub link : (bucket place : ℕ) → in_bucket places bucket place ≡ true → slice_index links place ≡ reach (in_bucket places bucket) place
  pub within : (bucket place : ℕ) → in_bucket places bucket place ≡ true → bucket < length heads
  pub linked : length links ≡ length places
  pub few : length places < 2 ^ 32
  pub few_heads : length heads < 2 ^ 32
