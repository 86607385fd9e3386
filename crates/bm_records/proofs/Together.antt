-- Sums of what stands in a list, one item after another.
use Rattle.std.proofs.Common.{◌≡◌, ℕ, ◌+◌, ◌<◌, ◌%◌, true, nat_lt, List, length, take, get_or, sum_by, arith}
use Rattle.std.proofs.lemmas.Bool.Decides.{nat_tests}
use Rattle.std.proofs.lemmas.List.Sums.{sum_by_more, sum_by_more_le}

-- what is over whole bytes, with one more
pub over_more : {X : Type 0} (f : X → ℕ) (xs : List X) (i : ℕ) (d : X) (over : ℕ) → i < length xs → over ≡ sum_by f (take i xs) % 8 → (over + f (get_or xs i d)) % 8 ≡ sum_by f (take (i + 1) xs) % 8
over_more f xs i d over l e = let more : _ = sum_by_more f xs i d l in omega arith

-- where one more does not fit the room that is left, there are more than there is room for
pub exceeds_most : {X : Type 0} (f : X → ℕ) (xs : List X) (i : ℕ) (d : X) (room most : ℕ) → i < length xs → room + sum_by f (take i xs) ≡ most → room < f (get_or xs i d) → true ≡ nat_lt most (sum_by f xs)
exceeds_most f xs i d room most l e more = let within : _ = sum_by_more_le f xs i d l in grind (arith, nat_tests)
