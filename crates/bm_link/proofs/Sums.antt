-- Sums of lists.
use Rattle.std.proofs.Common.{ℕ, ◌+◌, ◌<◌, ◌≤◌, List, length, take, get_or, sum, arith}
use Rattle.std.proofs.lemmas.List.Sums.{sum_by_more, sum_by-take-le}

-- what a beginning of a list exceeds, the whole exceeds
pub exceeded : (xs : List ℕ) (i most : ℕ) → i < length xs → most ≤ sum (take i xs) + get_or xs i 0 → most ≤ sum xs
exceeded xs i most lt le = omega (arith, sum_by_more (λ x. x) xs i 0 lt, sum_by-take-le (λ x. x) xs (i + 1), le)
