-- Moments of stamps, in a list with one number for each place. A stamp stands where a counter's slot of its number does. Past the end of a list each number is 0.
use Rattle.std.specs.Prelude.{ℕ, ◌≤◌, max, List, [], ◌∷◌, slice_index}
use Rattle.counter_bank.specs.Figures.{place, raise_at}

-- the moment of a stamp
abbrev pub moment_of : List ℕ → ℕ → ℕ
moment_of xs stamp = slice_index xs (place stamp)

-- the moments with at least this one at a stamp
abbrev pub with_moment : List ℕ → ℕ → ℕ → List ℕ
with_moment xs stamp moment = raise_at xs (place stamp) moment

-- at no stamp the first list has more than the second
abbrev pub NoneAbove : List ℕ → List ℕ → Type 0
NoneAbove xs ys = (stamp : ℕ) → moment_of xs stamp ≤ moment_of ys stamp

-- the greatest of the numbers that f gives, or 0
abbrev pub greatest_by : {A : Type 0} → (A → ℕ) → List A → ℕ
greatest_by f [] = 0
greatest_by f (x ∷ xs) = max (f x) (greatest_by f xs)
