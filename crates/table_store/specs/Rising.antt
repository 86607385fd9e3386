-- Lists by rising numbers, and places in them.
use Rattle.std.specs.Prelude.{◌≡◌, ℕ, ◌<◌, ◌≤◌, List, [], ◌∷◌, length, take, drop}
use Rattle.std.specs.List.{AllByRecursion, HoldsAt}

-- each has a lower number than those behind it
abbrev pub AreRising : {X : Type 0} → (X → ℕ) → List X → Type 0
AreRising key [] = Unit {0}
AreRising key (x ∷ xs) = AllByRecursion (λ y. key x < key y) xs × AreRising key xs

-- an element of the number stands at the place
pub record StandsAt {X : Type 0} (key : X → ℕ) (xs : List X) (number place : ℕ) : Type 0 where
  pub in_range : place < length xs
  pub number_is : HoldsAt (λ x. key x ≡ number) xs place

-- no element has the number, and one of it would go to the place
pub record WouldStandAt {X : Type 0} (key : X → ℕ) (xs : List X) (number place : ℕ) : Type 0 where
  pub in_range : place ≤ length xs
  pub below : AllByRecursion (λ x. key x < number) (take place xs)
  pub above : AllByRecursion (λ x. number < key x) (drop place xs)
