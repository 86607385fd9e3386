-- Sequence numbers in bins, by fingerprints.
use Rattle.std.specs.Prelude.{◌≡◌, ℕ, ◌==◌, if◌then◌else◌, not, nat_eq, List, [], ◌∷◌, ◌++◌, filter, unwrap_or}
use Rattle.std.specs.HashMap.{HashMap, get}

module _ {S : Type 0} where
  -- the numbers in the bin of a fingerprint
  abbrev pub at : HashMap ℕ (List ℕ) S → ℕ → List ℕ
  at bins print = unwrap_or (get nat_eq bins print) []

  -- each bin is as it was
  abbrev pub AreSame : HashMap ℕ (List ℕ) S → HashMap ℕ (List ℕ) S → Type 0
  AreSame old new = (print : ℕ) → at new print ≡ at old print

  -- the bin of the fingerprint has the number too, and each other is as it was
  abbrev pub Adds : HashMap ℕ (List ℕ) S → HashMap ℕ (List ℕ) S → ℕ → ℕ → Type 0
  Adds old new print seq = (other : ℕ) → at new other ≡ (if print == other then at old other ++ seq ∷ [] else at old other)

  -- the bin of the fingerprint has the number no more, and each other is as it was
  abbrev pub Loses : HashMap ℕ (List ℕ) S → HashMap ℕ (List ℕ) S → ℕ → ℕ → Type 0
  Loses old new print seq = (other : ℕ) → at new other ≡ (if print == other then filter (λ x. not (x == seq)) (at old other) else at old other)

  -- no bin has a number
  abbrev pub AreEmpty : HashMap ℕ (List ℕ) S → Type 0
  AreEmpty bins = (print : ℕ) → at bins print ≡ []
