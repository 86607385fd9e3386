-- What is left to read and what was sent, as a list of bytes or of packets, where an object tells it.
-- Nothing is claimed from what an object does not tell.
use Rattle.std.specs.Prelude.{◌≡◌, ℕ, ◌≤◌, List, [], ◌++◌, length, take, ⊤, Option, None, Some}

-- what was told is told still
abbrev pub Keeps : {A : Type 0} → Option (List A) → Option (List A) → Type 0
Keeps None new = ⊤
Keeps (Some xs) None = ⊥
Keeps (Some xs) (Some ys) = ys ≡ xs

-- these were taken from the front of what was left
abbrev pub Consumes : {A : Type 0} → Option (List A) → Option (List A) → List A → Type 0
Consumes None new taken = ⊤
Consumes (Some xs) None taken = ⊥
Consumes (Some xs) (Some ys) taken = xs ≡ taken ++ ys

-- these follow what was sent
abbrev pub Appends : {A : Type 0} → Option (List A) → Option (List A) → List A → Type 0
Appends None new added = ⊤
Appends (Some xs) None added = ⊥
Appends (Some xs) (Some ys) added = ys ≡ xs ++ added

-- some first of these follow what was sent
abbrev pub AppendsPrefix : {A : Type 0} → Option (List A) → Option (List A) → List A → Type 0
AppendsPrefix old new added = (n : ℕ) × (n ≤ length added) × Appends old new (take n added)

-- nothing is left
abbrev pub IsAtEnd : {A : Type 0} → Option (List A) → Type 0
IsAtEnd None = ⊤
IsAtEnd (Some xs) = xs ≡ []

-- nothing was left and nothing changed
abbrev pub Ends : {A : Type 0} → Option (List A) → Option (List A) → Type 0
Ends old new = IsAtEnd old × IsAtEnd new × Keeps old new
