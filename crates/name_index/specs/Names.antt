-- The first object of a name, and its place.
use Rattle.std.specs.Prelude.{ℕ, List, Option}
use Rattle.std.specs.List.{find, position}
use Rattle.std.specs.Str.{bytes_eq}

-- the first object of a name, if there is one
abbrev pub named : {A : Type 0} → (A → List ℕ) → List ℕ → List A → Option A
named name_of name objects = find (λ x. bytes_eq (name_of x) name) objects

-- its place
abbrev pub place_of : {A : Type 0} → (A → List ℕ) → List ℕ → List A → Option ℕ
place_of name_of name objects = position (λ x. bytes_eq (name_of x) name) objects
