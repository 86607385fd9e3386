-- Names: the first object of a name, its place, and names that occur twice or name nothing.
use Rattle.std.specs.Prelude.{ℕ, Bool, not, nat_lt, List, length}
use Rattle.std.specs.List.{list_any}
use Rattle.std.specs.Set.{distinct_count, is_member}
use Rattle.std.specs.Str.{bytes_eq}
pub use Rattle.name_index.specs.Names.{named, place_of}

-- one of these is none of those
abbrev pub lack : {A : Type 0} → (A → A → Bool) → List A → List A → Bool
lack same those these = list_any (λ x. not (is_member same those x)) these

-- an item occurs twice
abbrev pub repeats : {A : Type 0} → (A → A → Bool) → List A → Bool
repeats same items = nat_lt (distinct_count same items) (length items)

-- a name occurs twice
abbrev pub names_repeat : List (List ℕ) → Bool
names_repeat names = repeats bytes_eq names

-- one of these names is none of those
abbrev pub name_nothing : List (List ℕ) → List (List ℕ) → Bool
name_nothing those these = lack bytes_eq those these
