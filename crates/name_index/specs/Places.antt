-- The places of objects by their names, and the first values of names in maps.
use Rattle.std.specs.Prelude.{◌≡◌, ℕ, Bool, true, false, List, [], length, Option, Some, None, if◌then◌else◌, IsPermutation, IsSorted}
use Rattle.std.specs.Borrow.{Bor}
use Rattle.std.specs.BTreeMap.{BTreeMap, get_by}
use Rattle.std.specs.Cmp.Lexicographic.{slice_cmp}
use Rattle.std.specs.List.{range_with_len, slice_get}
use Rattle.std.specs.List.Sorted.{IsPartitionPoint}
use Rattle.std.specs.Option.{option_map, option_or, unwrap_or}
use Rattle.std.specs.declared.cmp.Ordering.{Ordering}
use Rattle.std.specs.Ordering.{is_lt, nat_cmp, ordering_then}
use Rattle.std.specs.Str.{bytes_eq}

-- what a map has at a name
abbrev pub at_name : {V : Type 0} → BTreeMap (Bor (List ℕ)) V → List ℕ → Option V
at_name places name = get_by (λ k. slice_cmp nat_cmp name k.now) places

-- the name has this value, unless it had one before
abbrev pub PutsFirst : {V : Type 0} → BTreeMap (Bor (List ℕ)) V → BTreeMap (Bor (List ℕ)) V → List ℕ → V → Type 0
PutsFirst old new name value = (q : List ℕ) → at_name new q ≡ option_or (at_name old q) (if bytes_eq name q then Some value else None)

-- the name of the object at a place, which is empty where there is none
abbrev pub name_at : {X : Type 0} → (X → List ℕ) → List X → ℕ → List ℕ
name_at label objects place = unwrap_or (option_map label (slice_get objects place)) []

-- how two places stand to each other: by the names of their objects, and where these are the same by the places
abbrev pub by_name : {X : Type 0} → (X → List ℕ) → List X → ℕ → ℕ → Ordering
by_name label objects x y = ordering_then (slice_cmp nat_cmp (name_at label objects x) (name_at label objects y)) (nat_cmp x y)

-- the places of all objects, each once, in the order of their names, and those of one name in their own order
pub record ArePlaces {X : Type 0} (label : X → List ℕ) (objects : List X) (places : List ℕ) : Type 0 where
  pub all : IsPermutation (range_with_len 0 (length objects)) places
  pub sorted : IsSorted (by_name label objects) places

-- whether the name at a place is below a name
abbrev pub is_below : {X : Type 0} → (X → List ℕ) → List X → List ℕ → ℕ → Bool
is_below label objects name place = is_lt (slice_cmp nat_cmp (name_at label objects place) name)

-- before this index stand the places whose names are below a name, and no other
abbrev pub IsStart : {X : Type 0} → (X → List ℕ) → List X → List ℕ → List ℕ → ℕ → Type 0
IsStart label objects places name start = IsPartitionPoint (λ p. is_below label objects name p ≡ true) (λ p. is_below label objects name p ≡ false) places start
