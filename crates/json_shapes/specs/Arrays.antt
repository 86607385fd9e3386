-- Arrays of a known number of items.
use Rattle.std.specs.Prelude.{ℕ, suc, ◌==◌, if◌then◌else◌, Option, Some, None}
use Rattle.serde_json.specs.Data.{Data, Items, no_items, item}
use Rattle.serde_json.specs.Find.{at, as_array}
use Rattle.json_shapes.specs.declared.arrays.Only.{Only}
use Rattle.list_types.specs.Options.{◌>>=◌}

-- how many items an array has
abbrev pub count_of : Items → ℕ
count_of no_items = 0
count_of (item d ds) = suc (count_of ds)

-- the same for a value, which must be an array
unfoldable pub item_count : Data → Option ℕ
item_count d = as_array d >>= λ ds. Some (count_of ds)

-- an item of an array
unfoldable pub item_at : {A : Type 0} → (Data → Option A) → ℕ → Data → Option A
item_at shape place d = at place d >>= shape

-- what is read, where there are so many
abbrev pub of_count : {A : Type 0} → ℕ → ℕ → Option A → Option A
of_count wanted n read = if n == wanted then read else None

-- the first item, as the only one
abbrev pub first_of : {A : Type 0} → (Data → Option A) → Data → Option (Only A)
first_of shape d = item_at shape 0 d >>= λ only. Some (record { only = only })

-- an array of one item
unfoldable pub only_of : {A : Type 0} → (Data → Option A) → Data → Option (Only A)
only_of shape d = item_count d >>= λ n. of_count 1 n (first_of shape d)
