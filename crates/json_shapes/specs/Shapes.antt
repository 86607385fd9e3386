-- Shapes of JSON values: what is read of a value of a shape, and nothing of another value.
use Rattle.std.specs.Prelude.{◌≡◌, ℕ, Bool, true, false, if◌then◌else◌, unwrap_or, option_map, List, [], ◌∷◌, Result, Ok, Err, Option, Some, None, ⊤}
use Rattle.list_types.specs.Options.{◌>>=◌}
use Rattle.serde_json.specs.Data.{Data, null, boolean, number, string, array, object, Items, no_items, item}
use Rattle.serde_json.specs.Find.{get, as_array, as_number, as_u64}
use Rattle.json_shapes.specs.declared.errors.OtherShape.{OtherShape}
use Rattle.list_types.specs.declared.memory.Refusal.{Refusal}
use Rattle.list_types.specs.declared.memory.Refusal.TheVariants.{NoMemory, For}

-- each item, or nothing where one is of another shape
abbrev pub each_item : {A : Type 0} → (Data → Option A) → Items → Option (List A)
each_item shape no_items = Some []
each_item shape (item d ds) = shape d >>= λ x. each_item shape ds >>= λ xs. Some (x ∷ xs)

-- an array of items of one shape
abbrev pub list_of : {A : Type 0} → (Data → Option A) → Data → Option (List A)
list_of shape d = as_array d >>= each_item shape

-- a number of 64 bits that is not negative
abbrev pub natural_of : Data → Option ℕ
natural_of d = as_number d >>= as_u64

-- a member that is there
unfoldable pub required : {A : Type 0} → (Data → Option A) → List ℕ → Data → Option A
required shape name d = get name d >>= shape

-- a value that may be null
abbrev pub nullable : {A : Type 0} → (Data → Option A) → Data → Option (Option A)
nullable shape null = Some None
nullable shape (boolean b) = shape (boolean b) >>= λ x. Some (Some x)
nullable shape (number n) = shape (number n) >>= λ x. Some (Some x)
nullable shape (string s) = shape (string s) >>= λ x. Some (Some x)
nullable shape (array ds) = shape (array ds) >>= λ x. Some (Some x)
nullable shape (object ms) = shape (object ms) >>= λ x. Some (Some x)

-- what may be absent
abbrev pub if_given : {A : Type 0} → (Data → Option (Option A)) → Option Data → Option (Option A)
if_given shape None = Some None
if_given shape (Some d) = shape d

-- a member that may be absent or null
unfoldable pub optional : {A : Type 0} → (Data → Option A) → List ℕ → Data → Option (Option A)
optional shape name d = if_given (nullable shape) (get name d)

-- the list, or an empty one where there is none
abbrev pub or_empty : {A : Type 0} → Option (List A) → List A
or_empty None = []
or_empty (Some xs) = xs

-- an array that counts as empty where it is absent or null
unfoldable pub list_or_empty : {A : Type 0} → (Data → Option A) → List ℕ → Data → Option (List A)
list_or_empty shape name d = optional (list_of shape) name d >>= λ found. Some (or_empty found)

-- a member that may be absent, but not null
unfoldable pub unless_absent : {A : Type 0} → (Data → Option A) → List ℕ → Data → Option (Option A)
unless_absent shape name d = if_given (λ given. shape given >>= λ x. Some (Some x)) (get name d)

-- an array that counts as empty where it is absent, but not null
unfoldable pub list_unless_absent : {A : Type 0} → (Data → Option A) → List ℕ → Data → Option (List A)
list_unless_absent shape name d = unless_absent (list_of shape) name d >>= λ found. Some (or_empty found)

-- there is an item
abbrev pub are_items : Items → Bool
are_items no_items = false
are_items (item d ds) = true

-- a list with an item
abbrev pub is_filled : Option Data → Bool
is_filled None = false
is_filled (Some d) = unwrap_or (option_map are_items (as_array d)) false

-- there is a list with an item
unfoldable pub has_items : List ℕ → Data → Bool
has_items name d = is_filled (get name d)

-- nothing is given, or an array
abbrev pub none_or_array : Option Data → Option ⊤
none_or_array None = Some tt
none_or_array (Some d) = as_array d >>= λ _. Some tt

-- a list that is absent or empty
unfoldable pub nothing_in : List ℕ → Data → Option ⊤
nothing_in name d = if has_items name d then None else none_or_array (get name d)

-- whether a list has an item, where one is given at all
unfoldable pub filled : List ℕ → Data → Option Bool
filled name d = none_or_array (get name d) >>= λ _. Some (has_items name d)

-- why a reader refuses: there is no memory, or the shape is another one
abbrev pub Refuses : {A : Type 0} → Refusal OtherShape → Option A → Type 0
Refuses NoMemory read = Unit {0}
Refuses (For _) read = read ≡ None

-- the answer is what is read, unless there is no memory
abbrev pub Reads : {A : Type 0} → Result A (Refusal OtherShape) → Option A → Type 0
Reads (Ok x) read = read ≡ Some x
Reads (Err e) read = Refuses e read

-- the answer is what is read, and the refusal that there is nothing
abbrev pub ReadsExactly : {A : Type 0} → Result A OtherShape → Option A → Type 0
ReadsExactly (Ok x) read = read ≡ Some x
ReadsExactly (Err _) read = read ≡ None

-- what stands behind the call is what is read, unless there is no memory
abbrev pub Extends : {A : Type 0} → Result ⊤ (Refusal OtherShape) → A → Option A → Type 0
Extends (Ok _) new read = read ≡ Some new
Extends (Err e) new read = Refuses e read
