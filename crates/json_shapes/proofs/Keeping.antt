-- What is said of all that a reader reads.
use Rattle.std.proofs.Common.{ℕ, ◌==◌, Bool, true, false, cond, IfSome, All, List, ◌∷◌, Option, Some, None}
use Rattle.std.proofs.lemmas.List.Elements.{All-nil, All-cons}
use Rattle.serde_json.specs.Data.{Data, null, boolean, number, string, array, object, Items, no_items, item}
use Rattle.serde_json.specs.Find.{get, at, as_array}
use Rattle.json_shapes.specs.declared.arrays.Only.{Only}
use Rattle.list_types.specs.Options.{◌>>=◌}
use Rattle.json_shapes.specs.Shapes.{each_item, list_of, required, nullable, if_given, optional, or_empty, list_or_empty}
use Rattle.json_shapes.specs.Arrays.{item_count, item_at, of_count, first_of, only_of}

-- all that a reader reads keeps P
abbrev pub Keeps : {A : Type 0} → (A → Type 0) → (Data → Option A) → Type 0
Keeps P shape = (d : Data) → IfSome (shape d) P

-- what is read on keeps Q, where it does so behind all that is read first
pub then_kept : {A B : Type 0} (Q : B → Type 0) (read : Option A) (f : A → Option B) → ((x : A) → IfSome (f x) Q) → IfSome (read >>= f) Q
then_kept Q None f h = tt
then_kept Q (Some x) f h = h x

-- the same, where it does so behind what keeps P
pub then_kept_by : {A B : Type 0} (P : A → Type 0) (Q : B → Type 0) (read : Option A) (f : A → Option B) → IfSome read P → ((x : A) → P x → IfSome (f x) Q) → IfSome (read >>= f) Q
then_kept_by P Q None f kept h = tt
then_kept_by P Q (Some x) f kept h = h x kept

-- what is read where a test holds
pub if_kept : {A : Type 0} (Q : A → Type 0) (test : Bool) (read : Option A) → IfSome read Q → IfSome (cond test read None) Q
if_kept Q true read kept = kept
if_kept Q false read kept = tt

-- what is read where there are so many
pub count_kept : {A : Type 0} (Q : A → Type 0) (wanted n : ℕ) (read : Option A) → IfSome read Q → IfSome (of_count wanted n read) Q
count_kept Q wanted n read kept = if_kept Q (n == wanted) read kept

module _ {A : Type 0} (P : A → Type 0) (shape : Data → Option A) (kept : Keeps P shape) where
  each_item_kept : (ds : Items) → IfSome (each_item shape ds) (All P)
  each_item_kept no_items = All-nil P
  each_item_kept (item d ds) =
      then_kept_by P (All P) (shape d) (λ x. each_item shape ds >>= λ xs. Some (x ∷ xs)) (kept d)
      (λ x first. then_kept_by (All P) (All P) (each_item shape ds) (λ xs. Some (x ∷ xs)) (each_item_kept ds) (λ xs rest. All-cons P x xs first rest))

  -- each item of a list
  pub list_kept : Keeps (All P) (list_of shape)
  list_kept d = then_kept (All P) (as_array d) (each_item shape) each_item_kept

  -- a member
  pub required_kept : (name : List ℕ) → Keeps P (required shape name)
  unfolding required
  required_kept name d = then_kept P (get name d) shape kept

  -- an item
  pub item_kept : (place : ℕ) → Keeps P (item_at shape place)
  unfolding item_at
  item_kept place d = then_kept P (at place d) shape kept

  some_kept : (d : Data) → IfSome (shape d >>= λ x. Some (Some x)) (λ found. IfSome found P)
  some_kept d = then_kept_by P (λ found. IfSome found P) (shape d) (λ x. Some (Some x)) (kept d) (λ x given. given)

  nullable_kept : Keeps (λ found. IfSome found P) (nullable shape)
  nullable_kept null = tt
  nullable_kept (boolean b) = some_kept (boolean b)
  nullable_kept (number n) = some_kept (number n)
  nullable_kept (string s) = some_kept (string s)
  nullable_kept (array ds) = some_kept (array ds)
  nullable_kept (object ms) = some_kept (object ms)

  given_kept : (given : Option Data) → IfSome (if_given (nullable shape) given) (λ found. IfSome found P)
  given_kept None = tt
  given_kept (Some d) = nullable_kept d

  -- a member that may be absent
  pub optional_kept : (name : List ℕ) → Keeps (λ found. IfSome found P) (optional shape name)
  unfolding optional
  optional_kept name d = given_kept (get name d)

  -- the only item
  pub only_kept : Keeps (λ (x : Only A). P x.only) (only_of shape)
  unfolding only_of item_at
  only_kept d =
      then_kept (λ (x : Only A). P x.only) (item_count d) (λ n. of_count 1 n (first_of shape d))
      (λ n. count_kept (λ (x : Only A). P x.only) 1 n (first_of shape d) (then_kept_by P (λ (x : Only A). P x.only) (item_at shape 0 d) (λ x. Some (record { only = x })) (item_kept 0 d) (λ x first. first)))

or_empty_kept : {A : Type 0} (P : A → Type 0) (found : Option (List A)) → IfSome found (All P) → All P (or_empty found)
or_empty_kept P None kept = All-nil P
or_empty_kept P (Some xs) kept = kept

-- each item of a list that is a member
pub required_list_kept : {A : Type 0} (P : A → Type 0) (shape : Data → Option A) → Keeps P shape → (name : List ℕ) → Keeps (All P) (required (list_of shape) name)
required_list_kept P shape kept = required_kept (All P) (list_of shape) (list_kept P shape kept)

-- each item of a list that may be absent
pub list_or_empty_kept : {A : Type 0} (P : A → Type 0) (shape : Data → Option A) → Keeps P shape → (name : List ℕ) → Keeps (All P) (list_or_empty shape name)
unfolding list_or_empty
list_or_empty_kept P shape kept name d =
    then_kept_by (λ found. IfSome found (All P)) (All P) (optional (list_of shape) name d) (λ found. Some (or_empty found)) (optional_kept (All P) (list_of shape) (list_kept P shape kept) name d) (or_empty_kept P)
