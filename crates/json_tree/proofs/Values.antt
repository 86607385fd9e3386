-- What is read of a value, by its first token.
use Rattle.std.proofs.Common.{◌≡◌, ℕ, ◌-◌, ◌<◌, List, [], ◌∷◌, length, true, false, Result, Ok, Err, Option, Some, None, OnOk, IfErr, is_some, option_map, refl, ap, ◌∙◌, arith}
use Rattle.json.specs.Token.{Token}
use Rattle.json.specs.Json as json
use Rattle.json.specs.Json.{parse_map}
use Rattle.json.specs.Reads.{token_of}
use Rattle.json.specs.declared.token.Token as rust
use Rattle.json.specs.declared.token.Token.TheVariants as tokens
use Rattle.json.proofs.Grammar.{value_is, value-begin_array, value-begin_object}
use Rattle.list_types.specs.declared.memory.Refusal.{Refusal}
use Rattle.list_types.specs.declared.memory.Refusal.TheVariants.{NoMemory, For}
use Rattle.serde_json.specs.Data.{Num, Data, number, array, object}
use Rattle.serde_json.specs.Read.{number_of, of_json, converted}
use Rattle.json_tree.specs.declared.reading.NotJson.{NotJson}
use Rattle.json_tree.specs.declared.reading.Building.{Building}
use Rattle.json_tree.specs.Nodes.{number_or}
use Rattle.json_tree.specs.Building.{GrownBy, Takes, leaf_of, AddsLeaf, items_read, members_read, ReadsValue, ReadsArray, ReadsObject}
use Rattle.json_tree.proofs.Converting.{converted-array, converted-object}

abbrev pub Read : ℕ → List Token → Option (Data × List Token)
Read depth ts = converted of_json (json.value depth ts)

-- ---- refusals

pub no_memory : {A : Type 0} (e : Refusal NotJson) (Given : A → Type 0) (Nothing : Type 0) → e ≡ NoMemory → Takes (Err e) Given Nothing
no_memory NoMemory Given Nothing is = tt
no_memory (For x) Given Nothing is = absurd (let never : ⊥ = cc in never)

-- a refusal says the same of another value that is wanted
pub refused_too : {A B : Type 0} (e : Refusal NotJson) (Given : A → Type 0) (Other : B → Type 0) (Nothing More : Type 0) → (Nothing → More) → Takes (Err e) Given Nothing → Takes (Err e) Other More
refused_too NoMemory Given Other Nothing More f h = tt
refused_too (For x) Given Other Nothing More f h = f h

-- ---- values of one token

pub adds_leaf : {A : Type 0} (x : Result A (Refusal NotJson)) (t : Token) (old new : Building) (d : Data) → leaf_of t ≡ Some d → OnOk x (GrownBy old new (d ∷ [])) → IfErr x (λ e. e ≡ NoMemory)
    → Takes x (λ _. AddsLeaf t old new) (leaf_of t ≡ None)
adds_leaf (Ok y) t old new d is g e = record { value = d; grown = g; is = is }
adds_leaf (Err e) t old new d is g none = no_memory e (λ _. AddsLeaf t old new) (leaf_of t ≡ None) none

number_leaf : (o : Option Num) → is_some o ≡ true → option_map number o ≡ Some (number (number_or o))
number_leaf None some = absurd (let never : ⊥ = cc in never)
number_leaf (Some n) some = refl

pub number_is_leaf : (s : List ℕ) → is_some (number_of s) ≡ true → leaf_of (Token.number s) ≡ Some (number (number_or (number_of s)))
number_is_leaf s some = number_leaf (number_of s) some

no_number : (o : Option Num) → is_some o ≡ false → option_map number o ≡ None
no_number None none = refl
no_number (Some n) none = absurd (let never : ⊥ = cc in never)

pub number_is_none : (s : List ℕ) → is_some (number_of s) ≡ false → leaf_of (Token.number s) ≡ None
number_is_none s none = no_number (number_of s) none

leaf_is : (depth : ℕ) (r : List Token) (t : rust.Token) → (t ≡ tokens.BeginArray → ⊥) → (t ≡ tokens.BeginObject → ⊥) → Read depth (token_of t ∷ r) ≡ option_map (λ d. (d, r)) (leaf_of (token_of t))
leaf_is depth r tokens.BeginObject a o = absurd (o refl)
leaf_is depth r tokens.EndObject a o = ap (converted of_json) (value_is depth (Token.end_object ∷ r))
leaf_is depth r tokens.BeginArray a o = absurd (a refl)
leaf_is depth r tokens.EndArray a o = ap (converted of_json) (value_is depth (Token.end_array ∷ r))
leaf_is depth r (tokens.Key s) a o = ap (converted of_json) (value_is depth (Token.key s.now ∷ r))
leaf_is depth r (tokens.String s) a o = ap (converted of_json) (value_is depth (Token.string s.now ∷ r))
leaf_is depth r (tokens.Number s) a o = ap (converted of_json) (value_is depth (Token.number s.now ∷ r))
leaf_is depth r (tokens.Bool b) a o = ap (converted of_json) (value_is depth (Token.boolean b ∷ r))
leaf_is depth r tokens.Null a o = ap (converted of_json) (value_is depth (Token.null ∷ r))
leaf_is depth r tokens.Bad a o = ap (converted of_json) (value_is depth (Token.bad ∷ r))

pub leaf_read : {A : Type 0} (x : Result A (Refusal NotJson)) (depth : ℕ) (old new : Building) (ts r : List Token) (t : rust.Token) → (t ≡ tokens.BeginArray → ⊥) → (t ≡ tokens.BeginObject → ⊥) → ts ≡ token_of t ∷ r
    → Takes x (λ _. AddsLeaf (token_of t) old new) (leaf_of (token_of t) ≡ None) → Takes x (λ _. ReadsValue depth old new ts r) (Read depth ts ≡ None)
leaf_read (Ok y) depth old new ts r t a o e l = record {
  value = l.value;
  grown = l.grown;
  is = ap (Read depth) e ∙ leaf_is depth r t a o ∙ ap (option_map (λ d. (d, r))) l.is;
  shorter = omega (arith, ap length e);
}
leaf_read (Err NoMemory) depth old new ts r t a o e l = tt
leaf_read (Err (For y)) depth old new ts r t a o e none = ap (Read depth) e ∙ leaf_is depth r t a o ∙ ap (option_map (λ d. (d, r))) none

pub no_token : (depth : ℕ) (ts : List Token) → ts ≡ [] → Read depth ts ≡ None
no_token depth ts e = ap (converted of_json) (ap (json.value depth) e ∙ value_is depth [])

-- ---- arrays and objects

opened_array : (depth : ℕ) (ts r : List Token) → ts ≡ Token.begin_array ∷ r → 0 < depth → Read depth ts ≡ parse_map array (items_read (depth - 1) r)
opened_array depth ts r e some = ap (converted of_json) (ap (json.value depth) e ∙ value-begin_array depth r some) ∙ converted-array (json.items (json.value (depth - 1)) (length r) r)

opened_object : (depth : ℕ) (ts r : List Token) → ts ≡ Token.begin_object ∷ r → 0 < depth → Read depth ts ≡ parse_map object (members_read (depth - 1) r)
opened_object depth ts r e some = ap (converted of_json) (ap (json.value depth) e ∙ value-begin_object depth r some) ∙ converted-object (json.members (json.value (depth - 1)) (length r) r)

pub array_read : {A : Type 0} (x : Result A (Refusal NotJson)) (depth : ℕ) (old new : Building) (ts s r : List Token) → ts ≡ Token.begin_array ∷ s → 0 < depth
    → Takes x (λ _. ReadsArray (depth - 1) old new s r) (items_read (depth - 1) s ≡ None) → Takes x (λ _. ReadsValue depth old new ts r) (Read depth ts ≡ None)
array_read (Ok y) depth old new ts s r e some a = record {
  value = array a.value;
  grown = a.grown;
  is = opened_array depth ts s e some ∙ ap (parse_map array) a.is;
  shorter = omega (arith, ap length e, a.shorter);
}
array_read (Err NoMemory) depth old new ts s r e some a = tt
array_read (Err (For y)) depth old new ts s r e some none = opened_array depth ts s e some ∙ ap (parse_map array) none

pub object_read : {A : Type 0} (x : Result A (Refusal NotJson)) (depth : ℕ) (old new : Building) (ts s r : List Token) → ts ≡ Token.begin_object ∷ s → 0 < depth
    → Takes x (λ _. ReadsObject (depth - 1) old new s r) (members_read (depth - 1) s ≡ None) → Takes x (λ _. ReadsValue depth old new ts r) (Read depth ts ≡ None)
object_read (Ok y) depth old new ts s r e some a = record {
  value = object a.value;
  grown = a.grown;
  is = opened_object depth ts s e some ∙ ap (parse_map object) a.is;
  shorter = omega (arith, ap length e, a.shorter);
}
object_read (Err NoMemory) depth old new ts s r e some a = tt
object_read (Err (For y)) depth old new ts s r e some none = opened_object depth ts s e some ∙ ap (parse_map object) none

pub array_too_deep : (depth : ℕ) (ts r : List Token) → ts ≡ Token.begin_array ∷ r → depth ≡ 0 → Read depth ts ≡ None
array_too_deep depth ts r e z = ap (λ d. Read d ts) z ∙ ap (Read 0) e ∙ ap (converted of_json) (value_is 0 (Token.begin_array ∷ r))

pub object_too_deep : (depth : ℕ) (ts r : List Token) → ts ≡ Token.begin_object ∷ r → depth ≡ 0 → Read depth ts ≡ None
object_too_deep depth ts r e z = ap (λ d. Read d ts) z ∙ ap (Read 0) e ∙ ap (converted of_json) (value_is 0 (Token.begin_object ∷ r))
