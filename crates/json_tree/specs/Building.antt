-- How a tree grows while a text is read.
use Rattle.std.specs.Prelude.{◌≡◌, ◌<◌, ℕ, List, [], ◌∷◌, ◌++◌, length, Result, Ok, Err, Option, Some, None, option_map, string_bytes, ⊤}
use Rattle.std.specs.Str.{IsUtf8}
use Rattle.json.specs.Token.{Token}
use Rattle.json.specs.Json as json
use Rattle.serde_json.specs.Data.{Data, null, boolean, number, string, array, object, Items, Members, no_members}
use Rattle.serde_json.specs.Read.{number_of, of_json, of_items, of_members, converted}
use Rattle.serde_json.specs.View.{items_of}
use Rattle.list_types.specs.declared.memory.Refusal.{Refusal}
use Rattle.list_types.specs.declared.memory.Refusal.TheVariants.{NoMemory, For}
use Rattle.json_tree.specs.declared.node.Node.{Node}
use Rattle.json_tree.specs.declared.reading.NotJson.{NotJson}
use Rattle.json_tree.specs.declared.reading.Building.{Building}
use Rattle.json_tree.specs.Nodes.{values, puts, AreSound}

-- nodes that stand for these values, whatever stands behind them and whatever is added to the text
pub record Adds (text : List ℕ) (added : List Node) (ds : List Data) : Type 0 where
  pub hold : (more : List ℕ) → IsUtf8 more → (rest : List Node) → values (text ++ more) (added ++ rest) ≡ ds ++ values (text ++ more) rest
  pub sound : (more : List ℕ) → IsUtf8 more → (rest : List Node) → AreSound (text ++ more) rest → AreSound (text ++ more) (added ++ rest)

-- these values were added to a text and its nodes
pub record Grown (old_text : List ℕ) (old : List Node) (text : List ℕ) (nodes : List Node) (ds : List Data) : Type 0 where
  pub added : List Node
  pub nodes_are : nodes ≡ old ++ added
  pub said : List ℕ
  pub utf8 : IsUtf8 said
  pub text_is : text ≡ old_text ++ said
  pub adds : Adds text added ds

-- the same for a tree that is built
abbrev pub GrownBy : Building → Building → List Data → Type 0
GrownBy old new ds = Grown (string_bytes old.text) old.nodes.items (string_bytes new.text) new.nodes.items ds

-- ---- what a reader of tokens answers

-- what it gives is so, and a refusal that is not for want of memory says that there is nothing
abbrev pub Takes : {A : Type 0} → Result A (Refusal NotJson) → (A → Type 0) → Type 0 → Type 0
Takes (Ok x) Given Nothing = Given x
Takes (Err NoMemory) Given Nothing = ⊤
Takes (Err (For _)) Given Nothing = Nothing

-- the value of a token by itself
abbrev pub leaf_of : Token → Option Data
leaf_of Token.begin_object = None
leaf_of Token.end_object = None
leaf_of Token.begin_array = None
leaf_of Token.end_array = None
leaf_of (Token.key s) = None
leaf_of (Token.string s) = Some (string s)
leaf_of (Token.number s) = option_map number (number_of s)
leaf_of (Token.boolean b) = Some (boolean b)
leaf_of Token.null = Some null
leaf_of Token.bad = None

-- the value of a token was added
pub record AddsLeaf (token : Token) (old new : Building) : Type 0 where
  pub value : Data
  pub grown : GrownBy old new (value ∷ [])
  pub is : leaf_of token ≡ Some value

-- a value was read of some tokens, and these are left
pub record ReadsValue (depth : ℕ) (old new : Building) (tokens rest : List Token) : Type 0 where
  pub value : Data
  pub grown : GrownBy old new (value ∷ [])
  pub is : converted of_json (json.value depth tokens) ≡ Some (value, rest)
  pub shorter : length rest < length tokens

-- what is read of items, of which these are the tokens, and of the bracket behind them
abbrev pub items_read : ℕ → List Token → Option (Items × List Token)
items_read depth tokens = converted of_items (json.items (json.value depth) (length tokens) tokens)

-- what is read of members, of which these are the tokens, and of the brace behind them
abbrev pub members_read : ℕ → List Token → Option (Members × List Token)
members_read depth tokens = converted (λ ms. of_members ms no_members) (json.members (json.value depth) (length tokens) tokens)

-- items were read, and the bracket behind them
pub record ReadsItems (depth : ℕ) (old new : Building) (tokens rest : List Token) (count : ℕ) : Type 0 where
  pub found : List Data
  pub grown : GrownBy old new found
  pub counted : count ≡ length found
  pub is : items_read depth tokens ≡ Some (items_of found, rest)
  pub shorter : length rest < length tokens

-- members were read, and the brace behind them
pub record ReadsMembers (depth : ℕ) (old new : Building) (tokens rest : List Token) (count : ℕ) : Type 0 where
  pub found : List Data
  pub grown : GrownBy old new found
  pub counted : count ≡ length found
  pub is : members_read depth tokens ≡ Some (puts found no_members, rest)
  pub shorter : length rest < length tokens

-- the same, with what stands for all of them
pub record ReadsArray (depth : ℕ) (old new : Building) (tokens rest : List Token) : Type 0 where
  pub value : Items
  pub grown : GrownBy old new (array value ∷ [])
  pub is : items_read depth tokens ≡ Some (value, rest)
  pub shorter : length rest < length tokens

pub record ReadsObject (depth : ℕ) (old new : Building) (tokens rest : List Token) : Type 0 where
  pub value : Members
  pub grown : GrownBy old new (object value ∷ [])
  pub is : members_read depth tokens ≡ Some (value, rest)
  pub shorter : length rest < length tokens
