-- What the nodes of a tree stand for.
use Rattle.std.specs.Prelude.{◌≡◌, ℕ, ◌-◌, ◌<◌, ◌≤◌, Bool, true, false, List, [], ◌∷◌, length, take, drop, negsuc, Option, Some, None, ⊤}
use Rattle.std.specs.Str.{IsCharBoundary}
use Rattle.serde_json.specs.Data.{Num, negative, Data, null, boolean, number, string, array, object, Members, no_members, put}
use Rattle.serde_json.specs.Read.{number_of}
use Rattle.serde_json.specs.View.{items_of}
use Rattle.json_tree.specs.declared.node.Node.{Node}
use Rattle.json_tree.specs.declared.node.Node.TheVariants as nodes

-- the bytes of a text from one place up to another
abbrev pub part : List ℕ → ℕ → ℕ → List ℕ
part text start end = take (end - start) (drop start text)

-- a number that is none of those that are read stands for one that is below zero
abbrev pub number_or : Option Num → Num
number_or None = negative (negsuc 0)
number_or (Some n) = n

-- the bytes of a string
abbrev pub name_of : Data → List ℕ
name_of null = []
name_of (boolean b) = []
name_of (number n) = []
name_of (string s) = s
name_of (array ds) = []
name_of (object ms) = []

-- the members whose names and values stand by turns, put to some members one after another, so that the last value of a name stays
abbrev pub puts : List Data → Members → Members
puts [] found = found
puts (name ∷ []) found = found
puts (name ∷ d ∷ rest) found = puts rest (put (name_of name) d found)

-- what a node and those behind it stand for, where those behind it stand for these values
abbrev pub with_node : List ℕ → Node → List Data → List Data
with_node text nodes.Null after = null ∷ after
with_node text (nodes.Bool b) after = boolean b ∷ after
with_node text (nodes.Number start end) after = number (number_or (number_of (part text start end))) ∷ after
with_node text (nodes.Text start end) after = string (part text start end) ∷ after
with_node text (nodes.Array count inside) after = array (items_of (take count after)) ∷ drop count after
with_node text (nodes.Object count inside) after = object (puts (take count after) no_members) ∷ drop count after

-- the values that nodes stand for, without those that stand in others
abbrev pub values : List ℕ → List Node → List Data
values text [] = []
values text (node ∷ rest) = with_node text node (values text rest)

-- the bytes between two places are a text
pub record IsPart (text : List ℕ) (start end : ℕ) : Type 0 where
  pub ordered : start ≤ end
  pub begins : IsCharBoundary text start
  pub ends : IsCharBoundary text end

-- so many nodes hold so many values
pub record Holds (text : List ℕ) (count inside : ℕ) (rest : List Node) : Type 0 where
  pub within : inside ≤ length rest
  pub enough : count ≤ length (values text rest)
  pub behind : drop count (values text rest) ≡ values text (drop inside rest)

-- what a node says of the text and of those behind it is so
abbrev pub IsSound : List ℕ → Node → List Node → Type 0
IsSound text nodes.Null rest = ⊤
IsSound text (nodes.Bool b) rest = ⊤
IsSound text (nodes.Number start end) rest = IsPart text start end
IsSound text (nodes.Text start end) rest = IsPart text start end
IsSound text (nodes.Array count inside) rest = Holds text count inside rest
IsSound text (nodes.Object count inside) rest = Holds text count inside rest

-- the same for each node
abbrev pub AreSound : List ℕ → List Node → Type 0
AreSound text [] = ⊤
AreSound text (node ∷ rest) = IsSound text node rest × AreSound text rest

-- there is a value
abbrev pub IsElement : List ℕ → List Node → Type 0
IsElement text nodes = AreSound text nodes × (0 < length nodes)

-- there are at least so many values
abbrev pub HasValues : List ℕ → List Node → ℕ → Type 0
HasValues text nodes count = AreSound text nodes × (count ≤ length (values text nodes))

-- ---- one node by itself

-- how many nodes stand in it
abbrev pub inside_of : Node → ℕ
inside_of (nodes.Array count inside) = inside
inside_of (nodes.Object count inside) = inside
inside_of _ = 0

abbrev pub is_null_node : Node → Bool
is_null_node nodes.Null = true
is_null_node _ = false

abbrev pub truth_in : Node → Option Bool
truth_in (nodes.Bool b) = Some b
truth_in _ = None

-- where its text begins and ends
abbrev pub text_in : Node → Option (ℕ × ℕ)
text_in (nodes.Text start end) = Some (start, end)
text_in _ = None

-- where its digits begin and end
abbrev pub digits_in : Node → Option (ℕ × ℕ)
digits_in (nodes.Number start end) = Some (start, end)
digits_in _ = None

-- how many items it has
abbrev pub items_of_node : Node → Option ℕ
items_of_node (nodes.Array count inside) = Some count
items_of_node _ = None

-- how many names and values it has
abbrev pub members_of_node : Node → Option ℕ
members_of_node (nodes.Object count inside) = Some count
members_of_node _ = None
