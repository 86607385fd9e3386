-- The data that a value of a tree stands for.
use Rattle.std.specs.Prelude.{ℕ, List, [], ◌∷◌, take, ⊤}
use Rattle.serde_json.specs.Data.{Data, null}
use Rattle.json_tree.specs.declared.node.Node.{Node}
use Rattle.json_tree.specs.Nodes.{values}

abbrev pub first_of : List Data → Data
first_of [] = null
first_of (d ∷ ds) = d

-- the value that begins with the first of some nodes, which speak of a text
abbrev pub view : List ℕ × List Node → Data
view p = first_of (values p.0 p.1)

-- so many of the values that begin with the first of some nodes
abbrev pub items_in : ℕ × (List ℕ × List Node) → List Data
items_in p = take p.0 (values p.1.0 p.1.1)

-- no name with a value is there
abbrev pub HasNoMember : List Data → Type 0
HasNoMember [] = ⊤
HasNoMember (name ∷ []) = ⊤
HasNoMember (name ∷ d ∷ rest) = ⊥
