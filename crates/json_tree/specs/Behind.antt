-- Some nodes behind others: what is found in a tree begins among the nodes of its root.
use Rattle.std.specs.Prelude.{◌≡◌, ◌-◌, ◌<◌, ℕ, List, length, drop}
use Rattle.json_tree.specs.declared.node.Node.{Node}

-- the last of some nodes, beside the text that they speak of
abbrev pub last_nodes : ℕ → List ℕ × List Node → List ℕ × List Node
last_nodes left p = (p.0, drop (length p.1 - left) p.1)

-- the last of some nodes, and not all of them
pub record AreBehind (all rest : List ℕ × List Node) : Type 0 where
  pub fewer : length rest.1 < length all.1
  pub last : rest ≡ last_nodes (length rest.1) all
