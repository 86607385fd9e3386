-- Nodes as two numbers.
use Rattle.std.specs.Prelude.{ℕ, if◌then◌else◌, ◌==◌, ◌/◌, ◌%◌}
use Rattle.json_tree.specs.declared.node.Node.{Node}
use Rattle.json_tree.specs.declared.node.Node.TheVariants as nodes

-- the node of a kind that two numbers go with
abbrev pub of_kind : ℕ → ℕ → ℕ → Node
of_kind kind number second =
    if kind == 0 then nodes.Null else if kind == 1 then nodes.Bool (number == 1) else if kind == 2 then nodes.Number number second else if kind == 3 then nodes.Text number second else if kind == 4 then nodes.Array number second else nodes.Object number second

-- the node that is stored as two numbers, of which the first is its kind in the lowest 3 bits
abbrev pub node_of : ℕ → ℕ → Node
node_of first second = of_kind (first % 8) (first / 8) second

-- the number of a node that is stored beside its kind, where it has one that can be large
abbrev pub number_in : Node → ℕ
number_in (nodes.Number start end) = start
number_in (nodes.Text start end) = start
number_in (nodes.Array count inside) = count
number_in (nodes.Object count inside) = count
number_in _ = 0
