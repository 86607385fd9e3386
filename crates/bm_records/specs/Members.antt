-- The members that stand at some places of a tree.
use Rattle.std.specs.Prelude.{ℕ, ◌<◌, ◌≤◌, List, [], ◌∷◌, length}
use Rattle.serde_json.specs.Data.{Members, no_members, member}
use Rattle.json_tree.specs.declared.node.Node.{Node}
use Rattle.json_tree.specs.Behind.{last_nodes}
use Rattle.json_tree.specs.View.{view}
use Rattle.bm_records.specs.Firsts.{Numbered}

-- names, each beside the number of nodes that are left where its value begins
abbrev pub members_at : List ℕ × List Node → List Numbered → Members
members_at nodes [] = no_members
members_at nodes (p ∷ ps) = member p.0 (view (last_nodes p.1 nodes)) (members_at nodes ps)

-- so many nodes may be left where a value begins
abbrev pub IsPlace : List ℕ × List Node → ℕ → Type 0
IsPlace nodes left = (0 < left) × (left ≤ length nodes.1)
