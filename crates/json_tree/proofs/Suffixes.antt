-- The last of some nodes that are the last of others.
use Rattle.std.proofs.Common.{◌≡◌, ℕ, ◌+◌, ◌-◌, ◌<◌, ◌≤◌, List, length, drop, ap, ap₂, ◌∙◌, arith}
use Rattle.std.proofs.lemmas.List.{drop-drop}
use Rattle.json_tree.specs.declared.node.Node.{Node}
use Rattle.json_tree.specs.Behind.{last_nodes, AreBehind}

pub last_of_last : (all middle rest : List ℕ × List Node) → middle ≡ last_nodes (length middle.1) all → length middle.1 ≤ length all.1 → AreBehind middle rest → rest ≡ last_nodes (length rest.1) all
last_of_last all middle rest is within behind =
    let fewer : length rest.1 < length middle.1 = behind.fewer in
    let on : length all.1 - length middle.1 + (length middle.1 - length rest.1) ≡ length all.1 - length rest.1 = omega arith in
    let nodes : drop (length middle.1 - length rest.1) middle.1 ≡ drop (length all.1 - length rest.1) all.1 =
    ap (λ p. drop (length middle.1 - length rest.1) p.1) is ∙ drop-drop (length middle.1 - length rest.1) (length all.1 - length middle.1) all.1 ∙ ap (λ n. drop n all.1) on in
    behind.last ∙ ap₂ (λ t ns. (t, ns)) (ap (λ p. p.0) is) nodes
