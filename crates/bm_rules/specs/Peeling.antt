-- Graphs that are peeled: a node that leads to peeled nodes alone may be peeled.
use Rattle.std.specs.Prelude.{◌≡◌, ℕ, ◌<◌, nat_lt, Bool, true, false, List, length, slice_index_or, sum_by}
use Rattle.std.specs.List.{list_all}
use Rattle.bm_pipeline.specs.Graph.{has_path}
use Rattle.bm_rules.specs.Graphs.{leads}

-- a truth value as a number
abbrev pub number : Bool → ℕ
number true = 1
number false = 0

-- how many nodes are peeled
abbrev pub peeled_count : List Bool → ℕ
peeled_count peeled = sum_by number peeled

-- a node is peeled
abbrev pub is_peeled : List Bool → ℕ → Bool
is_peeled peeled node = slice_index_or peeled node false

-- no peeled node begins a path of as many edges as nodes are peeled
abbrev pub NoLong : List (List ℕ) → List Bool → Type 0
NoLong edges peeled = (i : ℕ) → is_peeled peeled i ≡ true → has_path (leads edges) (peeled_count peeled) i ≡ false

-- a node cannot be peeled
abbrev pub IsStuck : List (List ℕ) → List Bool → ℕ → Type 0
IsStuck edges peeled i = i < length peeled → is_peeled peeled i ≡ false → list_all (is_peeled peeled) (leads edges i) ≡ false

-- each node leads to nodes of the graph
abbrev pub IsInside : List (List ℕ) → Type 0
IsInside edges = (i : ℕ) → list_all (λ j. nat_lt j (length edges)) (leads edges i) ≡ true
