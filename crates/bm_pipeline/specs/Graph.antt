-- Graphs without a loop.
use Rattle.std.specs.Prelude.{◌≡◌, ℕ, zero, suc, Bool, true, false, List}
use Rattle.std.specs.List.{list_any}

-- a path of so many edges begins at a node, where each node leads to those of a list
abbrev pub has_path : {A : Type 0} → (A → List A) → ℕ → A → Bool
has_path leads zero node = true
has_path leads (suc edges) node = list_any (has_path leads edges) (leads node)

-- A graph of so many nodes has no loop: no path has as many edges as there are nodes, which would come by a node twice.
abbrev pub HasNoLoop : {A : Type 0} → (A → List A) → ℕ → Type 0
HasNoLoop leads nodes = (node : _) → has_path leads nodes node ≡ false
