-- How many hits a walk has at most: an entry and 64 cells in each table, to none of which it comes twice.
use Rattle.std.proofs.Common.{◌≡◌, ◌<◌, ◌≤◌, ◌+◌, ◌*◌, ◌||◌, ap, subst, ℕ, zero, suc, Bool, true, false, cond, refl, List, [], ◌∷◌, ◌++◌, length, length-append, Option, Some, None, ltb, eqb, arith}
use Rattle.std.specs.Prelude.{◌≢◌, All, slice_get}
use Rattle.std.specs.List.{flat_map, fold, list_any, AllPairs}
use Rattle.std.proofs.lemmas.Bool.Decides.{nat_tests, Decides-eqb}
use Rattle.std.proofs.lemmas.List.Elements.{All-nil, All-cons, All-head, All-tail}
use Rattle.std.proofs.lemmas.List.Kept.{AllPairs-cons}
use Rattle.std.proofs.lemmas.Map.Made.{IsDistinct-from_AllPairs}
use Rattle.std.proofs.lemmas.Map.Steps.{length-le_from_distinct_below}
use Rattle.bm_pipeline.specs.declared.actions.Action.{Action}
use Rattle.bm_pipeline.specs.declared.actions.Primitive.{Primitive}
use Rattle.bm_pipeline.specs.declared.actions.Primitive.TheVariants as primitives
use Rattle.bm_pipeline.specs.declared.program.Program.{Program}
use Rattle.bm_pipeline.specs.declared.tables.Conditional.{Conditional}
use Rattle.bm_pipeline.specs.declared.tables.Node.{Node}
use Rattle.bm_pipeline.specs.declared.tables.Node.TheVariants as nodes
use Rattle.bm_pipeline.specs.declared.tables.Table.{Table}
use Rattle.bm_pipeline.specs.Places.{node_count}
use Rattle.bm_pipeline.specs.Validity.{IsAction, IsValid}
use Rattle.p4_types.specs.declared.info.Counter.{Counter}
use Rattle.p4_types.specs.declared.records.HitMark.{HitMark}
use Rattle.p4_types.specs.declared.records.HitMark.TheVariants as marks
use Rattle.p4_types.specs.declared.table.Entry.{Entry}
use Rattle.packet_spec.specs.Choosing.{Called, found, acts}
use Rattle.packet_spec.specs.Walking.{Walk, Walks, cells_before, cell_in, cell_hit, entry_hit, run_if, ran, starting, table_done, conditional_done, node_done, walk_from}
use Rattle.packet_spec.proofs.NoRepeat.{no_node_twice}
use Rattle.packet_spec.proofs.OneWalk.{walk_ends}
use Rattle.plane_spec.specs.Planes.{Plane}
use Rattle.program_spec.specs.Actions.{Counted, Effects, counted, primitive_done, action_done}

-- what all of a list have its item at a place has
pub at_has : {X : Type 0} (P : X → Type 0) (xs : List X) (i : ℕ) (x : X) → All P xs → slice_get xs i ≡ Some x → P x
at_has P [] i x all at = absurd cc
at_has P (y ∷ xs) zero x all at = let same : y ≡ x = cc in subst P same (All-head P y xs all)
at_has P (y ∷ xs) (suc i) x all at = at_has P xs i x (All-tail P y xs all) at

is_within : {X : Type 0} (xs : List X) (i : ℕ) (x : X) → slice_get xs i ≡ Some x → i < length xs
is_within [] i x at = absurd cc
is_within (y ∷ xs) zero x at = omega arith
is_within (y ∷ xs) (suc i) x at = omega (arith, is_within xs i x at)

at_most_one : (b : Bool) (mark : HitMark) → length (cond b (mark ∷ []) []) ≤ 1
at_most_one true mark = omega arith
at_most_one false mark = omega arith

cell_in_few : (plane : Plane) (o : Option Counter) (first : ℕ) (count : Counted) → length (cell_in o first plane count) ≤ 1
cell_in_few plane None first count = omega arith
cell_in_few plane (Some counter) first count = at_most_one (ltb count.index counter.size) (marks.Cell (first + count.index))

-- counts hit no more cells than there are of them
cells_few : (plane : Plane) (counts : List Counted) → length (flat_map (cell_hit plane) counts) ≤ length counts
cells_few plane [] = omega arith
cells_few plane (count ∷ counts) =
    omega (arith, length-append (cell_hit plane count) (flat_map (cell_hit plane) counts), cell_in_few plane (slice_get plane.config.info.counters count.counter) (plane.cells + cells_before count.counter plane) count, cells_few plane counts)

counted_more : (o : Option ℕ) (index : ℕ) (effects : Effects) → length (counted o index effects).counted ≤ length effects.counted + 1
counted_more None index effects = omega arith
counted_more (Some counter) index effects = omega (arith, length-append effects.counted (record { counter = counter; index = index } ∷ []))

one_more : (program : Program) (args : List ℕ) (effects : Effects) (primitive : Primitive) → length (primitive_done program args effects primitive).counted ≤ length effects.counted + 1
one_more program args effects (primitives.Assign target value) = omega arith
one_more program args effects (primitives.AddHeader place) = omega arith
one_more program args effects (primitives.RemoveHeader header) = omega arith
one_more program args effects (primitives.AssignHeader target source) = omega arith
one_more program args effects primitives.MarkToDrop = omega arith
one_more program args effects (primitives.Count counter index) = counted_more counter _ effects
one_more program args effects (primitives.GenerateDigest list) = omega arith
one_more program args effects primitives.NoOp = omega arith

all_more : (program : Program) (args : List ℕ) (effects : Effects) (list : List Primitive) → length (fold (primitive_done program args) effects list).counted ≤ length effects.counted + length list
all_more program args effects [] = omega arith
all_more program args effects (primitive ∷ list) = omega (arith, all_more program args (primitive_done program args effects primitive) list, one_more program args effects primitive)

-- an action counts at most 64 times
action_few : (program : Program) (action : Action) (args : List ℕ) (effects : Effects) → IsAction program action → length (action_done program action args effects).counted ≤ length effects.counted + 64
unfolding action_done
action_few program action args effects valid = omega (arith, all_more program args effects action.primitives, valid.limit)

run_if_few : (plane : Plane) (o : Option Action) (args : List ℕ) (effects : Effects) → ((action : Action) → o ≡ Some action → IsAction plane.config.program action)
    → length (run_if plane o args effects).counted ≤ length effects.counted + 64
run_if_few plane None args effects valid = omega arith
run_if_few plane (Some action) args effects valid = action_few plane.config.program action args effects (valid action refl)

ran_few : (plane : Plane) → IsValid plane.config.program → (call : Option Called) (effects : Effects) → length (ran plane call effects).counted ≤ length effects.counted + 64
ran_few plane valid None effects = omega arith
ran_few plane valid (Some call) effects =
    run_if_few plane (slice_get plane.config.program.actions call.action.action) call.args effects (λ action at. at_has (IsAction plane.config.program) plane.config.program.actions call.action.action action valid.actions at)

entry_few : (o : Option Entry) → length (entry_hit o) ≤ 1
entry_few None = omega arith
entry_few (Some entry) = omega arith

-- a table hits an entry and 64 cells at most
table_few : (plane : Plane) → IsValid plane.config.program → (table : Table) (walk : Walk) → length (table_done plane (Some table) walk).walk.hits ≤ length walk.hits + 65
table_few plane valid table walk =
    let entry : Option Entry = found plane table walk.store in
    let call : Option Called = acts plane table entry walk.store in
    let counts : List Counted = (ran plane call (starting walk)).counted in
    let number : length counts ≤ 64 = omega (arith, ran_few plane valid call (starting walk)) in
    omega (arith, length-append (walk.hits ++ entry_hit entry) (flat_map (cell_hit plane) counts), length-append walk.hits (entry_hit entry), entry_few entry, cells_few plane counts, number)

table_grows : (plane : Plane) (o : Option Table) (walk : Walk) → length walk.hits ≤ length (table_done plane o walk).walk.hits
table_grows plane None walk = omega arith
table_grows plane (Some table) walk =
    let entry : Option Entry = found plane table walk.store in
    let counts : List Counted = (ran plane (acts plane table entry walk.store) (starting walk)).counted in
    omega (arith, length-append (walk.hits ++ entry_hit entry) (flat_map (cell_hit plane) counts), length-append walk.hits (entry_hit entry))

conditional_same : (o : Option Conditional) (walk : Walk) → length (conditional_done o walk).walk.hits ≡ length walk.hits
conditional_same None walk = refl
conditional_same (Some conditional) walk = refl

node_grows : (plane : Plane) (node : Node) (walk : Walk) → length walk.hits ≤ length (node_done plane node walk).walk.hits
node_grows plane (nodes.Table place) walk = table_grows plane (slice_get plane.config.program.tables place) walk
node_grows plane (nodes.Conditional place) walk = omega (arith, conditional_same (slice_get plane.config.program.conditionals place) walk)

-- a walk loses no hits
pub walk_grows : (plane : Plane) (more : ℕ) (next : Option Node) (walk : Walk) → length walk.hits ≤ length (walk_from plane more next walk).hits
walk_grows plane zero next walk = omega arith
walk_grows plane (suc more) None walk = omega arith
walk_grows plane (suc more) (Some node) walk = omega (arith, node_grows plane node walk, walk_grows plane more (node_done plane node walk).next (node_done plane node walk).walk)

-- the places of the tables that a path comes to, of so many
abbrev table_places : ℕ → List Node → List ℕ
table_places n [] = []
table_places n (nodes.Table place ∷ path) = cond (ltb place n) (place ∷ table_places n path) (table_places n path)
table_places n (nodes.Conditional place ∷ path) = table_places n path

as_long : (place : ℕ) (places : List ℕ) (b : Bool) → length places ≤ length (cond b (place ∷ places) places)
as_long place places true = omega arith
as_long place places false = omega arith

one_longer : (place : ℕ) (places : List ℕ) (b : Bool) → b ≡ true → length (cond b (place ∷ places) places) ≡ suc (length places)
one_longer place places true e = refl
one_longer place places false e = absurd cc

is_below : (place n : ℕ) → place < n → ltb place n ≡ true
is_below place n lt = grind (arith, nat_tests)

table_at_few : (plane : Plane) → IsValid plane.config.program → (place : ℕ) (walk : Walk) (path : List Node) (o : Option Table) → slice_get plane.config.program.tables place ≡ o
    → length (table_done plane o walk).walk.hits + 65 * length (table_places (length plane.config.program.tables) path) ≤ length walk.hits + 65 * length (table_places (length plane.config.program.tables) (nodes.Table place ∷ path))
table_at_few plane valid place walk path None at =
    let n = length plane.config.program.tables in
    omega (arith, as_long place (table_places n path) (ltb place n))
table_at_few plane valid place walk path (Some table) at =
    let n = length plane.config.program.tables in
    omega (arith, table_few plane valid table walk, one_longer place (table_places n path) (ltb place n) (is_below place n (is_within plane.config.program.tables place table at)))

-- the hits of a walk along a path
path_few : (plane : Plane) → IsValid plane.config.program → (next : Option Node) (path : List Node) (walk end : Walk) → Walks plane next path walk end
    → length end.hits ≤ length walk.hits + 65 * length (table_places (length plane.config.program.tables) path)
path_few plane valid next [] walk end walks =
    let same : end ≡ walk = walks.1 in
    omega (arith, ap (λ (w : Walk). length w.hits) same)
path_few plane valid next (nodes.Table place ∷ path) walk end walks =
    let node : Node = nodes.Table place in
    omega (arith, path_few plane valid (node_done plane node walk).next path (node_done plane node walk).walk end walks.1, table_at_few plane valid place walk path (slice_get plane.config.program.tables place) refl)
path_few plane valid next (nodes.Conditional place ∷ path) walk end walks =
    let node : Node = nodes.Conditional place in
    omega (arith, path_few plane valid (node_done plane node walk).next path (node_done plane node walk).walk end walks.1, conditional_same (slice_get plane.config.program.conditionals place) walk)

All-either : (P : ℕ → Type 0) (place : ℕ) (places : List ℕ) (b : Bool) → (b ≡ true → P place) → All P places → All P (cond b (place ∷ places) places)
All-either P place places true one others = All-cons P place places (one refl) others
All-either P place places false one others = others

others_apart : (n place : ℕ) (path : List Node) → All (λ other. nodes.Table place ≡ other → ⊥) path → All (λ other. place ≢ other) (table_places n path)
others_apart n place [] all = All-nil (λ other. place ≢ other)
others_apart n place (nodes.Table other ∷ path) all =
    All-either (λ other. place ≢ other) other (table_places n path) (ltb other n)
    (λ e same. All-head (λ other. nodes.Table place ≡ other → ⊥) (nodes.Table other) path all (ap (λ p. nodes.Table p) same))
    (others_apart n place path (All-tail (λ other. nodes.Table place ≡ other → ⊥) (nodes.Table other) path all))
others_apart n place (nodes.Conditional other ∷ path) all = others_apart n place path (All-tail (λ other. nodes.Table place ≡ other → ⊥) (nodes.Conditional other) path all)

pairs_head : {X : Type 0} (R : X → X → Type 0) (x : X) (xs : List X) → AllPairs R (x ∷ xs) → All (R x) xs
pairs_head R x xs pairs k d within = pairs 0 (suc k) d (omega arith) (omega arith)

pairs_tail : {X : Type 0} (R : X → X → Type 0) (x : X) (xs : List X) → AllPairs R (x ∷ xs) → AllPairs R xs
pairs_tail R x xs pairs i j d lt within = pairs (suc i) (suc j) d (omega arith) (omega arith)

no_pairs : {X : Type 0} (R : X → X → Type 0) → AllPairs R []
no_pairs R i j d lt within = absurd (omega (arith, within))

pairs_either : (place : ℕ) (places : List ℕ) (b : Bool) → All (λ other. place ≢ other) places → AllPairs (λ x y. x ≢ y) places → AllPairs (λ x y. x ≢ y) (cond b (place ∷ places) places)
pairs_either place places true one others = AllPairs-cons (λ x y. x ≢ y) place places one others
pairs_either place places false one others = others

places_apart : (n : ℕ) (path : List Node) → AllPairs (λ one other. one ≡ other → ⊥) path → AllPairs (λ x y. x ≢ y) (table_places n path)
places_apart n [] pairs = no_pairs (λ x y. x ≢ y)
places_apart n (nodes.Table place ∷ path) pairs =
    pairs_either place (table_places n path) (ltb place n)
    (others_apart n place path (pairs_head (λ one other. one ≡ other → ⊥) (nodes.Table place) path pairs))
    (places_apart n path (pairs_tail (λ one other. one ≡ other → ⊥) (nodes.Table place) path pairs))
places_apart n (nodes.Conditional place ∷ path) pairs = places_apart n path (pairs_tail (λ one other. one ≡ other → ⊥) (nodes.Conditional place) path pairs)

was_below : (place n : ℕ) → ltb place n ≡ true → place < n
was_below place n e = grind (arith, nat_tests)

places_below : (n : ℕ) (path : List Node) → All (λ place. place < n) (table_places n path)
places_below n [] = All-nil (λ place. place < n)
places_below n (nodes.Table place ∷ path) = All-either (λ place. place < n) place (table_places n path) (ltb place n) (was_below place n) (places_below n path)
places_below n (nodes.Conditional place ∷ path) = places_below n path

among_below : (n q x : ℕ) (b rest : Bool) → b ≡ eqb q x → x < n → (rest ≡ true → q < n) → (b || rest) ≡ true → q < n
among_below n q x true rest e below others any = grind (arith, nat_tests)
among_below n q x false rest e below others any = others any

any_below : (n q : ℕ) (xs : List ℕ) → All (λ x. x < n) xs → list_any (eqb q) xs ≡ true → q < n
any_below n q [] all any = absurd cc
any_below n q (x ∷ xs) all any =
    among_below n q x (eqb q x) (list_any (eqb q) xs) refl (All-head (λ x. x < n) x xs all) (any_below n q xs (All-tail (λ x. x < n) x xs all)) any

-- a walk through a valid program adds at most 8,320 hits
pub walk_few : (plane : Plane) → IsValid plane.config.program → (start : Option Node) (walk : Walk)
    → length (walk_from plane (suc (node_count plane.config.program)) start walk).hits ≤ length walk.hits + 8320
walk_few plane valid start walk =
    let n = length plane.config.program.tables in
    let end : Walk = walk_from plane (suc (node_count plane.config.program)) start walk in
    let ends = walk_ends plane valid start walk in
    let apart = places_apart n ends.0 (no_node_twice plane valid start ends.0 walk end ends.1) in
    let number : length (table_places n ends.0) ≤ n =
    length-le_from_distinct_below (table_places n ends.0) n (IsDistinct-from_AllPairs Decides-eqb (table_places n ends.0) apart) (λ q any. any_below n q (table_places n ends.0) (places_below n ends.0) any) in
    omega (arith, path_few plane valid start ends.0 walk end ends.1, number, valid.tables_limit)
