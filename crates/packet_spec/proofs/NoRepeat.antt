-- A walk comes to no node twice.
use Rattle.std.proofs.Common.{subst, ◌≡◌, sym, refl, ℕ, zero, suc, ◌+◌, Bool, true, false, ◌||◌, List, [], ◌∷◌, Some, arith}
use Rattle.std.specs.Prelude.{All}
use Rattle.std.specs.List.{list_any, AllPairs}
use Rattle.std.proofs.lemmas.List.Elements.{All-nil, All-cons}
use Rattle.std.proofs.lemmas.List.Kept.{AllPairs-cons}
use Rattle.bm_pipeline.specs.declared.tables.Node.{Node}
use Rattle.bm_pipeline.specs.Graph.{has_path, HasNoLoop}
use Rattle.bm_pipeline.specs.Places.{after_node, node_count}
use Rattle.packet_spec.specs.Laws.{NoNodeTwice}
use Rattle.packet_spec.specs.Walking.{Walk, node_done, Walks}
use Rattle.packet_spec.proofs.OneWalk.{QuietNode, node_quiet}
use Rattle.plane_spec.specs.Planes.{Plane}

-- an item is one of a list: it fails each test that none of them passes
abbrev Among : {A : Type 0} → A → List A → Type 0
Among {A} x list = (passes : A → Bool) → list_any passes list ≡ false → passes x ≡ false

-- a node is reached from another one by so many edges
abbrev Reaches : {A : Type 0} → (A → List A) → ℕ → A → A → Type 0
Reaches leads zero a b = a ≡ b
Reaches {A} leads (suc edges) a b = (c : A) × Among c (leads a) × Reaches leads edges c b

left_fails : (a b : Bool) → (a || b) ≡ false → a ≡ false
left_fails false b e = refl
left_fails true b e = absurd cc

right_fails : (a b : Bool) → (a || b) ≡ false → b ≡ false
right_fails false b e = e
right_fails true b e = absurd cc

both_fail : (a b : Bool) → a ≡ false → b ≡ false → (a || b) ≡ false
both_fail false b e f = f
both_fail true b e f = absurd cc

none_of_others : {A : Type 0} (f g : A → Bool) → ((x : A) → f x ≡ false → g x ≡ false) → (list : List A) → list_any f list ≡ false → list_any g list ≡ false
none_of_others f g weaker [] none = refl
none_of_others f g weaker (x ∷ list) none =
    both_fail (g x) (list_any g list) (weaker x (left_fails (f x) (list_any f list) none)) (none_of_others f g weaker list (right_fails (f x) (list_any f list) none))

-- where no path of so many edges begins, no longer one does
no_longer : {A : Type 0} (leads : A → List A) (edges : ℕ) (a : A) → has_path leads edges a ≡ false → has_path leads (suc edges) a ≡ false
no_longer leads zero a none = absurd cc
no_longer leads (suc edges) a none = none_of_others (has_path leads edges) (has_path leads (suc edges)) (no_longer leads edges) (leads a) none

no_longer_by : {A : Type 0} (leads : A → List A) (more edges : ℕ) (a : A) → has_path leads edges a ≡ false → has_path leads (more + edges) a ≡ false
no_longer_by leads zero edges a none = subst (λ n. has_path leads n a ≡ false) (let e : edges ≡ 0 + edges = omega arith in e) none
no_longer_by leads (suc more) edges a none =
    subst (λ n. has_path leads n a ≡ false) (let e : suc (more + edges) ≡ suc more + edges = omega arith in e) (no_longer leads (more + edges) a (no_longer_by leads more edges a none))

-- behind a path that is reached no longer one begins than what is left
left_over : {A : Type 0} (leads : A → List A) (edges more : ℕ) (a b : A) → Reaches leads edges a b → has_path leads (edges + more) a ≡ false → has_path leads more b ≡ false
left_over leads zero more a b reaches none =
    subst (λ x. has_path leads more x ≡ false) reaches (subst (λ n. has_path leads n a ≡ false) (let e : 0 + more ≡ more = omega arith in e) none)
left_over leads (suc edges) more a b reaches none =
    let stepped : has_path leads (suc (edges + more)) a ≡ false = subst (λ n. has_path leads n a ≡ false) (let e : suc edges + more ≡ suc (edges + more) = omega arith in e) none in
    left_over leads edges more reaches.0 b reaches.2 (reaches.1 (has_path leads (edges + more)) stepped)

-- a node that is reached from itself has paths of all lengths
no_end : {A : Type 0} (leads : A → List A) (edges : ℕ) (a : A) → Reaches leads (suc edges) a a → (n : ℕ) → has_path leads n a ≡ false → ⊥
no_end leads edges a loop zero none = absurd (let e : true ≡ false = none in cc)
no_end leads edges a loop (suc n) none =
    let longer : has_path leads (edges + suc n) a ≡ false = no_longer_by leads edges (suc n) a none in
    no_end leads edges a loop n
    (left_over leads (suc edges) n a a loop (subst (λ m. has_path leads m a ≡ false) (let e : edges + suc n ≡ suc edges + n = omega arith in e) longer))

-- each node of a path is one to which the node before it leads
abbrev Chain : {A : Type 0} → (A → List A) → A → List A → Type 0
Chain leads node [] = Unit {0}
Chain leads node (next ∷ path) = Among next (leads node) × Chain leads next path

-- a node is reached from another one by one edge or more
abbrev IsBehind : {A : Type 0} → (A → List A) → A → A → Type 0
IsBehind leads a b = (edges : ℕ) × Reaches leads (suc edges) a b

further : {A : Type 0} (leads : A → List A) (a b : A) → Among b (leads a) → (list : List A) → All (IsBehind leads b) list → All (IsBehind leads a) list
further leads a b among list all k d within = let one = all k d within in (suc one.0, (b, among, one.1))

all_behind : {A : Type 0} (leads : A → List A) (node : A) (path : List A) → Chain leads node path → All (IsBehind leads node) path
all_behind leads node [] chain = All-nil (IsBehind leads node)
all_behind leads node (next ∷ path) chain =
    All-cons (IsBehind leads node) next path (0, (next, chain.0, refl)) (further leads node next chain.0 path (all_behind leads next path chain.1))

apart : {A : Type 0} (leads : A → List A) (nodes : ℕ) → HasNoLoop leads nodes → (node : A) (path : List A) → Chain leads node path → All (λ other. node ≡ other → ⊥) path
apart leads nodes no_loop node path chain k d within same =
    let behind = all_behind leads node path chain k d within in
    no_end leads behind.0 node (subst (Reaches leads (suc behind.0) node) (sym same) behind.1) nodes (no_loop node)

no_pairs : {A : Type 0} (R : A → A → Type 0) → AllPairs R []
no_pairs R i j d below within = absurd (omega (arith, within))

all_apart : {A : Type 0} (leads : A → List A) (nodes : ℕ) → HasNoLoop leads nodes → (node : A) (path : List A) → Chain leads node path → AllPairs (λ one other. one ≡ other → ⊥) (node ∷ path)
all_apart leads nodes no_loop node [] chain = AllPairs-cons (λ one other. one ≡ other → ⊥) node [] (All-nil (λ other. node ≡ other → ⊥)) (no_pairs (λ one other. one ≡ other → ⊥))
all_apart leads nodes no_loop node (next ∷ path) chain =
    AllPairs-cons (λ one other. one ≡ other → ⊥) node (next ∷ path) (apart leads nodes no_loop node (next ∷ path) chain) (all_apart leads nodes no_loop next path chain.1)

-- the next node is one to which a node leads
next_among : (plane : Plane) (node next : Node) (walk : Walk) → (node_done plane node walk).next ≡ Some next → Among next (after_node plane.config.program node)
next_among plane node next walk is passes none = subst (QuietNode passes) is (node_quiet passes plane node walk none)

chained : (plane : Plane) (node : Node) (path : List Node) (walk end : Walk) → Walks plane (node_done plane node walk).next path (node_done plane node walk).walk end
    → Chain (after_node plane.config.program) node path
chained plane node [] walk end walks = tt
chained plane node (next ∷ path) walk end walks =
    (next_among plane node next walk walks.0, chained plane next path (node_done plane node walk).walk end walks.1)

pub no_node_twice : NoNodeTwice
no_node_twice plane valid start [] walk end walks = no_pairs (λ one other. one ≡ other → ⊥)
no_node_twice plane valid start (node ∷ path) walk end walks =
    all_apart (after_node plane.config.program) (suc (node_count plane.config.program)) valid.no_loop node path (chained plane node path walk end walks.1)
