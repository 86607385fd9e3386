-- The graphs of a program lead to nodes of their own alone.
use Rattle.std.proofs.Common.{◌≡◌, ℕ, zero, suc, ◌+◌, ◌≤◌, nat_lt, Bool, true, false, ◌&&◌, List, [], ◌∷◌, ◌++◌, length, map, Option, Some, None, refl, sym, ap, ◌∙◌, subst, arith, length-append, if◌then◌else◌}
use Rattle.std.specs.List.{list_all, flat_map, position_or_len}
use Rattle.std.proofs.lemmas.List.{length-map}
use Rattle.std.specs.Str.{bytes_eq}
use Rattle.std.proofs.lemmas.Bool.Decides.{nat_tests}
use Rattle.bm_records.specs.declared.raw.ParseState.{ParseState}
use Rattle.bm_records.specs.declared.raw.Pipeline.{Pipeline}
use Rattle.bm_rules.specs.Names.{place_of}
use Rattle.bm_rules.specs.Graphs.{leads, as_places, next_state, state_edges, node_by, optional_node, table_edges, conditional_edges, node_edges}
use Rattle.bm_rules.specs.Peeling.{IsInside}

-- the nodes of a list are below a number
abbrev Below : ℕ → List ℕ → Type 0
Below n nodes = list_all (λ j. nat_lt j n) nodes ≡ true

both : (a b : Bool) → a ≡ true → b ≡ true → (a && b) ≡ true
both true b h k = k
both false b h k = absurd (let c : ⊥ = cc in c)

below_append : (n : ℕ) (xs ys : List ℕ) → Below n xs → Below n ys → Below n (xs ++ ys)
below_append n [] ys h k = k
below_append n (x ∷ xs) ys h k = grind (arith, below_append n xs ys, nat_tests)

below_flat : {X : Type 0} (n : ℕ) (f : X → List ℕ) (xs : List X) → ((x : X) → Below n (f x)) → Below n (flat_map f xs)
below_flat n f [] each = refl
below_flat n f (x ∷ xs) each = below_append n (f x) (flat_map f xs) (each x) (below_flat n f xs each)

by_test : (place n : ℕ) (b : Bool) → b ≡ nat_lt place n → Below n (as_places (if b then Some place else None))
by_test place n true e = both (nat_lt place n) true (sym e) refl
by_test place n false e = refl

-- a place is below the number of objects
place_below : {X : Type 0} (name_of : X → List ℕ) (name : List ℕ) (objects : List X) → Below (length objects) (as_places (place_of name_of name objects))
place_below name_of name objects = by_test (position_or_len (λ x. bytes_eq (name_of x) name) objects) (length objects) (nat_lt (position_or_len (λ x. bytes_eq (name_of x) name) objects) (length objects)) refl

-- each list of a graph is below a number
inside_of : (n : ℕ) (edges : List (List ℕ)) → length edges ≡ n → ((i : ℕ) → Below n (leads edges i)) → IsInside edges
inside_of n edges e each = λ i. subst (λ m. list_all (λ j. nat_lt j m) (leads edges i) ≡ true) (sym e) (each i)

leads_below : {X : Type 0} (n : ℕ) (f : X → List ℕ) (xs : List X) (i : ℕ) → ((x : X) → Below n (f x)) → Below n (leads (map f xs) i)
leads_below n f [] i each = refl
leads_below n f (x ∷ xs) zero each = each x
leads_below n f (x ∷ xs) (suc i) each = leads_below n f xs i each

leads_append : (n : ℕ) (xs ys : List (List ℕ)) (i : ℕ) → ((j : ℕ) → Below n (leads xs j)) → ((j : ℕ) → Below n (leads ys j)) → Below n (leads (xs ++ ys) i)
leads_append n [] ys i first second = second i
leads_append n (x ∷ xs) ys zero first second = first zero
leads_append n (x ∷ xs) ys (suc i) first second = leads_append n xs ys i (λ j. first (suc j)) second

next_below : (states : List ParseState) (name : Option (List ℕ)) → Below (length states) (as_places (next_state states name))
next_below states None = refl
next_below states (Some name) = place_below (λ x. x.name) name states

pub states_inside : (states : List ParseState) → IsInside (state_edges states)
states_inside states =
    inside_of (length states) (state_edges states) (length-map states _)
    (λ i. leads_below (length states) _ states i (λ state. below_flat (length states) _ state.transitions (λ t. next_below states t.next_state)))

wider : (n m : ℕ) (xs : List ℕ) → n ≤ m → Below n xs → Below m xs
wider n m [] l h = refl
wider n m (x ∷ xs) l h = grind (arith, wider n m xs l, nat_tests)

shifted : (tables others : ℕ) (place : Option ℕ) → Below others (as_places place) → Below (tables + others) (as_places (node_by tables None place))
shifted tables others None h = refl
shifted tables others (Some place) h = grind (arith, nat_tests)

node_below_by : (tables others : ℕ) (first second : Option ℕ) → Below tables (as_places first) → Below others (as_places second) → Below (tables + others) (as_places (node_by tables first second))
node_below_by tables others (Some place) second h k = wider tables (tables + others) (place ∷ []) (omega arith) h
node_below_by tables others None second h k = shifted tables others second k

node_below : (pipeline : Pipeline) (name : Option (List ℕ)) → Below (length pipeline.tables + length pipeline.conditionals) (as_places (optional_node pipeline name))
node_below pipeline None = refl
node_below pipeline (Some name) =
    node_below_by (length pipeline.tables) (length pipeline.conditionals) (place_of (λ x. x.name) name pipeline.tables) (place_of (λ x. x.name) name pipeline.conditionals)
    (place_below (λ x. x.name) name pipeline.tables) (place_below (λ x. x.name) name pipeline.conditionals)

pub nodes_inside : (pipeline : Pipeline) → IsInside (node_edges pipeline)
nodes_inside pipeline =
    let n : ℕ = length pipeline.tables + length pipeline.conditionals in
    inside_of (length pipeline.tables + length pipeline.conditionals) (node_edges pipeline)
    (length-append (map (table_edges pipeline) pipeline.tables) (map (conditional_edges pipeline) pipeline.conditionals)
    ∙ (ap (λ k. k + length (map (conditional_edges pipeline) pipeline.conditionals)) (length-map pipeline.tables (table_edges pipeline)) ∙ ap (λ k. length pipeline.tables + k) (length-map pipeline.conditionals (conditional_edges pipeline))))
    (λ i. leads_append (length pipeline.tables + length pipeline.conditionals) (map (table_edges pipeline) pipeline.tables) (map (conditional_edges pipeline) pipeline.conditionals) i
    (λ j. leads_below (length pipeline.tables + length pipeline.conditionals) (table_edges pipeline) pipeline.tables j
    (λ table. below_append (length pipeline.tables + length pipeline.conditionals) (flat_map (λ next. as_places (optional_node pipeline next.node)) table.next_tables) (as_places (optional_node pipeline table.base_default_next))
    (below_flat (length pipeline.tables + length pipeline.conditionals) (λ next. as_places (optional_node pipeline next.node)) table.next_tables (λ next. node_below pipeline next.node)) (node_below pipeline table.base_default_next)))
    (λ j. leads_below (length pipeline.tables + length pipeline.conditionals) (conditional_edges pipeline) pipeline.conditionals j
    (λ x. below_append (length pipeline.tables + length pipeline.conditionals) (as_places (optional_node pipeline x.true_next)) (as_places (optional_node pipeline x.false_next)) (node_below pipeline x.true_next) (node_below pipeline x.false_next))))
