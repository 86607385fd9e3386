-- Paths through graphs: where one graph has no loop, none has that leads along its edges alone.
use Rattle.std.proofs.Common.{◌≡◌, ◌⊎◌, inl, inr, ℕ, zero, suc, ◌+◌, ◌-◌, ◌<◌, ◌≤◌, nat_lt, Bool, true, false, List, [], ◌∷◌, length, map, refl, ap, ◌∙◌, subst, arith}
use Rattle.std.specs.List.{list_any, list_all}
use Rattle.std.proofs.lemmas.Bool.{and_parts, or_parts, false_from_ne_true, ltb-true, cases_lt}
use Rattle.std.proofs.lemmas.Option.{slice_get_past}
use Rattle.bm_pipeline.specs.Graph.{has_path}
use Rattle.bm_rules.specs.Graphs.{or_none, leads, has_loop}
use Rattle.bm_rules.specs.Peeling.{IsInside}
use Rattle.bm_rules.proofs.Peeled.{neither, longer_by, some_below}
use Rattle.bm_rules.proofs.Sameness.{list_any_map}

-- each item of a list is one of another: it fails each test that none of those passes
abbrev pub Among : {A : Type 0} → List A → List A → Type 0
Among {A} xs ys = (passes : A → Bool) → list_any passes ys ≡ false → list_any passes xs ≡ false

-- where a node leads nowhere, no path begins but that of no edge
pub ends_at : {A : Type 0} (after : A → List A) (edges : ℕ) (a : A) → after a ≡ [] → has_path after (suc edges) a ≡ false
ends_at after edges a nowhere = ap (list_any (has_path after edges)) nowhere

-- a graph without a loop has no path of as many edges as it has nodes, from any node of it
no_path : (edges : List (List ℕ)) → has_loop edges ≡ false → (i : ℕ) → i < length edges → has_path (leads edges) (length edges) i ≡ false
no_path edges none i inside = false_from_ne_true (has_path (leads edges) (length edges) i)
    (λ path. let loop : has_loop edges ≡ true = some_below (has_path (leads edges) (length edges)) (length edges) i inside path in let c : ⊥ = cc in c)

-- so it is with more edges
pub no_longer_path : (edges : List (List ℕ)) → has_loop edges ≡ false → (n : ℕ) → length edges ≤ n → (i : ℕ) → i < length edges → has_path (leads edges) n i ≡ false
no_longer_path edges none n enough i inside =
    let more : n - length edges + length edges ≡ n = omega arith in
    subst (λ m. has_path (leads edges) m i ≡ false) more (longer_by (leads edges) (n - length edges) (length edges) i (no_path edges none i inside))

carried : (p q inside : ℕ → Bool) (xs : List ℕ) → list_all inside xs ≡ true → list_any p xs ≡ false → ((j : ℕ) → inside j ≡ true → p j ≡ false → q j ≡ false) → list_any q xs ≡ false
carried p q inside [] all none each = refl
carried p q inside (x ∷ xs) all none each =
    let a = and_parts (inside x) (list_all inside xs) all in
    let n = or_parts (p x) (list_any p xs) none in
    neither (q x) (list_any q xs) (each x a.0 n.0) (carried p q inside xs a.1 n.1 each)

-- a graph that leads from the images of nodes to images of what they lead to has no longer paths
pub along : {A : Type 0} (edges : List (List ℕ)) (after : A → List A) (to : ℕ → A) → IsInside edges
    → ((i : ℕ) → i < length edges → Among (after (to i)) (map to (leads edges i))) → (n i : ℕ) → i < length edges → has_path (leads edges) n i ≡ false → has_path after n (to i) ≡ false
along edges after to inside each zero i l none = absurd cc
along edges after to inside each (suc n) i l none =
    each i l (has_path after n) (list_any_map (has_path after n) to (leads edges i)
    ∙ carried (has_path (leads edges) n) (λ j. has_path after n (to j)) (λ j. nat_lt j (length edges)) (leads edges i) (inside i) none
    (λ j within fails. along edges after to inside each n j (ltb-true j (length edges) within) fails))

past_all : (edges : List (List ℕ)) (n i : ℕ) → 0 < n → length edges ≤ i → has_path (leads edges) n i ≡ false
past_all edges zero i some past = absurd (omega arith)
past_all edges (suc n) i some past = ends_at (leads edges) n i (ap or_none (slice_get_past edges i past))

path_by : (edges : List (List ℕ)) → has_loop edges ≡ false → 0 < length edges → (i : ℕ) → (i < length edges) ⊎ (length edges ≤ i) → has_path (leads edges) (length edges) i ≡ false
path_by edges none some i (inl inside) = no_path edges none i inside
path_by edges none some i (inr past) = past_all edges (length edges) i some past

-- a graph with nodes but no loop has no path of as many edges as it has nodes at all
pub no_path_at_all : (edges : List (List ℕ)) → has_loop edges ≡ false → 0 < length edges → (i : ℕ) → has_path (leads edges) (length edges) i ≡ false
no_path_at_all edges none some i = path_by edges none some i (cases_lt i (length edges))
