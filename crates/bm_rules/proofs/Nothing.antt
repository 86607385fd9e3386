-- Names that stand for nothing, by looking each of them up.
use Rattle.std.proofs.Common.{◌≡◌, ℕ, ◌∙◌, refl, sym, ap, Bool, true, false, cond, not, ◌&&◌, ◌||◌, nat_eq, List, [], ◌∷◌, ◌++◌, map, Option, Some, is_some, arith}
use Rattle.std.specs.List.{list_any, flat_map}
use Rattle.std.specs.Set.{is_member}
use Rattle.std.specs.Str.{bytes_eq}
use Rattle.std.proofs.lemmas.List.Folds.{list_any-append}
use Rattle.std.proofs.lemmas.Bool.Decides.{nat_tests}
use Rattle.p4info_model.proofs.Kept.{list_any_flat}
use Rattle.bm_records.specs.declared.raw.Table.{Table}
use Rattle.bm_records.specs.declared.raw.Pipeline.{Pipeline}
use Rattle.bm_rules.specs.Names.{named, name_nothing}
use Rattle.bm_rules.specs.References.{optional_name, node_names, table_nexts, conditional_nexts, nexts}
use Rattle.bm_rules.proofs.Sameness.{list_any_same, list_any_map}

number_same : (x y : ℕ) → nat_eq x y ≡ nat_eq y x
number_same x y = grind (arith, nat_tests)

both_same : (a b c d : Bool) → a ≡ c → b ≡ d → (a && b) ≡ (c && d)
both_same a b c d e f = rw (e, f) refl

text_same : (x y : List ℕ) → bytes_eq x y ≡ bytes_eq y x
text_same [] [] = refl
text_same [] (y ∷ ys) = refl
text_same (x ∷ xs) [] = refl
text_same (x ∷ xs) (y ∷ ys) = both_same (nat_eq x y) (bytes_eq xs ys) (nat_eq y x) (bytes_eq ys xs) (number_same x y) (text_same xs ys)

found_by : {X : Type 0} (b : Bool) (x : X) (found : Option X) (any : Bool) → is_some found ≡ any → is_some (cond b (Some x) found) ≡ (b || any)
found_by true x found any e = refl
found_by false x found any e = e

found : {X : Type 0} (label : X → List ℕ) (name : List ℕ) (xs : List X) → is_some (named label name xs) ≡ list_any (λ x. bytes_eq (label x) name) xs
found label name [] = refl
found label name (x ∷ xs) = found_by (bytes_eq (label x) name) x (named label name xs) (list_any (λ y. bytes_eq (label y) name) xs) (found label name xs)

-- an object of a name is there just where its name is one of theirs
named_among : {X : Type 0} (label : X → List ℕ) (name : List ℕ) (xs : List X) → is_some (named label name xs) ≡ is_member bytes_eq (map label xs) name
named_among label name xs = found label name xs ∙ list_any_same (λ x. bytes_eq (label x) name) (λ x. bytes_eq name (label x)) (λ x. text_same (label x) name) xs ∙ sym (list_any_map (bytes_eq name) label xs)

or_not : (a : Bool) → (a || false) ≡ a
or_not true = refl
or_not false = refl

-- a name of a node, which is that of a table or of a conditional
pub of_node : (pipeline : Pipeline) (name : List ℕ)
    → name_nothing (node_names pipeline) (name ∷ []) ≡ not (is_some (named (λ x. x.name) name pipeline.tables) || is_some (named (λ x. x.name) name pipeline.conditionals))
of_node pipeline name =
    or_not (not (is_member bytes_eq (node_names pipeline) name))
    ∙ ap not (list_any-append (bytes_eq name) (map (λ x. x.name) pipeline.tables) (map (λ x. x.name) pipeline.conditionals)
    ∙ rw (← named_among (λ x. x.name) name pipeline.tables, ← named_among (λ x. x.name) name pipeline.conditionals) refl)

-- the names of each item
of_each : {X : Type 0} (those : List (List ℕ)) (names : X → List (List ℕ)) (xs : List X) → name_nothing those (flat_map names xs) ≡ list_any (λ x. name_nothing those (names x)) xs
of_each those names xs = list_any_flat (λ x. not (is_member bytes_eq those x)) names xs

-- names in two lists
pub of_both : (those first second : List (List ℕ)) → name_nothing those (first ++ second) ≡ (name_nothing those first || name_nothing those second)
of_both those first second = list_any-append (λ x. not (is_member bytes_eq those x)) first second

-- the names that follow a table
pub of_table : (those : List (List ℕ)) (table : Table)
    → name_nothing those (table_nexts table) ≡ (list_any (λ next. name_nothing those (optional_name next.node)) table.next_tables || name_nothing those (optional_name table.base_default_next))
of_table those table =
    of_both those (flat_map (λ next. optional_name next.node) table.next_tables) (optional_name table.base_default_next)
    ∙ ap (λ b. b || name_nothing those (optional_name table.base_default_next)) (of_each those (λ next. optional_name next.node) table.next_tables)

-- all names of nodes in a pipeline
pub of_pipeline : (those : List (List ℕ)) (pipeline : Pipeline)
    → name_nothing those (nexts pipeline)
    ≡ ((name_nothing those (optional_name pipeline.init_table) || list_any (λ table. name_nothing those (table_nexts table)) pipeline.tables)
    || list_any (λ x. name_nothing those (conditional_nexts x)) pipeline.conditionals)
of_pipeline those pipeline =
    of_both those (optional_name pipeline.init_table ++ flat_map table_nexts pipeline.tables) (flat_map conditional_nexts pipeline.conditionals)
    ∙ rw (of_both those (optional_name pipeline.init_table) (flat_map table_nexts pipeline.tables), of_each those table_nexts pipeline.tables, of_each those conditional_nexts pipeline.conditionals) refl

-- names that are looked up among objects
pub of_named : {X Y : Type 0} (label : X → List ℕ) (name_of : Y → List ℕ) (xs : List X) (ys : List Y)
    → name_nothing (map label xs) (map name_of ys) ≡ list_any (λ y. not (is_some (named label (name_of y) xs))) ys
of_named label name_of xs ys =
    list_any_map (λ name. not (is_member bytes_eq (map label xs) name)) name_of ys
    ∙ list_any_same (λ y. not (is_member bytes_eq (map label xs) (name_of y))) (λ y. not (is_some (named label (name_of y) xs))) (λ y. ap not (sym (named_among label (name_of y) xs))) ys
