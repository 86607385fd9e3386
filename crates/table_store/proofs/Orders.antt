-- In the list of the groups' entries each stands before those behind it.
use Rattle.std.proofs.Common.{◌≡◌, ℕ, ◌<◌, inl, inr, List, [], ◌∷◌, ◌++◌, sym, ◌∙◌, arith, ◌≤◌, ◌-◌, length, get_or, take, drop, subst, ap}
use Rattle.std.specs.List.{All, AllByRecursion, AllPairs}
use Rattle.std.proofs.lemmas.List.Elements.{All-from_recursion}
use Rattle.std.proofs.lemmas.List.{take_rest}
use Rattle.std.proofs.lemmas.List.Kept.{AllPairs-cons}
use Rattle.p4_types.specs.declared.table.Entry.{Entry}
use Rattle.plane_spec.proofs.Lists.{All-weaken}
use Rattle.match_index.specs.Order.{IsBefore, AreInOrder}
use Rattle.table_store.specs.declared.groups.Group.{Group}
use Rattle.table_store.specs.Groups.{flat, AreOf, AreGroups}
use Rattle.plane_spec.specs.Order.{StandsBefore}
use Rattle.table_store.specs.Order.{AreOfOneTable, AreOfLowerTables}
use Rattle.table_store.proofs.ByTable.{above_flat, elsewhere, lower}
use Rattle.table_store.proofs.Lists.{each_append}
use Rattle.table_store.proofs.OfTable.{both_each}

-- each stands before those behind it, by recursion
abbrev Stand : List Entry → Type 0
Stand [] = Unit {0}
Stand (x ∷ xs) = AllByRecursion (StandsBefore x) xs × Stand xs

stand_append : (xs ys : List Entry) → Stand xs → Stand ys → AllByRecursion (λ x. AllByRecursion (StandsBefore x) ys) xs → Stand (xs ++ ys)
stand_append [] ys h k across = k
stand_append (x ∷ xs) ys h k across = (each_append (StandsBefore x) xs ys h.0 across.0, stand_append xs ys h.1 k across.1)

stand_in_table : (table : ℕ) (xs : List Entry) → AreOf table xs → AreInOrder xs → Stand xs
stand_in_table table [] of order = tt
stand_in_table table (x ∷ xs) of order = (
  All-weaken (λ y. (y.name.table ≡ table) × IsBefore x y) (StandsBefore x) (λ y h. (inr (of.0 ∙ sym h.0, h.1.0), h.1.1)) xs (both_each (λ y. y.name.table ≡ table) (IsBefore x) xs of.1 order.0),
  stand_in_table table xs of.1 order.1,
)

flat_stand : (groups : List Group) → AreGroups groups → Stand (flat groups)
flat_stand [] are = tt
flat_stand (g ∷ groups) are =
    stand_append g.entries.items (flat groups) (stand_in_table g.table g.entries.items are.0.table are.0.order) (flat_stand groups are.2)
    (All-weaken (λ x. x.name.table ≡ g.table) (λ x. AllByRecursion (StandsBefore x) (flat groups))
    (λ x same. All-weaken (λ y. g.table < y.name.table) (StandsBefore x)
    (λ y above. let less : x.name.table < y.name.table = rw same above in (inl less, elsewhere x.name y.name (lower x.name.table y.name.table less)))
    (flat groups) (above_flat g.table groups are.2 are.1))
    g.entries.items are.0.table)

pairs : (xs : List Entry) → Stand xs → AllPairs StandsBefore xs
pairs [] h = λ i j d before in_range. absurd (omega arith)
pairs (x ∷ xs) h = AllPairs-cons StandsBefore x xs (All-from_recursion (StandsBefore x) xs h.0) (pairs xs h.1)

pub of_one_table : (table : ℕ) (xs : List Entry) → AreOf table xs → AreOfOneTable xs
of_one_table table xs of =
    let each : All (λ x. x.name.table ≡ table) xs = All-from_recursion (λ x. x.name.table ≡ table) xs of in
    λ i d in_range j e below. each i d in_range ∙ sym (each j e below)

pub of_lower_tables : (g : Group) (groups : List Group) → AreGroups (g ∷ groups) → AreOfLowerTables g.entries.items (flat groups)
of_lower_tables g groups are =
    let each : All (λ x. x.name.table ≡ g.table) g.entries.items = All-from_recursion (λ x. x.name.table ≡ g.table) g.entries.items are.0.table in
    let above : All (λ x. g.table < x.name.table) (flat groups) = All-from_recursion (λ x. g.table < x.name.table) (flat groups) (above_flat g.table groups are.2 are.1) in
    λ i d in_range j e below. rw (each i d in_range) (above j e below)

pub first_is_lower : (groups : List Group) (g : Group) (own : List Entry) → AreGroups groups → 1 ≤ length groups → g ≡ get_or groups 0 g → own ≡ g.entries.items → AreOfLowerTables own (flat (take (length groups - 1) (drop 1 groups)))
first_is_lower [] g own are some read is = absurd (omega arith)
first_is_lower (h ∷ groups) g own are some read is =
    subst (λ (gs : List Group). AreOfLowerTables own (flat gs)) (sym (take_rest (h ∷ groups) 1))
    (subst (λ (es : List Entry). AreOfLowerTables es (flat groups)) (sym (is ∙ ap (λ (x : Group). x.entries.items) read)) (of_lower_tables h groups are))

pub in_order : (groups : List Group) → AreGroups groups → AllPairs StandsBefore (flat groups)
in_order groups are = pairs (flat groups) (flat_stand groups are)
