-- Pairs of ids, and sets of them.
use Rattle.std.specs.Prelude.{ℕ, List, map}
use Rattle.std.specs.List.{fold}
use Rattle.std.specs.declared.cmp.Ordering.{Ordering}
use Rattle.std.specs.Ordering.{nat_cmp, ordering_then}
use Rattle.std.specs.BTreeSet.{insert_key}

-- an id with each of those that are named
abbrev pub named_pairs : (ℕ → ℕ → ℕ × ℕ) → ℕ → List ℕ → List (ℕ × ℕ)
named_pairs pair own named = map (pair own) named

-- the order of pairs
abbrev pub pair_cmp : ℕ × ℕ → ℕ × ℕ → Ordering
pair_cmp a b = ordering_then (nat_cmp a.0 b.0) (nat_cmp a.1 b.1)

-- the pairs of a set, in their order, after these were put into it
abbrev pub joined : List (ℕ × ℕ) → List (ℕ × ℕ) → List (ℕ × ℕ)
joined pairs given = fold (λ before pair. insert_key pair_cmp before pair) pairs given
