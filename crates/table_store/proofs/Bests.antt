-- The best of the entries that a key hits, as the best of a list.
use Rattle.std.proofs.Common.{◌≡◌, ℕ, not, List, [], ◌∷◌, length, get_or, Option, Some, None, refl, ap, ◌∙◌}
use Rattle.std.specs.Prelude.{filter, find}
use Rattle.std.specs.List.{list_any, best_of, IsFirstBest}
use Rattle.std.proofs.lemmas.Bool.{not_from_false, not_from_true}
use Rattle.std.proofs.lemmas.List.{get_or_default}
use Rattle.std.proofs.lemmas.List.Folds.{list_any_at, list_any_none}
use Rattle.std.proofs.lemmas.List.MinMax.{IsFirstBest-from_best_of}
use Rattle.p4_types.specs.declared.table.Entry.{Entry}
use Rattle.plane_spec.specs.Entries.{hits, beats, best}
use Rattle.match_index.proofs.Ranks.{beats_ranks}
use Rattle.table_store.proofs.Lists.{find_first}

-- the first of a list that no other beats
abbrev unbeaten : List Entry → Option Entry
unbeaten entries = find (λ entry. not (list_any (λ other. beats other entry) entries)) entries

abbrev pub scanned : List Entry → Option Entry
scanned [] = None
scanned (entry ∷ entries) = Some (best_of beats entry entries)

first_best : (entries : List Entry) (place : ℕ) (d : Entry) → IsFirstBest beats entries (length entries) place → unbeaten entries ≡ Some (get_or entries place d)
first_best entries place d first =
    find_first (λ entry. not (list_any (λ other. beats other entry) entries)) entries place d first.0
    (not_from_false _ (list_any_none (λ other. beats other (get_or entries place d)) entries (λ k e in_range. ap (λ b. beats (get_or entries k e) b) (get_or_default entries place d e first.0) ∙ first.1 k e in_range)))
    (λ k below. not_from_true _ (list_any_at (λ other. beats other (get_or entries k d)) entries place d first.0 (first.2 k d below)))

unbeaten_is_scanned : (entries : List Entry) → unbeaten entries ≡ scanned entries
unbeaten_is_scanned [] = refl
unbeaten_is_scanned (entry ∷ entries) =
    let (place, first, is) = IsFirstBest-from_best_of beats_ranks entry entries in
    first_best (entry ∷ entries) place entry first ∙ ap (λ e. Some e) is

pub best_is_scanned : (table : ℕ) (key : List ℕ) (entries : List Entry) → best table key entries ≡ scanned (filter (hits table key) entries)
unfolding best
best_is_scanned table key entries = unbeaten_is_scanned (filter (hits table key) entries)
