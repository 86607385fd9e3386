-- The laws of names, and of the entry that a key takes.
use Rattle.std.proofs.Common.{◌≡◌, inl, inr, Bool, true, false, cond, List, [], ◌∷◌, get_or, None, IfSome, refl, sym, ap, subst, ◌∙◌}
use Rattle.std.specs.Prelude.{filter}
use Rattle.std.specs.List.{All, AllByRecursion, Contains}
use Rattle.std.proofs.lemmas.Bool.{cases_Bool}
use Rattle.std.proofs.lemmas.List.{get_or_default}
use Rattle.std.proofs.lemmas.List.Elements.{All-filter, All-from_recursion, recursion_from_All, All-contains_itself, filter_passes}
use Rattle.std.proofs.lemmas.List.MinMax.{IsFirstBest-from_best_of}
use Rattle.p4_types.specs.declared.table.Entry.{Entry}
use Rattle.p4_types.specs.declared.table.EntryName.{EntryName}
use Rattle.plane_spec.specs.Entries.{same_name, hits, beats}
use Rattle.table_store.specs.Laws.{NamesTell, BestWins, NoneIsBest, OneBeats}
use Rattle.table_store.proofs.Bests.{scanned, best_is_scanned}
use Rattle.table_store.proofs.Lists.{filter_none}
use Rattle.plane_spec.proofs.Names.{names_equal, name_is_same}
use Rattle.match_index.proofs.Ranks.{beats_ranks, one_beats_other}

pub names_tell : NamesTell
names_tell a b = (names_equal a b, λ same. subst (λ (n : EntryName). same_name a n ≡ true) same (name_is_same a))

kept_back : (P : Entry → Type 0) (p : Entry → Bool) (b : Bool) (x : Entry) (xs : List Entry) → p x ≡ b → AllByRecursion P (cond b (x ∷ xs) xs) → (p x ≡ true → P x) × AllByRecursion P xs
kept_back P p true x xs h all = (λ hit. all.0, all.1)
kept_back P p false x xs h all = (λ hit. absurd cc, all)

-- what holds of those that pass holds of each, if it passes
passing : (P : Entry → Type 0) (p : Entry → Bool) (xs : List Entry) → AllByRecursion P (filter p xs) → AllByRecursion (λ x. p x ≡ true → P x) xs
passing P p [] all = tt
passing P p (x ∷ xs) all = let k = kept_back P p (p x) x (filter p xs) refl all in (k.0, passing P p xs k.1)

wins_of : (p : Entry → Bool) (entries hitting : List Entry) → hitting ≡ filter p entries → IfSome (scanned hitting) (λ entry. Contains entries entry × (p entry ≡ true) × All (λ other. p other ≡ true → beats other entry ≡ false) entries)
wins_of p entries [] is = tt
wins_of p entries (first ∷ others) is =
    let (place, best_at, same) = IsFirstBest-from_best_of beats_ranks first others in
    let entry = get_or (first ∷ others) place first in
    let contained : All (Contains entries) (first ∷ others) = subst (All (Contains entries)) (sym is) (All-filter p (Contains entries) entries (All-contains_itself entries)) in
    let passes : All (λ x. p x ≡ true) (first ∷ others) = subst (All (λ x. p x ≡ true)) (sym is) (filter_passes p entries) in
    let unbeaten : All (λ other. beats other entry ≡ false) (first ∷ others) = λ k d below. ap (λ b. beats (get_or (first ∷ others) k d) b) (get_or_default (first ∷ others) place first d best_at.0) ∙ best_at.1 k d below in
    let others_lose = All-from_recursion (λ other. p other ≡ true → beats other entry ≡ false) entries
    (passing (λ other. beats other entry ≡ false) p entries (subst (AllByRecursion (λ other. beats other entry ≡ false)) is (recursion_from_All (λ other. beats other entry ≡ false) (first ∷ others) unbeaten))) in
    subst (λ e. Contains entries e × (p e ≡ true) × All (λ other. p other ≡ true → beats other e ≡ false) entries) same
    (contained place first best_at.0, passes place first best_at.0, others_lose)

pub best_wins : BestWins
best_wins table key entries =
    subst (λ r. IfSome r (λ entry. Contains entries entry × (hits table key entry ≡ true) × All (λ other. hits table key other ≡ true → beats other entry ≡ false) entries))
    (sym (best_is_scanned table key entries)) (wins_of (hits table key) entries (filter (hits table key) entries) refl)

none_scanned : (hitting : List Entry) → scanned hitting ≡ None → hitting ≡ []
none_scanned [] h = refl
none_scanned (x ∷ xs) h = cc

left_out : (p : Entry → Bool) (b : Bool) (x : Entry) (xs : List Entry) → p x ≡ b → cond b (x ∷ xs) xs ≡ [] → (p x ≡ false) × (xs ≡ [])
left_out p true x xs h k = cc
left_out p false x xs h k = (h, k)

all_left_out : (p : Entry → Bool) (xs : List Entry) → filter p xs ≡ [] → AllByRecursion (λ x. p x ≡ false) xs
all_left_out p [] h = tt
all_left_out p (x ∷ xs) h = let k = left_out p (p x) x (filter p xs) refl h in (k.0, all_left_out p xs k.1)

pub none_is_best : NoneIsBest
none_is_best table key entries = (
  λ none. All-from_recursion (λ e. hits table key e ≡ false) entries (all_left_out (hits table key) entries (none_scanned (filter (hits table key) entries) (sym (best_is_scanned table key entries) ∙ none))),
  λ all. best_is_scanned table key entries ∙ ap scanned (filter_none (hits table key) entries (recursion_from_All (λ e. hits table key e ≡ false) entries all)),
)

pub one_beats : OneBeats
one_beats a b differ = elim (cases_Bool (beats a b)) [
  | inl wins ↦ inl (wins, beats_ranks.one_way a b wins)
  | inr loses ↦ inr (one_beats_other a b differ loses, loses)
]
