-- What a binary search by sequence numbers finds.
use Rattle.std.proofs.Common.{◌≡◌, ℕ, suc, zero, ◌<◌, ◌≤◌, ◌⊎◌, inl, inr, ◌∙◌, false, eqb, List, [], ◌∷◌, length, get_or, Some, None, Ok, Err, sym, ap, subst, arith}
use Rattle.std.specs.List.{All}
use Rattle.std.specs.List.Sorted.{IsBinarySearchResult, IsNonDecreasingBy}
use Rattle.std.specs.Ordering.{nat_cmp, ordering_index}
use Rattle.std.proofs.lemmas.Bool.{cases_lt}
use Rattle.std.proofs.lemmas.Bool.Decides.{nat_tests}
use Rattle.std.proofs.lemmas.Cmp.{ranked}
use Rattle.std.proofs.lemmas.List.Elements.{All-from_recursion, recursion_from_All}
use Rattle.p4_types.specs.declared.table.Entry.{Entry}
use Rattle.match_index.specs.Order.{IsBefore, AreInOrder}
use Rattle.match_index.specs.Scan.{entry_at}
use Rattle.match_index.proofs.Among.{Among, of_each, among_at, find_none}
use Rattle.match_index.proofs.Ordered.{at_number}

index_rises : (a b t : ℕ) → a ≤ b → ordering_index (nat_cmp a t) ≤ ordering_index (nat_cmp b t)
index_rises a b t le = grind (arith, nat_tests)

rises : (xs : List Entry) → AreInOrder xs → (i j : ℕ) (d : Entry) → i ≤ j → j < length xs → (get_or xs i d).seq ≤ (get_or xs j d).seq
rises [] are i j d le in_range = absurd (omega arith)
rises (x ∷ xs) are zero zero d le in_range = omega arith
rises (x ∷ xs) are zero (suc j) d le in_range = let above : IsBefore x (get_or xs j d) = All-from_recursion (IsBefore x) xs are.0 j d (omega arith) in omega (arith, above.0)
rises (x ∷ xs) are (suc i) zero d le in_range = absurd (omega arith)
rises (x ∷ xs) are (suc i) (suc j) d le in_range = rises xs are.1 i j d (omega arith) (omega arith)

comparisons_rise : (xs : List Entry) → AreInOrder xs → (number : ℕ) → IsNonDecreasingBy (λ x. ordering_index (nat_cmp x.seq number)) xs
comparisons_rise xs are number i j d le in_range = index_rises (get_or xs i d).seq (get_or xs j d).seq number (rises xs are i j d le in_range)

differs : (a b : ℕ) → (a < b) ⊎ (b < a) → eqb a b ≡ false
differs a b (inl less) = grind (arith, nat_tests)
differs a b (inr less) = grind (arith, nat_tests)

pub found_at : (entries : List Entry) (seq place : ℕ) (entry : Entry) → AreInOrder entries → place < length entries → entry ≡ get_or entries place entry → IsBinarySearchResult (λ y. nat_cmp y.seq seq) entries (Ok place) → Some entry ≡ entry_at entries seq
found_at entries seq place entry order in_range read result =
    let same : (get_or entries place entry).seq ≡ seq = ranked _ seq _ (sym (result entry)) in
    sym (at_number entries entry seq order (subst (Among entries) (sym read) (among_at entries place entry in_range)) (ap (λ (e : Entry). e.seq) read ∙ same))

pub found_nowhere : (entries : List Entry) (seq place : ℕ) → AreInOrder entries → IsBinarySearchResult (λ y. nat_cmp y.seq seq) entries (Err place) → None ≡ entry_at entries seq
found_nowhere entries seq place order result =
    let point = result (comparisons_rise entries order seq) in
    let each : All (λ e. eqb e.seq seq ≡ false) entries = λ k d below. elim (cases_lt k place) [
      | inl lt ↦ differs _ _ (inl (ranked _ seq _ (sym (point.0 k d (omega arith) lt))))
      | inr le ↦ differs _ _ (inr (ranked _ seq _ (sym (point.1 k d le below))))
    ] in
    sym (find_none (λ (e : Entry). eqb e.seq seq) entries (λ x among. of_each (λ (e : Entry). eqb e.seq seq ≡ false) entries x (recursion_from_All (λ (e : Entry). eqb e.seq seq ≡ false) entries each) among))

pub found_there : (entries : List Entry) (seq place : ℕ) (entry : Entry) → AreInOrder entries → place < length entries → entry ≡ get_or entries place entry → entry.seq ≡ seq → Some entry ≡ entry_at entries seq
found_there entries seq place entry order in_range read same = sym (at_number entries entry seq order (subst (Among entries) (sym read) (among_at entries place entry in_range)) same)
