-- The exchange that adds an event keeps the rule.
use Rattle.std.proofs.Common.{◌≡◌, ℕ, ◌+◌, ◌<◌, ◌==◌, Bool, true, false, List, [], ◌∷◌, ◌++◌, length, refl, ap, sym, subst, arith, inl, length-append, None}
use Rattle.std.proofs.lemmas.List.{append-nil}
use Rattle.std.proofs.lemmas.Bool.Decides.{nat_tests}
use mathlib.Core.List.{IsPrefix}
use prog.Atomic.{either}
use Rattle.logbook.specs.Pages.{Cell, cell, keeps, no_nib, step, Moves, Goes}
use Rattle.event_log.specs.Legal.{after, IsLegal}
use Rattle.event_log.specs.Ruling.{IsKept, Added}
use Rattle.event_log.proofs.Going.{goes_on_by_one}
use Rattle.event_log.proofs.Prefixes.{prefix_whole}

module _ {S E : Type 0} (start : S) (applied : S → E → S) (may : S → E → Type 0) where
  abbrev pub shown : List E → List E
  shown log = []

  abbrev pub moved : List E → List E → ℕ → Type 0
  moved xs ys n = Unit {0}

  goes : (log v : List E) (e : E) (old : ℕ) → length v ≡ old → may (after applied start v) e → IsLegal applied may start log → IsPrefix v log
      → (b : Bool) → (length log == old) ≡ b
      → Goes (IsKept start applied may) shown moved 0 (v, (no_nib, None)) (λ n. either (n == old) (old + 1) n) (Added start applied may (step 0 old (old + 1) e) (v, (no_nib, None))) ((length log, true) ∷ (0, true) ∷ []) log
  goes log v e old len next legal pre true is =
      let here : length log ≡ old = grind (arith, nat_tests) in
      let same : v ≡ log = prefix_whole v log pre (omega arith) in
      let longer : IsLegal applied may start (log ++ e ∷ []) = goes_on_by_one applied may start log e legal (subst (λ l. may (after applied start l) e) same next) in
      let n : either (length log == old) (old + 1) (length log) ≡ length (log ++ e ∷ []) = rw is (omega (arith, length-append log (e ∷ []))) in (
        keeps,
        e ∷ [],
        None,
        tt,
        record { words = ap (λ (k : ℕ). (k, true) ∷ (0, true) ∷ []) n; legal = longer },
        inl (refl, refl),
        rw is (ap (λ w. w ++ e ∷ []) (sym same), longer),
      )
  goes log v e old len next legal pre false is =
      let all : log ++ [] ≡ log = append-nil log in
      let same : IsLegal applied may start (log ++ []) = subst (IsLegal applied may start) (sym all) legal in
      let n : either (length log == old) (old + 1) (length log) ≡ length (log ++ []) = rw is (ap length (sym all)) in (
        keeps,
        [],
        None,
        tt,
        record { words = ap (λ (k : ℕ). (k, true) ∷ (0, true) ∷ []) n; legal = same },
        inl (refl, refl),
        rw is (ap length all, same),
      )

  -- whatever the list is, the exchange adds the event to all that was seen, or finds that the list has more
  pub adds : (v : List E) (e : E) (old : ℕ) → length v ≡ old → may (after applied start v) e
      → Moves (IsKept start applied may) shown moved 0 (v, (no_nib, None)) (λ n. either (n == old) (old + 1) n) (Added start applied may (step 0 old (old + 1) e) (v, (no_nib, None)))
  adds v e old len next cs log kept pre away =
      let P : List Cell → Type 0 = λ c. (0 < length c) × ((cell c 0).1 ≡ true) × Goes (IsKept start applied may) shown moved 0 (v, (no_nib, None)) (λ n. either (n == old) (old + 1) n) (Added start applied may (step 0 old (old + 1) e) (v, (no_nib, None))) c log in
      subst P (sym kept.words) (omega arith, refl, goes log v e old len next kept.legal pre (length log == old) refl)
