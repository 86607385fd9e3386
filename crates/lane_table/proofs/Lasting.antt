-- The laws of a journal's lanes.
use Rattle.std.proofs.Common.{◌≡◌, ◌≢◌, ℕ, zero, suc, ◌<◌, ◌≤◌, ◌==◌, Bool, true, false, List, [], ◌∷◌, ◌++◌, cond, eq-eqb, ne_eqb, refl, ap, sym, ◌∙◌, lt_of_not-le}
use Rattle.std.specs.Prelude.{All, Some, slice_get}
use Rattle.std.proofs.lemmas.List.Elements.{filter-append}
use Rattle.std.proofs.lemmas.List.Elements.{All-nil, All-cons}
use mathlib.Core.Logic.{dite}
use native.Mathlib.Decide.{ℕ_discrete}
use Rattle.lane_table.specs.Lanes.{of_lane}
use Rattle.lane_table.specs.Laws.{KeepsItsLane, KeepsOtherLanes, NeedsNoOther, ShowsItsCall}
use Rattle.lane_table.proofs.Keeping.{of_same, of_other}

-- what stands in a list stands there still when the list is longer
got_longer : {A : Type 0} (xs ys : List A) (k : ℕ) (x : A) → slice_get xs k ≡ Some x → slice_get (xs ++ ys) k ≡ Some x
got_longer [] ys k x at = absurd cc
got_longer (z ∷ xs) ys zero x at = at
got_longer (z ∷ xs) ys (suc k) x at = got_longer xs ys k x at

module _ {E : Type 0} (lane : E → ℕ) where
  pub its_lane : KeepsItsLane lane
  its_lane l j e is agrees = ap (λ xs. xs ++ e ∷ []) agrees ∙ sym (of_same lane l.number j.entries e is)

  pub other_lanes : KeepsOtherLanes lane
  other_lanes l j e ne agrees = agrees ∙ sym (of_other lane l.number j.entries e ne)

  -- where a lane has no entry, the first is of another, and the lane has none among the rest
  none_among : (l : ℕ) (e : E) (es : List E) → of_lane lane l (e ∷ es) ≡ [] → (lane e ≢ l) × (of_lane lane l es ≡ [])
  none_among l e es none =
      let split : (b : Bool) → (lane e == l) ≡ b → cond b (e ∷ of_lane lane l es) (of_lane lane l es) ≡ [] = λ b is. sym (ap (λ c. cond c (e ∷ of_lane lane l es) (of_lane lane l es)) is) ∙ none in
      dite (ℕ_discrete (lane e) l) (λ is. absurd (cc (split true (eq-eqb (lane e) l is)))) (λ ne. (ne, split false (ne_eqb (lane e) l ne)))

  below : (n : ℕ) (es : List E) → ((later : ℕ) → n ≤ later → of_lane lane later es ≡ []) → All (λ e. lane e < n) es
  below n [] none = All-nil (λ e. lane e < n)
  below n (e ∷ es) none =
      All-cons (λ x. lane x < n) e es (lt_of_not-le (λ h. (none_among (lane e) e es (none (lane e) h)).0 refl)) (below n es (λ later h. (none_among later e es (none later h)).1))

  pub no_other : NeedsNoOther lane
  no_other j none = below j.lanes j.entries none

  pub shows_its : ShowsItsCall lane
  shows_its noted all number k e pre at =
      let parts : of_lane lane number all ≡ of_lane lane number noted ++ of_lane lane number pre.0 = ap (of_lane lane number) (sym pre.1) ∙ filter-append (λ x. lane x == number) noted pre.0 in
      ap (λ xs. slice_get xs k) parts ∙ got_longer (of_lane lane number noted) (of_lane lane number pre.0) k e at
