-- What lanes have, in lists from whose ends they are opened.
use Rattle.std.proofs.Common.{◌≡◌, ℕ, ◌+◌, ◌<◌, List, [], ◌∷◌, ◌++◌, length, ap, sym, ◌∙◌, arith, add-one}
use Rattle.std.proofs.lemmas.List.{length-append}
use Rattle.lane_table.proofs.Places.{last_is}
use Rattle.tape_lanes.specs.Lanes.{by_lane}

-- what one lane more has
pub lanes_more : {A : Type 0} (f : ℕ → A) (n : ℕ) → by_lane f (n + 1) ≡ by_lane f n ++ f n ∷ []
unfolding by_lane
lanes_more f n = ap (by_lane f) (add-one n)

pub some_lane : {A : Type 0} (f : ℕ → A) (n : ℕ) (xs : List A) → xs ≡ by_lane f (n + 1) → 0 < length xs
some_lane f n xs is = omega (arith, ap length (is ∙ lanes_more f n), length-append (by_lane f n) (f n ∷ []))

-- what the highest lane has is taken
pub value_taken : {A : Type 0} (f : ℕ → A) (n : ℕ) (before after : List A) (x : A) → before ≡ after ++ x ∷ [] → before ≡ by_lane f (n + 1) → (after ≡ by_lane f n) × (x ≡ f n)
value_taken f n before after x last is = last_is after (by_lane f n) x (f n) (sym last ∙ is ∙ lanes_more f n)
