-- Values by lane.
use Rattle.std.proofs.Common.{◌≡◌, ◌≢◌, ℕ, zero, suc, ◌+◌, ◌<◌, List, [], ◌∷◌, ◌++◌, Option, Some, length, get_or, set, slice_get, refl, ap, ◌∙◌, sym, subst, ◌⊎◌, inl, inr, arith, add-one}
use Rattle.std.specs.Prelude.{replicate}
use Rattle.std.specs.List.{AllByRecursion}
use Rattle.std.proofs.lemmas.Bool.{cases_eq}
use Rattle.std.proofs.lemmas.List.{get_or_at, get_or_append_left, set_at, set-append_left, length_push, replicate_more}
use Rattle.plane_spec.proofs.Lists.{All-snoc}
use Rattle.tape_lanes.specs.Lanes.{by_lane}
use Rattle.tape_lanes.specs.Dealing.{given}

-- there is a value for each lane
pub length-by_lane : {A : Type 0} (f : ℕ → A) (n : ℕ) → length (by_lane f n) ≡ n
unfolding by_lane
length-by_lane f zero = refl
length-by_lane f (suc n) = let e = length_push (by_lane f n) (f n) in omega (arith, e, length-by_lane f n)

-- at a lane's place stands its value
pub by_lane_at : {A : Type 0} (f : ℕ → A) (n lane : ℕ) (d : A) → lane < n → get_or (by_lane f n) lane d ≡ f lane
unfolding by_lane
by_lane_at f zero lane d below = absurd (omega (arith, below))
by_lane_at f (suc n) lane d below =
    elim (cases_eq lane n) [
      | inl same ↦ get_or_at (by_lane f n) (f n) [] d lane (length-by_lane f n ∙ sym same) ∙ ap f (sym same)
      | inr other ↦
          let less : lane < n = omega arith in
          let e = length-by_lane f n in
          get_or_append_left (by_lane f n) (f n ∷ []) d lane (omega (arith, e, less)) ∙ by_lane_at f n lane d less
    ]

-- the same values for each lane
pub by_lane_same : {A : Type 0} (f g : ℕ → A) (n : ℕ) → ((lane : ℕ) → lane < n → f lane ≡ g lane) → by_lane f n ≡ by_lane g n
unfolding by_lane
by_lane_same f g zero same = refl
by_lane_same f g (suc n) same =
    ap (λ l. l ++ f n ∷ []) (by_lane_same f g n (λ lane below. same lane (omega (arith, below))))
    ∙ ap (λ x. by_lane g n ++ x ∷ []) (same n (omega arith))

-- what holds of the value of each lane
pub by_lane_all : {A : Type 0} (P : A → Type 0) (f : ℕ → A) (n : ℕ) → ((lane : ℕ) → lane < n → P (f lane)) → AllByRecursion P (by_lane f n)
unfolding by_lane
by_lane_all P f zero each = tt
by_lane_all P f (suc n) each = All-snoc P (by_lane f n) (f n) (by_lane_all P f n (λ lane below. each lane (omega (arith, below)))) (each n (omega arith))

-- lanes that are given nothing yet
pub by_lane_none : {A : Type 0} (n : ℕ) → by_lane {A = List A} (λ lane. []) n ≡ replicate n []
unfolding by_lane
by_lane_none zero = refl
by_lane_none (suc n) = ap (λ l. l ++ [] ∷ []) (by_lane_none n) ∙ replicate_more n [] ∙ ap (λ k. replicate k []) (add-one n)

-- one lane is given an item more
pub by_lane_given : {A : Type 0} (f g : ℕ → List A) (n lane : ℕ) (item : A) → lane < n → g lane ≡ f lane ++ item ∷ []
    → ((other : ℕ) → other ≢ lane → g other ≡ f other) → by_lane g n ≡ given lane item (by_lane f n)
unfolding by_lane
by_lane_given f g zero lane item below here others = absurd (omega (arith, below))
by_lane_given f g (suc n) lane item below here others =
    elim (cases_eq lane n) [
      | inl same ↦
          let len : length (by_lane f n) ≡ lane = length-by_lane f n ∙ sym same in
          let last : g n ≡ f n ++ item ∷ [] = ap g (sym same) ∙ here ∙ ap (λ l. f l ++ item ∷ []) same in
          ap (λ l. l ++ g n ∷ []) (by_lane_same g f n (λ other less. others other (omega arith)))
          ∙ ap (λ x. by_lane f n ++ x ∷ []) last
          ∙ sym (set_at (by_lane f n) (f n) [] (f n ++ item ∷ []) lane len)
          ∙ ap (λ x. set (by_lane f n ++ f n ∷ []) lane (x ++ item ∷ [])) (sym (get_or_at (by_lane f n) (f n) [] [] lane len))
      | inr other ↦
          let less : lane < n = omega arith in
          let len : lane < length (by_lane f n) = let e = length-by_lane f n in omega (arith, e, less) in
          ap (λ l. l ++ g n ∷ []) (by_lane_given f g n lane item less here others)
          ∙ ap (λ x. given lane item (by_lane f n) ++ x ∷ []) (others n (λ same. other (sym same)))
          ∙ sym (set-append_left (by_lane f n) (f n ∷ []) lane (get_or (by_lane f n) lane [] ++ item ∷ []) len)
          ∙ ap (λ x. set (by_lane f n ++ f n ∷ []) lane (x ++ item ∷ [])) (sym (get_or_append_left (by_lane f n) (f n ∷ []) [] lane len))
    ]
