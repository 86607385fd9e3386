-- The greatest number that passes a test, and the same for a test that answers otherwise at one number.
use Rattle.std.proofs.Common.{◌≡◌, ◌≢◌, ℕ, suc, zero, ◌<◌, ◌≤◌, Bool, true, false, refl, sym, ap, subst, ◌∙◌, ◌⊎◌, inl, inr, arith}
use Rattle.std.specs.Prelude.{if◌then◌else◌}
use Rattle.row_index.specs.Reach.{reach}

pub bool_cases : (b : Bool) → (b ≡ true) ⊎ (b ≡ false)
bool_cases true = inl refl
bool_cases false = inr refl

chosen_yes : (b : Bool) (m n : ℕ) → b ≡ true → (if b then m else n) ≡ m
chosen_yes true m n e = refl
chosen_yes false m n e = cc

chosen_no : (b : Bool) (m n : ℕ) → b ≡ false → (if b then m else n) ≡ n
chosen_no true m n e = cc
chosen_no false m n e = refl

pub reach_yes : (f : ℕ → Bool) (limit : ℕ) → f limit ≡ true → reach f (suc limit) ≡ suc limit
reach_yes f limit e = chosen_yes (f limit) (suc limit) (reach f limit) e

pub reach_no : (f : ℕ → Bool) (limit : ℕ) → f limit ≡ false → reach f (suc limit) ≡ reach f limit
reach_no f limit e = chosen_no (f limit) (suc limit) (reach f limit) e

pub reach_le : (f : ℕ → Bool) (limit : ℕ) → reach f limit ≤ limit
reach_le f zero = omega arith
reach_le f (suc limit) = elim (bool_cases (f limit)) [ inl e ↦ let y = reach_yes f limit e in omega (arith, y) | inr e ↦ let n = reach_no f limit e in let ih = reach_le f limit in omega (arith, n, ih) ]

-- what passes is reached
pub reach_covers : (f : ℕ → Bool) (limit place : ℕ) → place < limit → f place ≡ true → place < reach f limit
reach_covers f zero place lt e = absurd (omega (arith, lt))
reach_covers f (suc limit) place lt e = elim (bool_cases (f limit)) [
  | inl hit ↦ let y = reach_yes f limit hit in omega (arith, y, lt)
  | inr miss ↦ elim (same_or_below place limit lt) [
    | inl is ↦ absurd (clash (f limit) (subst (λ n. f n ≡ true) is e) miss)
    | inr below ↦ let n = reach_no f limit miss in let ih = reach_covers f limit place below e in omega (arith, n, ih)
  ]
]
  where
    clash : (b : Bool) → b ≡ true → b ≡ false → ⊥
    clash true e n = cc
    clash false e n = cc

    same_or_below : (a b : ℕ) → a < suc b → (a ≡ b) ⊎ (a < b)
    same_or_below a b lt = grind arith

-- what is reached passes
pub reach_passes : (f : ℕ → Bool) (limit place : ℕ) → reach f limit ≡ suc place → f place ≡ true
reach_passes f zero place e = absurd (omega (arith, e))
reach_passes f (suc limit) place e = elim (bool_cases (f limit)) [
  | inl hit ↦ let y = reach_yes f limit hit in let is : limit ≡ place = omega (arith, y, e) in subst (λ n. f n ≡ true) is hit
  | inr miss ↦ let n = reach_no f limit miss in reach_passes f limit place (sym n ∙ e)
]

-- two tests answer alike at every number but one
pub record Agree (f g : ℕ → Bool) (place : ℕ) : Type 0 where
  pub agree : (other : ℕ) → other ≢ place → g other ≡ f other

pub reach_same : (f g : ℕ → Bool) (limit : ℕ) → ((place : ℕ) → place < limit → g place ≡ f place) → reach g limit ≡ reach f limit
reach_same f g zero h = refl
reach_same f g (suc limit) h =
    let here = h limit (omega arith) in
    let ih = reach_same f g limit (λ place lt. h place (omega (arith, lt))) in
    elim (bool_cases (f limit)) [
      | inl hit ↦ reach_yes g limit (here ∙ hit) ∙ sym (reach_yes f limit hit)
      | inr miss ↦ reach_no g limit (here ∙ miss) ∙ ih ∙ sym (reach_no f limit miss)
    ]

-- below the number nothing changes
pub reach_low : (f g : ℕ → Bool) (place limit : ℕ) → Agree f g place → limit ≤ place → reach g limit ≡ reach f limit
reach_low f g place limit a le = reach_same f g limit (λ other lt. a.agree other (λ e. omega (arith, lt, le, e)))

-- where a greater one passes nothing changes
pub reach_far : (f g : ℕ → Bool) (place limit : ℕ) → Agree f g place → suc place < reach f limit → reach g limit ≡ reach f limit
reach_far f g place zero a lt = absurd (omega (arith, lt))
reach_far f g place (suc limit) a lt = elim (bool_cases (f limit)) [
  | inl hit ↦
      let y = reach_yes f limit hit in
      let same = a.agree limit (λ e. omega (arith, y, lt, e)) in
      reach_yes g limit (same ∙ hit) ∙ sym y
  | inr miss ↦
      let n = reach_no f limit miss in
      let lt' : suc place < reach f limit = omega (arith, n, lt) in
      let le = reach_le f limit in
      let same = a.agree limit (λ e. omega (arith, lt', le, e)) in
      reach_no g limit (same ∙ miss) ∙ reach_far f g place limit a lt' ∙ sym n
]

-- where no greater one passes, the number itself is reached, or what lies below
pub reach_near : (f g : ℕ → Bool) (place limit : ℕ) → Agree f g place → reach f limit ≤ suc place → place < limit → reach g limit ≡ (if g place then suc place else reach f place)
reach_near f g place zero a le lt = absurd (omega (arith, lt))
reach_near f g place (suc limit) a le lt = elim (same_or_below place limit lt) [
  | inl is ↦ subst (λ n. reach g (suc n) ≡ (if g place then suc place else reach f place)) is (ap (λ n. if g place then suc place else n) (reach_low f g place place a (omega arith)))
  | inr below ↦ elim (bool_cases (f limit)) [
    | inl hit ↦ let y = reach_yes f limit hit in absurd (omega (arith, y, le, below))
    | inr miss ↦
        let n = reach_no f limit miss in
        let same = a.agree limit (λ e. omega (arith, below, e)) in
        reach_no g limit (same ∙ miss) ∙ reach_near f g place limit a (omega (arith, n, le)) below
  ]
]
  where
    same_or_below : (a b : ℕ) → a < suc b → (a ≡ b) ⊎ (a < b)
    same_or_below a b lt = grind arith
