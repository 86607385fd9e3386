-- Facts of each seat, where one seat changes or one more comes.
use Rattle.std.proofs.Common.{◌≡◌, ◌≢◌, ℕ, zero, suc, ◌⊎◌, List, [], ◌∷◌, ◌++◌, length, set, cond, eqb, eq-eqb, ne_eqb, inl, inr, ⊎_elim, refl, ap, sym, subst}
use mathlib.Core.Option.{some, some-injective, some-ne-none}
use lib.ListN.{get_elem?}
use Rattle.atomic_table.proofs.Lists.{at_set}

-- the owner of a lane is the seat x, and those of the others are as they were
abbrev pub redirect : (ℕ → ℕ) → ℕ → ℕ → ℕ → ℕ
redirect owner lane x k = cond (eqb k lane) x (owner k)

pub redirect_here : (owner : ℕ → ℕ) (lane x k : ℕ) → k ≡ lane → redirect owner lane x k ≡ x
redirect_here owner lane x k e = ap (λ b. cond b x (owner k)) (eq-eqb k lane e)

pub redirect_else : (owner : ℕ → ℕ) (lane x k : ℕ) → k ≢ lane → redirect owner lane x k ≡ owner k
redirect_else owner lane x k ne = ap (λ b. cond b x (owner k)) (ne_eqb k lane ne)

module _ {A : Type 0} where
  -- a fact of each item, by its place
  abbrev pub AtEach : (ℕ → A → Type 0) → List A → Type 0
  AtEach F xs = (k : ℕ) (x : A) → get_elem? xs k ≡ some x → F k x

  pub each_set : (F G : ℕ → A → Type 0) (xs : List A) (id : ℕ) (w : A) → ((k : ℕ) (x : A) → k ≢ id → F k x → G k x) → G id w → AtEach F xs → AtEach G (set xs id w)
  each_set F G xs id w others mine each k x at =
      ⊎_elim (λ (t : (k ≡ id) × (w ≡ x)). subst (λ n. G n x) (sym t.0) (subst (G id) t.1 mine)) (λ (t : (k ≢ id) × (get_elem? xs k ≡ some x)). others k x t.0 (each k x t.1)) (at_set xs id k w x at)

  at_snoc_where : (xs : List A) (a b : A) (k : ℕ) → get_elem? (xs ++ a ∷ []) k ≡ some b → (get_elem? xs k ≡ some b) ⊎ ((length xs ≡ k) × (a ≡ b))
  at_snoc_where [] a b zero e = inr (refl, some-injective a b e)
  at_snoc_where [] a b (suc k) e = absurd (some-ne-none b (sym e))
  at_snoc_where (x ∷ xs) a b zero e = inl e
  at_snoc_where (x ∷ xs) a b (suc k) e = ⊎_elim (λ t. inl t) (λ (t : (length xs ≡ k) × (a ≡ b)). inr (ap suc t.0, t.1)) (at_snoc_where xs a b k e)

  pub each_snoc : (G : ℕ → A → Type 0) (xs : List A) (w : A) → AtEach G xs → G (length xs) w → AtEach G (xs ++ w ∷ [])
  each_snoc G xs w each last k x at =
      ⊎_elim (λ (t : get_elem? xs k ≡ some x). each k x t) (λ (t : (length xs ≡ k) × (w ≡ x)). subst (λ n. G n x) t.0 (subst (G (length xs)) t.1 last)) (at_snoc_where xs w x k at)
