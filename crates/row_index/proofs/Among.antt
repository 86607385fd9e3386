-- Elements of a list, and what is found in it.
use Rattle.std.proofs.Common.{◌≡◌, ℕ, suc, zero, ◌<◌, ◌⊎◌, inl, inr, ◌∙◌, Bool, true, false, ◌||◌, cond, List, [], ◌∷◌, length, get_or, Some, None, refl, sym, ap, subst, arith}
use Rattle.std.specs.Prelude.{filter}
use Rattle.std.specs.List.{Contains, find, list_any, position, position_or_len}
use Rattle.std.proofs.lemmas.Bool.Decides.{nat_tests}
use Rattle.std.proofs.lemmas.List.Folds.{find_at}
use Rattle.std.proofs.lemmas.Option.{slice_get_past}

pub or_right : (a b : Bool) → b ≡ true → (a || b) ≡ true
or_right true b h = refl
or_right false b h = h

module _ {X : Type 0} where
  -- an element of the list, by recursion
  abbrev pub Among : List X → X → Type 0
  Among [] x = ⊥
  Among (y ∷ xs) x = (y ≡ x) ⊎ Among xs x

  pub among_at : (xs : List X) (place : ℕ) (d : X) → place < length xs → Among xs (get_or xs place d)
  among_at [] place d in_range = absurd (omega arith)
  among_at (x ∷ xs) zero d in_range = inl refl
  among_at (x ∷ xs) (suc place) d in_range = inr (among_at xs place d (omega arith))

  pub among : (xs : List X) (x : X) → Contains xs x → Among xs x
  among xs x has = subst (Among xs) has.2 (among_at xs has.0 x has.1)

  pub contains : (xs : List X) (x : X) → Among xs x → Contains xs x
  contains [] x here = absurd here
  contains (y ∷ xs) x (inl same) = (0, omega arith, same)
  contains (y ∷ xs) x (inr behind) = let has = contains xs x behind in (suc has.0, let lt = has.1 in omega (arith, lt), has.2)

  module _ (p : X → Bool) where
    found_here : (b : Bool) (y x : X) (xs : List X) → p y ≡ b → (find p xs ≡ Some x → Among xs x × (p x ≡ true)) → cond b (Some y) (find p xs) ≡ Some x → Among (y ∷ xs) x × (p x ≡ true)
    found_here true y x xs h rest found = let same : y ≡ x = cc in (inl same, subst (λ (z : X). p z ≡ true) same h)
    found_here false y x xs h rest found = let r = rest found in (inr r.0, r.1)

    pub found_among : (xs : List X) (x : X) → find p xs ≡ Some x → Among xs x × (p x ≡ true)
    found_among [] x found = cc
    found_among (y ∷ xs) x found = found_here (p y) y x xs refl (found_among xs x) found

    missed_here : (b : Bool) (y : X) (xs : List X) → p y ≡ b → cond b (Some y) (find p xs) ≡ None → (p y ≡ false) × (find p xs ≡ None)
    missed_here true y xs h missed = cc
    missed_here false y xs h missed = (h, missed)

    pub none_found : (xs : List X) (x : X) → find p xs ≡ None → Among xs x → p x ≡ false
    none_found [] x missed among = absurd among
    none_found (y ∷ xs) x missed (inl same) = subst (λ (z : X). p z ≡ false) same (missed_here (p y) y xs refl missed).0
    none_found (y ∷ xs) x missed (inr among) = none_found xs x (missed_here (p y) y xs refl missed).1 among

    pub nowhere : (xs : List X) → position p xs ≡ None → find p xs ≡ None
    nowhere xs none = find_at p xs ∙ slice_get_past xs (position_or_len p xs) (grind (arith, nat_tests))

    pub find_none : (xs : List X) → ((x : X) → Among xs x → p x ≡ false) → find p xs ≡ None
    find_none [] none = refl
    find_none (y ∷ xs) none = rw (none y (inl refl)) (find_none xs (λ x among. none x (inr among)))

    only_here : (b : Bool) (y x : X) (xs : List X) → p y ≡ b → p x ≡ true → (p y ≡ true → y ≡ x) → (Among xs x → find p xs ≡ Some x) → Among (y ∷ xs) x → cond b (Some y) (find p xs) ≡ Some x
    only_here true y x xs h passes one rest among = ap (λ (z : X). Some z) (one h)
    only_here false y x xs h passes one rest (inl same) = let clash : p x ≡ false = subst (λ (z : X). p z ≡ false) same h in cc
    only_here false y x xs h passes one rest (inr among) = rest among

    -- the one element that passes is found
    pub find_only : (xs : List X) (x : X) → Among xs x → p x ≡ true → ((y : X) → Among xs y → p y ≡ true → y ≡ x) → find p xs ≡ Some x
    find_only [] x among passes one = absurd among
    find_only (y ∷ xs) x among passes one = only_here (p y) y x xs refl passes (one y (inl refl)) (λ rest. find_only xs x rest passes (λ z other. one z (inr other))) among

    kept_here : (b : Bool) (y x : X) (xs : List X) → p y ≡ b → p x ≡ true → (Among xs x → Among (filter p xs) x) → Among (y ∷ xs) x → Among (cond b (y ∷ filter p xs) (filter p xs)) x
    kept_here true y x xs h passes rest (inl same) = inl same
    kept_here true y x xs h passes rest (inr among) = inr (rest among)
    kept_here false y x xs h passes rest (inl same) = let clash : p x ≡ false = subst (λ (z : X). p z ≡ false) same h in absurd (let c : ⊥ = cc in c)
    kept_here false y x xs h passes rest (inr among) = rest among

    pub among_filter : (xs : List X) (x : X) → Among xs x → p x ≡ true → Among (filter p xs) x
    among_filter [] x among passes = absurd among
    among_filter (y ∷ xs) x among passes = kept_here (p y) y x xs refl passes (λ rest. among_filter xs x rest passes) among

    was_here : (b : Bool) (y x : X) (xs : List X) → p y ≡ b → (Among (filter p xs) x → Among xs x × (p x ≡ true)) → Among (cond b (y ∷ filter p xs) (filter p xs)) x → Among (y ∷ xs) x × (p x ≡ true)
    was_here true y x xs h rest (inl same) = (inl same, subst (λ (z : X). p z ≡ true) same h)
    was_here true y x xs h rest (inr among) = let r = rest among in (inr r.0, r.1)
    was_here false y x xs h rest among = let r = rest among in (inr r.0, r.1)

    pub of_filter : (xs : List X) (x : X) → Among (filter p xs) x → Among xs x × (p x ≡ true)
    of_filter [] x among = absurd among
    of_filter (y ∷ xs) x among = was_here (p y) y x xs refl (of_filter xs x) among

    pub any_among : (xs : List X) (x : X) → Among xs x → p x ≡ true → list_any p xs ≡ true
    any_among [] x among passes = absurd among
    any_among (y ∷ xs) x (inl same) passes = let h : p y ≡ true = subst (λ (z : X). p z ≡ true) (sym same) passes in rw h refl
    any_among (y ∷ xs) x (inr among) passes = or_right (p y) (list_any p xs) (any_among xs x among passes)

    pub none_any : (xs : List X) → ((x : X) → Among xs x → p x ≡ false) → list_any p xs ≡ false
    none_any [] none = refl
    none_any (y ∷ xs) none = rw (none y (inl refl)) (none_any xs (λ x among. none x (inr among)))

    any_here : (b : Bool) (y : X) (xs : List X) → p y ≡ b → (list_any p xs ≡ false → (x : X) → Among xs x → p x ≡ false) → (b || list_any p xs) ≡ false → (x : X) → Among (y ∷ xs) x → p x ≡ false
    any_here true y xs h rest none x among = cc
    any_here false y xs h rest none x (inl same) = subst (λ (z : X). p z ≡ false) same h
    any_here false y xs h rest none x (inr among) = rest none x among

    pub any_none : (xs : List X) → list_any p xs ≡ false → (x : X) → Among xs x → p x ≡ false
    any_none [] none x among = absurd among
    any_none (y ∷ xs) none x among = any_here (p y) y xs refl (any_none xs) none x among
