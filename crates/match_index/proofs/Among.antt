-- Elements of a list, and what is found in it.
use Rattle.std.proofs.Common.{◌≡◌, ℕ, suc, zero, ◌<◌, ◌⊎◌, inl, inr, ◌∙◌, Bool, true, false, ◌||◌, cond, List, [], ◌∷◌, length, get_or, set, Option, Some, None, refl, sym, ap, subst, arith}
use Rattle.std.specs.Prelude.{filter}
use Rattle.std.specs.List.{AllByRecursion, find, list_any, remove}

pub or_right : (a b : Bool) → b ≡ true → (a || b) ≡ true
or_right true b h = refl
or_right false b h = h

module _ {X : Type 0} where
  -- an element of the list, by recursion
  abbrev pub Among : List X → X → Type 0
  Among [] x = ⊥
  Among (y ∷ xs) x = (y ≡ x) ⊎ Among xs x

  pub of_each : (P : X → Type 0) (xs : List X) (x : X) → AllByRecursion P xs → Among xs x → P x
  of_each P [] x all among = absurd among
  of_each P (y ∷ xs) x all (inl same) = subst P same all.0
  of_each P (y ∷ xs) x all (inr among) = of_each P xs x all.1 among

  pub among_at : (xs : List X) (place : ℕ) (d : X) → place < length xs → Among xs (get_or xs place d)
  among_at [] place d in_range = absurd (omega arith)
  among_at (x ∷ xs) zero d in_range = inl refl
  among_at (x ∷ xs) (suc place) d in_range = inr (among_at xs place d (omega arith))

  module _ (p : X → Bool) where
    found_here : (b : Bool) (y x : X) (xs : List X) → p y ≡ b → (find p xs ≡ Some x → Among xs x × (p x ≡ true)) → cond b (Some y) (find p xs) ≡ Some x → Among (y ∷ xs) x × (p x ≡ true)
    found_here true y x xs h rest found = let same : y ≡ x = cc in (inl same, subst (λ (z : X). p z ≡ true) same h)
    found_here false y x xs h rest found = let r = rest found in (inr r.0, r.1)

    pub found_among : (xs : List X) (x : X) → find p xs ≡ Some x → Among xs x × (p x ≡ true)
    found_among [] x found = cc
    found_among (y ∷ xs) x found = found_here (p y) y x xs refl (found_among xs x) found

    missed_here : (b : Bool) (y : X) (xs : List X) → p y ≡ b → cond b (Some y) (find p xs) ≡ None → (p y ≡ false) × (find p xs ≡ None)
    missed_here true y xs h missed = cc
    missed_here false y xs h missed = (h, missed)

    pub none_found : (xs : List X) (x : X) → find p xs ≡ None → Among xs x → p x ≡ false
    none_found [] x missed among = absurd among
    none_found (y ∷ xs) x missed (inl same) = subst (λ (z : X). p z ≡ false) same (missed_here (p y) y xs refl missed).0
    none_found (y ∷ xs) x missed (inr among) = none_found xs x (missed_here (p y) y xs refl missed).1 among

    pub find_none : (xs : List X) → ((x : X) → Among xs x → p x ≡ false) → find p xs ≡ None
    find_none [] none = refl
    find_none (y ∷ xs) none = rw (none y (inl refl)) (find_none xs (λ x among. none x (inr among)))

    only_here : (b : Bool) (y x : X) (xs : List X) → p y ≡ b → p x ≡ true → (p y ≡ true → y ≡ x) → (Among xs x → find p xs ≡ Some x) → Among (y ∷ xs) x → cond b (Some y) (find p xs) ≡ Some x
    only_here true y x xs h passes one rest among = ap (λ (z : X). Some z) (one h)
    only_here false y x xs h passes one rest (inl same) = let clash : p x ≡ false = subst (λ (z : X). p z ≡ false) same h in cc
    only_here false y x xs h passes one rest (inr among) = rest among

    -- the one element that passes is found
    pub find_only : (xs : List X) (x : X) → Among xs x → p x ≡ true → ((y : X) → Among xs y → p y ≡ true → y ≡ x) → find p xs ≡ Some x
    find_only [] x among passes one = absurd among
    find_only (y ∷ xs) x among passes one = only_here (p y) y x xs refl passes (one y (inl refl)) (λ rest. find_only xs x rest passes (λ z other. one z (inr other))) among

    kept_here : (b : Bool) (y x : X) (xs : List X) → p y ≡ b → p x ≡ true → (Among xs x → Among (filter p xs) x) → Among (y ∷ xs) x → Among (cond b (y ∷ filter p xs) (filter p xs)) x
    kept_here true y x xs h passes rest (inl same) = inl same
    kept_here true y x xs h passes rest (inr among) = inr (rest among)
    kept_here false y x xs h passes rest (inl same) = let clash : p x ≡ false = subst (λ (z : X). p z ≡ false) same h in absurd (let c : ⊥ = cc in c)
    kept_here false y x xs h passes rest (inr among) = rest among

    pub among_filter : (xs : List X) (x : X) → Among xs x → p x ≡ true → Among (filter p xs) x
    among_filter [] x among passes = absurd among
    among_filter (y ∷ xs) x among passes = kept_here (p y) y x xs refl passes (λ rest. among_filter xs x rest passes) among

    was_here : (b : Bool) (y x : X) (xs : List X) → p y ≡ b → (Among (filter p xs) x → Among xs x × (p x ≡ true)) → Among (cond b (y ∷ filter p xs) (filter p xs)) x → Among (y ∷ xs) x × (p x ≡ true)
    was_here true y x xs h rest (inl same) = (inl same, subst (λ (z : X). p z ≡ true) same h)
    was_here true y x xs h rest (inr among) = let r = rest among in (inr r.0, r.1)
    was_here false y x xs h rest among = let r = rest among in (inr r.0, r.1)

    pub of_filter : (xs : List X) (x : X) → Among (filter p xs) x → Among xs x × (p x ≡ true)
    of_filter [] x among = absurd among
    of_filter (y ∷ xs) x among = was_here (p y) y x xs refl (of_filter xs x) among

    pub any_among : (xs : List X) (x : X) → Among xs x → p x ≡ true → list_any p xs ≡ true
    any_among [] x among passes = absurd among
    any_among (y ∷ xs) x (inl same) passes = let h : p y ≡ true = subst (λ (z : X). p z ≡ true) (sym same) passes in rw h refl
    any_among (y ∷ xs) x (inr among) passes = or_right (p y) (list_any p xs) (any_among xs x among passes)

    pub none_any : (xs : List X) → ((x : X) → Among xs x → p x ≡ false) → list_any p xs ≡ false
    none_any [] none = refl
    none_any (y ∷ xs) none = rw (none y (inl refl)) (none_any xs (λ x among. none x (inr among)))

    any_here : (b : Bool) (y : X) (xs : List X) → p y ≡ b → (list_any p xs ≡ false → (x : X) → Among xs x → p x ≡ false) → (b || list_any p xs) ≡ false → (x : X) → Among (y ∷ xs) x → p x ≡ false
    any_here true y xs h rest none x among = cc
    any_here false y xs h rest none x (inl same) = subst (λ (z : X). p z ≡ false) same h
    any_here false y xs h rest none x (inr among) = rest none x among

    pub any_none : (xs : List X) → list_any p xs ≡ false → (x : X) → Among xs x → p x ≡ false
    any_none [] none x among = absurd among
    any_none (y ∷ xs) none x among = any_here (p y) y xs refl (any_none xs) none x among

    set_here : (b : Bool) (z x y : X) (xs : List X) → z ≡ x → p y ≡ p x → p z ≡ b → (cond (p y) (Some y) (find p xs) ≡ cond (p z) (Some z) (find p xs)) ⊎ ((cond (p z) (Some z) (find p xs) ≡ Some x) × (cond (p y) (Some y) (find p xs) ≡ Some y))
    set_here true z x y xs same alike h = let e : p y ≡ true = alike ∙ ap p (sym same) ∙ h in inr (rw h (ap (λ (w : X). Some w) same), rw e refl)
    set_here false z x y xs same alike h = let e : p y ≡ false = alike ∙ ap p (sym same) ∙ h in inl (rw (h, e) refl)

    set_behind : (b : Bool) (z x y : X) (new old : Option X) → (new ≡ old) ⊎ ((old ≡ Some x) × (new ≡ Some y)) → (cond b (Some z) new ≡ cond b (Some z) old) ⊎ ((cond b (Some z) old ≡ Some x) × (cond b (Some z) new ≡ Some y))
    set_behind true z x y new old h = inl refl
    set_behind false z x y new old h = h

    -- after a write of an element that passes where the old one does, the same is found, or the one in place of the other
    pub find_set : (xs : List X) (place : ℕ) (x y : X) → place < length xs → get_or xs place x ≡ x → p y ≡ p x → (find p (set xs place y) ≡ find p xs) ⊎ ((find p xs ≡ Some x) × (find p (set xs place y) ≡ Some y))
    find_set [] place x y in_range here alike = absurd (omega arith)
    find_set (z ∷ xs) zero x y in_range here alike = set_here (p z) z x y xs here alike refl
    find_set (z ∷ xs) (suc place) x y in_range here alike = set_behind (p z) z x y _ _ (find_set xs place x y (omega arith) here alike)

    removed_here : (b : Bool) (z x : X) (xs : List X) → z ≡ x → (find p xs ≡ cond b (Some z) (find p xs)) ⊎ (cond b (Some z) (find p xs) ≡ Some x)
    removed_here true z x xs same = inr (ap (λ (w : X). Some w) same)
    removed_here false z x xs same = inl refl

    removed_behind : (b : Bool) (z x : X) (new old : Option X) → (new ≡ old) ⊎ (old ≡ Some x) → (cond b (Some z) new ≡ cond b (Some z) old) ⊎ (cond b (Some z) old ≡ Some x)
    removed_behind true z x new old h = inl refl
    removed_behind false z x new old h = h

    -- after a removal the same is found, or what was found is gone
    pub find_remove : (xs : List X) (place : ℕ) (x : X) → place < length xs → get_or xs place x ≡ x → (find p (remove xs place) ≡ find p xs) ⊎ (find p xs ≡ Some x)
    find_remove [] place x in_range here = absurd (omega arith)
    find_remove (z ∷ xs) zero x in_range here = removed_here (p z) z x xs here
    find_remove (z ∷ xs) (suc place) x in_range here = removed_behind (p z) z x _ _ (find_remove xs place x (omega arith) here)
