-- What holds of each lane, lane by lane from the highest.
use Rattle.std.proofs.Common.{◌≡◌, ℕ, zero, suc, ◌+◌, List, [], ◌∷◌, ◌++◌, length, slice_index_or, slice_set, refl, ap, sym, subst, ◌∙◌, ◌<◌, arith, append_assoc, add-one}
use Rattle.std.proofs.lemmas.List.{append-nil}
use Rattle.std.specs.List.{AllByRecursion, AllZip}
use Rattle.run_lanes.specs.Gathered.{OfEach}

-- so many lanes are left, and with what holds of them it holds of all
abbrev pub GoesOn : {A : Type 0} → (ℕ → A → Type 0) → ℕ → ℕ → List A → Type 0
GoesOn {A} P left n xs = (rest : List A) → OfEach P left rest → OfEach P n (xs ++ rest)

pub all_left : {A : Type 0} (P : ℕ → A → Type 0) (n : ℕ) → GoesOn P n n []
all_left P n rest h = h

pub one_done : {A : Type 0} (P : ℕ → A → Type 0) (left n : ℕ) (xs : List A) (x : A) → GoesOn P (suc left) n xs → P left x → GoesOn P left n (xs ++ x ∷ [])
one_done P left n xs x goes holds rest h = subst (λ l. OfEach P n l) (sym (append_assoc xs (x ∷ []) rest)) (goes (x ∷ rest) (holds, h))

pub all_done : {A : Type 0} (P : ℕ → A → Type 0) (n : ℕ) (xs : List A) → GoesOn P 0 n xs → OfEach P n xs
all_done P n xs goes = subst (λ l. OfEach P n l) (append-nil xs) (goes [] tt)

-- there are as many as lanes
pub as_many : {A : Type 0} (P : ℕ → A → Type 0) (n : ℕ) (xs : List A) → OfEach P n xs → length xs ≡ n
as_many P zero [] h = refl
as_many P zero (x ∷ xs) h = absurd h
as_many P (suc n) [] h = absurd h
as_many P (suc n) (x ∷ xs) h = (let r = as_many P n xs h.1 in omega (arith, r))

-- the same, where the numbers are given
pub one_done_at : {A : Type 0} (P : ℕ → A → Type 0) (left fewer n : ℕ) (xs : List A) (x : A) → left ≡ fewer + 1 → GoesOn P left n xs → P fewer x → GoesOn P fewer n (xs ++ x ∷ [])
one_done_at P left fewer n xs x is goes holds = one_done P fewer n xs x (subst (λ k. GoesOn P k n xs) (is ∙ add-one fewer) goes) holds

pub all_done_at : {A : Type 0} (P : ℕ → A → Type 0) (left n : ℕ) (xs : List A) → left ≡ 0 → GoesOn P left n xs → OfEach P n xs
all_done_at P left n xs is goes = all_done P n xs (subst (λ k. GoesOn P k n xs) is goes)

-- of lanes that are taken one by one, none yet
pub none_ended : {A B : Type 0} (P : ℕ → A → Type 0) (Q : ℕ → B → Type 0) (n : ℕ) (xs : List A) (ys : List B) → OfEach P n xs → ys ≡ [] → OfEach P (length xs) xs × GoesOn Q (length xs) n ys
none_ended P Q n xs ys h none =
    let many = as_many P n xs h in
    (subst (λ k. OfEach P k xs) (sym many) h, subst (λ l. GoesOn Q (length xs) n l) (sym none) (subst (λ k. GoesOn Q k n []) (sym many) (all_left Q n)))

-- one more
pub next_ended : {A B : Type 0} (P : ℕ → A → Type 0) (Q : ℕ → B → Type 0) (n : ℕ) (xs rest : List A) (x : A) (ys : List B) (y : B)
    → OfEach P (length xs) xs → xs ≡ x ∷ rest → GoesOn Q (length xs) n ys → (P (length rest) x → Q (length rest) y) → OfEach P (length rest) rest × GoesOn Q (length rest) n (ys ++ y ∷ [])
next_ended P Q n xs rest x ys y h is goes becomes =
    let here = subst (λ l. OfEach P (length l) l) is h in
    let there = subst (λ l. GoesOn Q (length l) n ys) is goes in
    (here.1, one_done Q (length rest) n ys y there (becomes here.0))

-- all of them
pub all_ended : {A B : Type 0} (Q : ℕ → B → Type 0) (n : ℕ) (xs : List A) (ys : List B) → xs ≡ [] → GoesOn Q (length xs) n ys → OfEach Q n ys
all_ended Q n xs ys none goes = all_done Q n ys (subst (λ l. GoesOn Q (length l) n ys) none goes)

-- a list without length has nothing
pub none_left : {A : Type 0} (xs : List A) → length xs ≡ 0 → xs ≡ []
none_left [] none = refl
none_left (x ∷ xs) none = absurd (omega (arith, none))

-- at its place a lane is followed by one of the same number
pub lane_kept : {A : Type 0} (f : A → ℕ) (n place : ℕ) (xs : List A) (x d : A) → place < n → OfEach (λ (lane : ℕ) (a : A). f a ≡ lane) n xs
    → f x ≡ f (slice_index_or xs place d) → OfEach (λ (lane : ℕ) (a : A). f a ≡ lane) n (slice_set xs place x)
lane_kept f zero place xs x d within h same = absurd (omega (arith, within))
lane_kept f (suc n) place [] x d within h same = absurd h
lane_kept f (suc n) zero (y ∷ xs) x d within h same = (same ∙ h.0, h.1)
lane_kept f (suc n) (suc place) (y ∷ xs) x d within h same = (h.0, lane_kept f n place xs x d (omega (arith, within)) h.1 same)

-- each lane beside what became of it
pub each_becomes : {A B : Type 0} (P : ℕ → A → Type 0) (Q : ℕ → B → Type 0) (R : A → B → Type 0) (n : ℕ) (xs : List A) (ys : List B)
    → ((lane : ℕ) (x : A) (y : B) → P lane x → R x y → Q lane y) → OfEach P n xs → AllZip R xs ys → OfEach Q n ys
each_becomes P Q R zero [] [] becomes h did = tt
each_becomes P Q R zero [] (y ∷ ys) becomes h did = absurd did
each_becomes P Q R zero (x ∷ xs) ys becomes h did = absurd h
each_becomes P Q R (suc n) [] ys becomes h did = absurd h
each_becomes P Q R (suc n) (x ∷ xs) [] becomes h did = absurd did
each_becomes P Q R (suc n) (x ∷ xs) (y ∷ ys) becomes h did = (becomes n x y h.0 did.0, each_becomes P Q R n xs ys becomes h.1 did.1)
