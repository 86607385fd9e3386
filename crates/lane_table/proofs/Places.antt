-- Lists from whose ends the seats of lanes are taken.
use Rattle.std.proofs.Common.{◌≡◌, ℕ, zero, suc, ◌+◌, ◌<◌, List, [], ◌∷◌, ◌++◌, length, replicate, refl, ap, sym, subst, ◌∙◌, arith, add-one}
use Rattle.std.specs.List.{AllByRecursion}
use Rattle.std.proofs.lemmas.List.{length-append}
use Rattle.lane_table.specs.Lanes.{seats_from, Lane, LaneTableId}

-- a last element is none of no list
nothing_last : {A : Type 0} (ys : List A) (y : A) → [] ≡ ys ++ y ∷ [] → ⊥
nothing_last [] y e = absurd (cc e)
nothing_last (b ∷ ys) y e = absurd (cc e)

-- lists with a last element each are alike in it and in what is before it
pub last_is : {A : Type 0} (xs ys : List A) (x y : A) → xs ++ x ∷ [] ≡ ys ++ y ∷ [] → (xs ≡ ys) × (x ≡ y)
last_is [] [] x y e = (refl, cc e)
last_is [] (b ∷ ys) x y e = absurd (nothing_last ys y (cc e))
last_is (a ∷ xs) [] x y e = absurd (nothing_last xs x (cc e))
last_is (a ∷ xs) (b ∷ ys) x y e =
    let first : a ≡ b = cc e in
    let rest = last_is xs ys x y (cc e) in
    (ap (λ l. a ∷ l) rest.0 ∙ ap (λ c. c ∷ ys) first, rest.1)

-- what holds of each of two lists together
each_of_both : {A : Type 0} (P : A → Type 0) (xs ys : List A) → AllByRecursion P (xs ++ ys) → AllByRecursion P xs × AllByRecursion P ys
each_of_both P [] ys h = (tt, h)
each_of_both P (x ∷ xs) ys h = (let rest = each_of_both P xs ys h.1 in ((h.0, rest.0), rest.1))

-- the last of what each is so is taken
pub last_taken : {A : Type 0} (P : A → Type 0) (before after : List A) (x : A) → before ≡ after ++ x ∷ [] → AllByRecursion P before → AllByRecursion P after × P x
last_taken P before after x last each = (let both = each_of_both P after (x ∷ []) (subst (λ l. AllByRecursion P l) last each) in (both.0, both.1.0))

abbrev seat_at : {E : Type 0} → LaneTableId → ℕ → Lane E
seat_at table n = record { table = table; number = n; entries = [] }

-- the seats of one lane more
seats_more : {E : Type 0} (table : LaneTableId) (n : ℕ) → seats_from {E = E} table (n + 1) ≡ seats_from table n ++ seat_at table n ∷ []
seats_more {E} table n = ap (seats_from {E = E} table) (add-one n)

pub some_seat : {E : Type 0} (table : LaneTableId) (n : ℕ) (xs : List (Lane E)) → xs ≡ seats_from table (n + 1) → 0 < length xs
some_seat {E} table n xs is = omega (arith, ap length (is ∙ seats_more {E = E} table n), length-append (seats_from {E = E} table n) (seat_at {E = E} table n ∷ []))

-- the seat of the highest lane is taken
pub place_taken : {E : Type 0} (table : LaneTableId) (n : ℕ) (before after : List (Lane E)) (x : Lane E) → before ≡ after ++ x ∷ [] → before ≡ seats_from table (n + 1)
    → (after ≡ seats_from table n) × (x ≡ record { table = table; number = n; entries = [] })
place_taken {E} table n before after x last is = last_is after (seats_from {E = E} table n) x (seat_at {E = E} table n) (sym last ∙ is ∙ seats_more {E = E} table n)

-- what one is so, each of so many alike is
pub each_alike : {A : Type 0} (P : A → Type 0) (n : ℕ) (x : A) → P x → AllByRecursion P (replicate n x)
each_alike P zero x h = tt
each_alike P (suc n) x h = (h, each_alike P n x h)
