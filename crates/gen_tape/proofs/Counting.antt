-- Numbers one after another, and what is made of each.
use Rattle.std.proofs.Common.{◌≡◌, ℕ, zero, suc, ◌+◌, ◌-◌, ◌*◌, ◌%◌, ◌<◌, ◌≤◌, List, [], ◌∷◌, ◌++◌, length, map, refl, sym, ap, ◌∙◌, append_assoc, add-one, arith, lit≤}
use Rattle.std.proofs.Math.Nat.{mul-le-mul, mod-lt}
use Rattle.std.proofs.lemmas.List.{map-append}
use Rattle.run_spec.specs.Text.{count_up}

counted_more : (from n : ℕ) → count_up from (suc n) ≡ count_up from n ++ (from + n) ∷ []
counted_more from zero = ap (λ (k : ℕ). k ∷ []) (omega arith)
counted_more from (suc n) = ap (λ (l : List ℕ). from ∷ l) (counted_more (suc from) n ∙ ap (λ (k : ℕ). count_up (suc from) n ++ k ∷ []) (omega arith))

one_more : {A : Type 0} (f : ℕ → A) (n : ℕ) → map f (count_up 0 (n + 1)) ≡ map f (count_up 0 n) ++ f n ∷ []
one_more f n =
    let up : count_up 0 (n + 1) ≡ count_up 0 n ++ n ∷ [] = ap (count_up 0) (add-one n) ∙ counted_more 0 n ∙ ap (λ (k : ℕ). count_up 0 n ++ k ∷ []) (omega arith) in
    ap (map f) up ∙ map-append f (count_up 0 n) (n ∷ [])

-- what is made of one number more is added
pub made_more : {A : Type 0} (f : ℕ → A) (n : ℕ) (x : A) (before old new : List A) → old ≡ before ++ map f (count_up 0 n) → x ≡ f n → new ≡ old ++ x ∷ [] → new ≡ before ++ map f (count_up 0 (n + 1))
made_more f n x before old new so_far is added =
    added
    ∙ ap (λ l. l ++ x ∷ []) so_far
    ∙ append_assoc before (map f (count_up 0 n)) (x ∷ [])
    ∙ ap (λ y. before ++ (map f (count_up 0 n) ++ y ∷ [])) is
    ∙ ap (λ l. before ++ l) (sym (one_more f n))

pub count_length : (from n : ℕ) → length (count_up from n) ≡ n
count_length from zero = refl
count_length from (suc n) = ap suc (count_length (suc from) n)

up_to : (p q most : ℕ) → p ≤ q → q ≤ most → p ≤ most
up_to p q most le also = omega arith

pub product_small : (j n : ℕ) → j < 25600 → n ≤ 64 → j * (100 * n - 1) ≤ 163834000
product_small j n packet high =
    let le : j ≤ 25599 = omega arith in
    let most : 100 * n - 1 ≤ 6399 = omega arith in
    up_to (j * (100 * n - 1)) (25599 * 6399) 163834000 (mul-le-mul le most) (lit≤ tt)

rest_small : (r n : ℕ) → r < 200 * n → n ≤ 64 → r < 12800
rest_small r n lt high = omega arith

pub target_small : (a n : ℕ) → 1 ≤ n → n ≤ 64 → a % (200 * n) < 12800
target_small a n low high =
    let some : 0 < 200 * n = omega arith in
    rest_small (a % (200 * n)) n (mod-lt a some) high
