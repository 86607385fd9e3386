-- Numbers as words.
use Rattle.std.proofs.Common.{◌≡◌, ℕ, ◌<◌, ◌^◌, Bool, true, false, cond, ◌&&◌, nat_lt, List, Option, Some, None, refl, ap, ◌∙◌, arith}
use Rattle.std.specs.Fmt.{decimal}
use Rattle.std.specs.Str.{bytes_eq}
use Rattle.std.specs.Str.Parse.{digits_value}
use Rattle.std.proofs.lemmas.Bool.Decides.{nat_tests}
use Rattle.std.proofs.lemmas.Fmt.{decimal_is_IsNumeral}
use Rattle.std.proofs.lemmas.Slice.Eq.{bytes_eq-Decides}
use Rattle.command_words.specs.Words.{number_of}

abbrev number_by : List ℕ → ℕ → Option ℕ
number_by word n = cond (nat_lt n (10 ^ 19) && bytes_eq word (decimal n)) (Some n) None

is_below : (n : ℕ) → n < 10 ^ 19 → nat_lt n (10 ^ 19) ≡ true
is_below n h = grind (arith, nat_tests)

both_true : (b c : Bool) (n : ℕ) → b ≡ true → c ≡ true → cond (b && c) (Some n) None ≡ Some n
both_true b c n e f = rw (e, f) refl

-- what is written of a number is that number
pub number_is : (word : List ℕ) (n : ℕ) → word ≡ decimal n → n < 10 ^ 19 → number_of word ≡ Some n
number_is word n e h =
    let wide : n < 2 ^ 64 = omega (arith, h) in
    let value : digits_value 10 word ≡ n = ap (digits_value 10) e ∙ (decimal_is_IsNumeral n wide).1 in
    ap (number_by word) value ∙ both_true (nat_lt n (10 ^ 19)) (bytes_eq word (decimal n)) n (is_below n h) ((bytes_eq-Decides word (decimal n)).1 e)

never_both : (b c : Bool) (n : ℕ) → (b ≡ true → c ≡ true → ⊥) → cond (b && c) (Some n) None ≡ None
never_both true true n h = absurd (h refl refl)
never_both true false n h = refl
never_both false c n h = refl

lower : (n : ℕ) → nat_lt n (10 ^ 19) ≡ true → n < 10 ^ 19
lower n h = grind (arith, nat_tests)

-- another word is none
pub number_not : (word : List ℕ) → ((n : ℕ) → word ≡ decimal n → n < 10 ^ 19 → ⊥) → number_of word ≡ None
number_not word h =
    let n = digits_value 10 word in
    never_both (nat_lt n (10 ^ 19)) (bytes_eq word (decimal n)) n (λ b c. h n ((bytes_eq-Decides word (decimal n)).0 c) (lower n b))

pub number_written : (word : List ℕ) (n : ℕ) → bytes_eq word (decimal n) ≡ true → n < 10 ^ 19 → number_of word ≡ Some n
number_written word n e h = number_is word n ((bytes_eq-Decides word (decimal n)).0 e) h
