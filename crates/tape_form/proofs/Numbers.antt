-- Numbers of a range, read digit by digit as the code does.
use Rattle.std.proofs.Common.{◌≡◌, ℕ, zero, suc, ◌+◌, ◌-◌, ◌*◌, ◌^◌, ◌<◌, ◌≤◌, min, Bool, true, false, cond, ltb, ◌||◌, List, [], ◌∷◌, length, get_or, take, drop, Result, Ok, Err, refl, sym, ap, subst, ◌∙◌, ◌⊎◌, arith, inl, inr, take_all, mul-le-mul}
use Rattle.std.proofs.lemmas.Bool.{lt-ltb, le-ltb, or_left, or_right, or_from}
use Rattle.list_types.specs.Results.{◌>>=◌}
use Rattle.run_spec.specs.TapeReading.{number_at}

-- a bad byte of a step is one of the whole
pub bad_then : {A B : Type 0} (left : ℕ) (r : Result A ℕ) (f : A → Result B ℕ) (whole : Result B ℕ) → whole ≡ (r >>= f) → r ≡ Err left → whole ≡ Err left
bad_then left r f whole is h = is ∙ ap (λ s. s >>= f) h

-- the first of some bytes
pub split_first : (bytes : List ℕ) → 1 ≤ length bytes → bytes ≡ get_or bytes 0 0 ∷ take (length bytes - 1) (drop 1 bytes)
split_first [] le = absurd (omega arith)
split_first (b ∷ rest) le = ap (λ (w : List ℕ). b ∷ w) (sym (take_all (suc (length rest) - 1) rest (omega arith)))

-- the weight of the first of at most four digits
pub unit_small : (k : ℕ) → k ≤ 3 → (1 ≤ 256 ^ k) × (256 ^ k ≤ 16777216)
unit_small zero le = (omega arith, omega arith)
unit_small (suc zero) le = (omega arith, omega arith)
unit_small (suc (suc zero)) le = (omega arith, omega arith)
unit_small (suc (suc (suc zero))) le = (omega arith, omega arith)
unit_small (suc (suc (suc (suc k)))) le = absurd (omega arith)

pub number_none : (count low high : ℕ) (bytes : List ℕ) → count ≡ 0 → number_at count low high bytes ≡ Ok (0, bytes)
unfolding number_at
number_none zero low high bytes e = refl
number_none (suc k) low high bytes e = absurd (omega arith)

pub number_missing : (count low high : ℕ) (bytes : List ℕ) → 0 < count → length bytes < 1 → number_at count low high bytes ≡ Err 0
unfolding number_at
number_missing zero low high bytes pos short = absurd (omega arith)
number_missing (suc k) low high [] pos short = refl
number_missing (suc k) low high (b ∷ rest) pos short = absurd (omega arith)

-- reading goes by the test of the first digit
by_digit : (k low high b : ℕ) (rest : List ℕ) (t : Bool) → (ltb high (b * 256 ^ k) || ltb (b * 256 ^ k + (256 ^ k - 1)) low) ≡ t
    → number_at (suc k) low high (b ∷ rest) ≡ cond t (Err (suc (length rest))) (number_at k (low - b * 256 ^ k) (min (high - b * 256 ^ k) (256 ^ k - 1)) rest >>= λ x. Ok (b * 256 ^ k + x.0, x.1))
unfolding number_at
by_digit k low high b rest t e = ap (λ (u : Bool). cond u (Err (suc (length rest))) (number_at k (low - b * 256 ^ k) (min (high - b * 256 ^ k) (256 ^ k - 1)) rest >>= λ x. Ok (b * 256 ^ k + x.0, x.1))) e

out_of_range : (k low high first unit b : ℕ) → first ≡ b → unit ≡ 256 ^ k → (high < first * unit) ⊎ (first * unit + (unit - 1) < low)
    → (ltb high (b * 256 ^ k) || ltb (b * 256 ^ k + (256 ^ k - 1)) low) ≡ true
out_of_range k low high first unit b f u (inl over) =
    let at : high < b * 256 ^ k = subst (λ (n : ℕ). high < b * n) u (subst (λ (n : ℕ). high < n * unit) f over) in
    or_left _ _ (lt-ltb _ _ at)
out_of_range k low high first unit b f u (inr under) =
    let at : b * 256 ^ k + (256 ^ k - 1) < low = subst (λ (n : ℕ). b * n + (n - 1) < low) u (subst (λ (n : ℕ). n * unit + (unit - 1) < low) f under) in
    or_right _ _ (lt-ltb _ _ at)

in_range : (k low high first unit b : ℕ) → first ≡ b → unit ≡ 256 ^ k → first * unit ≤ high → low ≤ first * unit + (unit - 1)
    → (ltb high (b * 256 ^ k) || ltb (b * 256 ^ k + (256 ^ k - 1)) low) ≡ false
in_range k low high first unit b f u lower upper =
    let a : b * 256 ^ k ≤ high = subst (λ (n : ℕ). b * n ≤ high) u (subst (λ (n : ℕ). n * unit ≤ high) f lower) in
    let c : low ≤ b * 256 ^ k + (256 ^ k - 1) = subst (λ (n : ℕ). low ≤ b * n + (n - 1)) u (subst (λ (n : ℕ). low ≤ n * unit + (unit - 1)) f upper) in
    or_from _ _ (le-ltb _ _ a) (le-ltb _ _ c)

-- what a number is with a digit in front
abbrev pub with_start : ℕ → Result (ℕ × List ℕ) ℕ → Result (ℕ × List ℕ) ℕ
with_start start read = read >>= λ x. Ok (start + x.0, x.1)

same_step : (k m low high b first v unit : ℕ) (rest w : List ℕ) → k ≡ m → b ≡ first → v ≡ unit → rest ≡ w
    → with_start (b * v) (number_at k (low - b * v) (min (high - b * v) (v - 1)) rest) ≡ with_start (first * unit) (number_at m (low - first * unit) (min (high - first * unit) (unit - 1)) w)
same_step k m low high b first v unit rest w e f g h = rw (e, f, g, h) refl

pub start_fits : (first unit : ℕ) → first < 256 → 1 ≤ unit → unit ≤ 16777216 → (first * unit < 4294967296) × (first * unit + (unit - 1) < 4294967296)
start_fits first unit lt pos le =
    let most : first * unit ≤ 255 * 16777216 = mul-le-mul {n₁ = first} {m₁ = unit} {n₂ = 255} {m₂ = 16777216} (omega arith) le in
    (omega arith, omega arith)

pub number_bad : (count low high first unit : ℕ) (bytes : List ℕ) → 0 < count → 1 ≤ length bytes → first ≡ get_or bytes 0 0 → unit ≡ 256 ^ (count - 1)
    → (high < first * unit) ⊎ (first * unit + (unit - 1) < low) → number_at count low high bytes ≡ Err (length bytes)
number_bad zero low high first unit bytes pos long f u out = absurd (omega arith)
number_bad (suc k) low high first unit [] pos long f u out = absurd (omega arith)
number_bad (suc k) low high first unit (b ∷ rest) pos long f u out =
    let weight : unit ≡ 256 ^ k = u ∙ ap (λ (n : ℕ). 256 ^ n) (omega arith) in
    by_digit k low high b rest true (out_of_range k low high first unit b f weight out)

pub number_goes_on : (count low high first unit : ℕ) (bytes : List ℕ) → 0 < count → 1 ≤ length bytes → first ≡ get_or bytes 0 0 → unit ≡ 256 ^ (count - 1)
    → first * unit ≤ high → low ≤ first * unit + (unit - 1)
    → number_at count low high bytes ≡ with_start (first * unit) (number_at (count - 1) (low - first * unit) (min (high - first * unit) (unit - 1)) (take (length bytes - 1) (drop 1 bytes)))
number_goes_on zero low high first unit bytes pos long f u lower upper = absurd (omega arith)
number_goes_on (suc k) low high first unit [] pos long f u lower upper = absurd (omega arith)
number_goes_on (suc k) low high first unit (b ∷ rest) pos long f u lower upper =
    let less : suc k - 1 ≡ k = omega arith in
    let weight : unit ≡ 256 ^ k = u ∙ ap (λ (n : ℕ). 256 ^ n) less in
    let whole : rest ≡ take (suc (length rest) - 1) rest = sym (take_all (suc (length rest) - 1) rest (omega arith)) in
    by_digit k low high b rest false (in_range k low high first unit b f weight lower upper)
    ∙ same_step k (suc k - 1) low high b first (256 ^ k) unit rest (take (suc (length rest) - 1) rest) (sym less) (sym f) (sym weight) whole
