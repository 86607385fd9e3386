-- Ones' complement sums of bits.
use Rattle.std.proofs.Common.{◌≡◌, ℕ, zero, suc, ◌+◌, ◌-◌, ◌*◌, ◌/◌, ◌%◌, ◌^◌, ◌<◌, ◌≤◌, List, [], ◌∷◌, ◌++◌, length, get_or, take, drop, replicate, fold, sum, refl, sym, ap, subst, ◌∙◌, arith, lit<}
use Rattle.std.proofs.lemmas.Grind.{flat_map-append}
use Rattle.std.proofs.lemmas.Int.Digits.{number_lt}
use Rattle.std.proofs.lemmas.List.{length-append, length-replicate, length-take, length-take-le, length-drop, take-append-drop, take_more}
use Rattle.std.proofs.lemmas.List.Sums.{sum_by-cons}
use Rattle.std.proofs.lemmas.Nat.{pow-add, pow_pos, shr-shr}
use Rattle.std.proofs.Math.Nat.{mul-lt-mul_of_pos_right, pow-le-pow_right}
use Rattle.std.specs.Int.Digits.{number_from_digits_after, AllBelowBase}
use Rattle.std.specs.List.{flat_map}
use Rattle.canon_bytes.specs.Bits.{num}
use Rattle.pkt_bits.specs.Field.{number_bits}
use Rattle.pkt_bits.proofs.Low.{take-low, drop-low, number-low, length-low, below-low, below-append, below-take, below-drop, number_behind}
use Rattle.bm_expr.specs.Store.{Contents}
use Rattle.bm_pipeline.specs.declared.checksums.CalculationInput.{CalculationInput}
use Rattle.bm_pipeline.specs.declared.checksums.CalculationInput.TheVariants as inputs
use Rattle.program_spec.specs.Checksums.{ones_sum, words_of, csum16, input_bits}
use Rattle.program_spec.specs.Numbers.{words, padded}
use Rattle.pkt_codec.specs.Sums.{weighed, IsOnesSum}

-- ---- bits by their places

-- only the place within a word counts
weighed-mod : (xs : List ℕ) (p q : ℕ) → p % 16 ≡ q % 16 → weighed p xs ≡ weighed q xs
weighed-mod [] p q same = refl
weighed-mod (x ∷ xs) p q same =
    ap (λ k. x * 2 ^ (15 - k) + weighed (p + 1) xs) same ∙ ap (λ n. x * 2 ^ (15 - q % 16) + n) (weighed-mod xs (p + 1) (q + 1) (omega arith))

pub weighed-append : (xs ys : List ℕ) (p : ℕ) → weighed p (xs ++ ys) ≡ weighed p xs + weighed (p + length xs) ys
weighed-append [] ys p = let here : p + 0 ≡ p = omega arith in omega (arith, ap (λ q. weighed q ys) here)
weighed-append (x ∷ xs) ys p =
    let next : p + 1 + length xs ≡ p + suc (length xs) = omega arith in
    omega (arith, weighed-append xs ys (p + 1), ap (λ q. weighed q ys) next)

weighed-zeros : (n p : ℕ) → weighed p (replicate n 0) ≡ 0
weighed-zeros zero p = refl
weighed-zeros (suc n) p = omega (arith, weighed-zeros n (p + 1))

-- bits within one word
weighed-word : (xs : List ℕ) (p r : ℕ) → p % 16 + length xs + r ≡ 16 → weighed p xs ≡ number_from_digits_after 2 0 xs * 2 ^ r
weighed-word [] p r whole = omega arith
weighed-word (x ∷ []) p r whole =
    let there : 15 - p % 16 ≡ r = omega arith in
    ap (λ k. x * 2 ^ k + 0) there ∙ omega arith
weighed-word (x ∷ (y ∷ ys)) p r whole =
    let xs = y ∷ ys in
    let there : 15 - p % 16 ≡ length xs + r = omega arith in
    let alone : 0 * 2 + x ≡ x = omega arith in
    let number : number_from_digits_after 2 0 (x ∷ xs) ≡ x * 2 ^ length xs + number_from_digits_after 2 0 xs =
    number_behind (0 * 2 + x) xs ∙ ap (λ v. v * 2 ^ length xs + number_from_digits_after 2 0 xs) alone in
    ap (λ k. x * 2 ^ k + weighed (p + 1) xs) there
    ∙ ap (λ n. x * 2 ^ (length xs + r) + n) (weighed-word (y ∷ ys) (p + 1) r (omega arith))
    ∙ ap (λ n. x * n + number_from_digits_after 2 0 xs * 2 ^ r) (pow-add 2 (length xs) r)
    ∙ spread x (2 ^ length xs) (2 ^ r) (number_from_digits_after 2 0 xs)
    ∙ ap (λ n. n * 2 ^ r) (sym number)
  where
    spread : (a b c d : ℕ) → a * (b * c) + d * c ≡ (a * b + d) * c
    spread a b c d = omega arith

-- the lowest bits of a number within one word
weighed_part : (p r size number : ℕ) → p % 16 + size + r ≡ 16 → weighed p (number_bits size number) ≡ number % 2 ^ size * 2 ^ r
weighed_part p r size number whole =
    let long = length-low size number in
    weighed-word (number_bits size number) p r (omega (arith, long)) ∙ ap (λ n. n * 2 ^ r) (number-low 0 size number ∙ omega arith)

-- the bits of a number in two parts
pub bits_split : (a b number : ℕ) → number_bits (a + b) number ≡ number_bits a (number / 2 ^ b) ++ number_bits b number
bits_split a b number =
    let xs = number_bits (a + b) number in
    sym (take-append-drop a xs) ∙ ap (λ ys. ys ++ drop a xs) (take-low a b (a + b) number refl) ∙ ap (λ ys. number_bits a (number / 2 ^ b) ++ ys) (drop-low a b (a + b) number refl)

-- ---- ones' complement sums

-- a word more
pub ones_more : (s t w : ℕ) → IsOnesSum s t → w < 2 ^ 16 → IsOnesSum (ones_sum s w) (t + w)
ones_more s t w is lt =
    let below : s < 2 ^ 16 = is.below in
    let times = is.carried.0 in
    let carried : t ≡ s + 65535 * times = is.carried.1 in
    record {
      below = omega arith;
      carried = (times + (s + w) / 2 ^ 16, omega arith);
      zero_alone = λ none. let none_of_s : s ≡ 0 = omega arith in omega (arith, is.zero_alone none_of_s);
    }

-- there is one such word
ones_same : (one other t : ℕ) → IsOnesSum one t → IsOnesSum other t → one ≡ other
ones_same zero zero t first second = refl
ones_same zero (suc other) t first second =
    let none : t ≡ 0 = first.zero_alone refl in
    let is : t ≡ suc other + 65535 * second.carried.0 = second.carried.1 in
    absurd (omega arith)
ones_same (suc one) zero t first second =
    let none : t ≡ 0 = second.zero_alone refl in
    let is : t ≡ suc one + 65535 * first.carried.0 = first.carried.1 in
    absurd (omega arith)
ones_same (suc one) (suc other) t first second =
    let first_is : t ≡ suc one + 65535 * first.carried.0 = first.carried.1 in
    let second_is : t ≡ suc other + 65535 * second.carried.0 = second.carried.1 in
    let first_below : suc one < 2 ^ 16 = first.below in
    let second_below : suc other < 2 ^ 16 = second.below in
    omega arith

-- the sum of words
fold_words : (ws : List ℕ) (s t : ℕ) → IsOnesSum s t → ((i : ℕ) → get_or ws i 0 < 2 ^ 16) → IsOnesSum (fold ones_sum s ws) (t + sum ws)
fold_words [] s t is below = let P : ℕ → Type 0 = λ n. IsOnesSum s n in let same : t ≡ t + 0 = omega arith in subst P same is
fold_words (w ∷ ws) s t is below =
    let P : ℕ → Type 0 = λ n. IsOnesSum (fold ones_sum (ones_sum s w) ws) n in
    let same : t + w + sum ws ≡ t + sum (w ∷ ws) = omega (arith, sum_by-cons (λ x. x) w ws) in
    subst P same (fold_words ws (ones_sum s w) (t + w) (ones_more s t w is (below 0)) (λ i. below (suc i)))

-- the words of bits
word_below : (n : ℕ) (xs : List ℕ) → AllBelowBase 2 xs → (i : ℕ) → get_or (words 16 n xs) i 0 < 2 ^ 16
unfolding num
word_below zero xs bits i = lit< tt
word_below (suc n) xs bits zero = first
  where
    first : num (take 16 xs) < 2 ^ 16
    first =
        omega (
          arith,
          number_lt 2 (take 16 xs) (below-take 16 xs bits),
          pow-le-pow_right {n = 2} (lit< tt) {i = length (take 16 xs)} {j = 16} (omega (arith, length-take 16 xs)),
        )
word_below (suc n) xs bits (suc i) = word_below n (drop 16 xs) (below-drop 16 xs bits) i

words_weighed : (n : ℕ) (xs : List ℕ) → length xs ≡ n * 16 → weighed 0 xs ≡ sum (words 16 n xs)
unfolding num
words_weighed zero [] long = refl
words_weighed zero (x ∷ xs) long = absurd (omega arith)
words_weighed (suc n) xs long =
    let front = take 16 xs in
    let back = drop 16 xs in
    let whole : length front ≡ 16 = length-take-le 16 xs (omega arith) in
    let first : weighed 0 front ≡ num front = weighed-word front 0 0 (omega arith) ∙ omega arith in
    let behind : weighed (0 + length front) back ≡ weighed 0 back = weighed-mod back (0 + length front) 0 (omega arith) in
    ap (weighed 0) (sym (take-append-drop 16 xs)) ∙ weighed-append front back 0
    ∙ omega (arith, first, behind, words_weighed n back (omega (arith, length-drop 16 xs)), sum_by-cons (λ x. x) (num front) (words 16 n back))

-- the word that a list of bits comes to
pub csum_is : (xs : List ℕ) (word : ℕ) → AllBelowBase 2 xs → IsOnesSum word (weighed 0 xs) → csum16 xs ≡ 2 ^ 16 - 1 - word
unfolding csum16
csum_is xs word bits is =
    let fill = (16 - length xs % 16) % 16 in
    let long : length (padded 16 xs) ≡ length xs + fill = length-append xs (replicate fill 0) ∙ ap (λ n. length xs + n) (length-replicate fill 0) in
    let count = length (padded 16 xs) / 16 in
    let whole : length (padded 16 xs) ≡ count * 16 = omega (arith, long) in
    let same : weighed 0 (padded 16 xs) ≡ weighed 0 xs = weighed-append xs (replicate fill 0) 0 ∙ omega (arith, weighed-zeros fill (0 + length xs)) in
    let all : AllBelowBase 2 (padded 16 xs) = below-append xs (replicate fill 0) bits (zeros_below fill) in
    let start : IsOnesSum 0 0 = record { below = lit< tt; carried = (0, refl); zero_alone = λ none. refl } in
    let folded = fold_words (words_of xs) 0 0 start (word_below count (padded 16 xs) all) in
    let total : 0 + sum (words_of xs) ≡ weighed 0 xs = omega (arith, words_weighed count (padded 16 xs) whole, same) in
    let P : ℕ → Type 0 = λ n. IsOnesSum (fold ones_sum 0 (words_of xs)) n in
    ap (λ n. 2 ^ 16 - 1 - n) (ones_same (fold ones_sum 0 (words_of xs)) word (weighed 0 xs) (subst P total folded) is)
  where
    zeros_below : (n : ℕ) → AllBelowBase 2 (replicate n 0)
    zeros_below zero = tt
    zeros_below (suc n) = (lit< tt, zeros_below n)

-- ---- what the code adds

-- a part of a number more
pub part_added : (offset width left size at number part sum before total : ℕ) → size ≤ left → left ≤ width → at ≡ (offset + (width - left)) % 16 → at + size ≤ 16
    → part ≡ number / 2 ^ (left - size) % 2 ^ size
    → (IsOnesSum sum before → IsOnesSum total (before + weighed offset (number_bits (width - left) (number / 2 ^ left))))
    → part * 2 ^ (16 - at - size) < 2 ^ 16
    → IsOnesSum sum before
    → IsOnesSum (ones_sum total (part * 2 ^ (16 - at - size))) (before + weighed offset (number_bits (width - (left - size)) (number / 2 ^ (left - size))))
part_added offset width left size at number part sum before total le few at_is within part_is so_far word is =
    let a = width - left in
    let n = number / 2 ^ (left - size) in
    let far : a + size ≡ width - (left - size) = omega arith in
    let joined : left - size + size ≡ left = omega arith in
    let high : n / 2 ^ size ≡ number / 2 ^ left = shr-shr number (left - size) size ∙ ap (λ k. number / 2 ^ k) joined in
    let xs = number_bits a (number / 2 ^ left) in
    let ys = number_bits size n in
    let bits : number_bits (width - (left - size)) n ≡ xs ++ ys = ap (λ k. number_bits k n) (sym far) ∙ bits_split a size n ∙ ap (λ h. number_bits a h ++ ys) high in
    let place : (offset + length xs) % 16 + size + (16 - at - size) ≡ 16 = omega (arith, length-low a (number / 2 ^ left)) in
    let last : weighed (offset + length xs) ys ≡ part * 2 ^ (16 - at - size) = weighed_part (offset + length xs) (16 - at - size) size n place ∙ ap (λ k. k * 2 ^ (16 - at - size)) (sym part_is) in
    let total_is : before + weighed offset xs + part * 2 ^ (16 - at - size) ≡ before + weighed offset (number_bits (width - (left - size)) n) =
    omega (arith, ap (weighed offset) bits, weighed-append xs ys offset, last) in
    let P : ℕ → Type 0 = λ k. IsOnesSum (ones_sum total (part * 2 ^ (16 - at - size))) k in
    subst P total_is (ones_more total (before + weighed offset xs) (part * 2 ^ (16 - at - size)) (so_far is) word)

-- a part within a word is a word
pub part_word : (part size at : ℕ) → part < 2 ^ size → at + size ≤ 16 → part * 2 ^ (16 - at - size) < 2 ^ 16
part_word part size at lt within =
    let whole : size + (16 - at - size) ≡ 16 - at = omega arith in
    let r = 16 - at - size in
    let fits : part * 2 ^ r < 2 ^ size * 2 ^ r = mul-lt-mul_of_pos_right lt (pow_pos r) in
    omega (arith, fits, pow-add 2 size r, ap (λ k. 2 ^ k) whole, pow-le-pow_right {n = 2} (lit< tt) {i = 16 - at} {j = 16} (omega arith))

-- the bits of an input more
pub input_added : (store : Contents) (input : List CalculationInput) (k : ℕ) (d : CalculationInput) (offset width number total : ℕ) → k < length input
    → offset ≡ length (flat_map (input_bits store) (take k input)) % 16
    → input_bits store (get_or input k d) ≡ number_bits width number
    → IsOnesSum total (weighed 0 (flat_map (input_bits store) (take k input)) + weighed offset (number_bits width number))
    → IsOnesSum total (weighed 0 (flat_map (input_bits store) (take (k + 1) input))) × ((offset + width) % 16 ≡ length (flat_map (input_bits store) (take (k + 1) input)) % 16)
input_added store input k d offset width number total lt offset_is bits added =
    let so_far = flat_map (input_bits store) (take k input) in
    let ys = number_bits width number in
    let more : flat_map (input_bits store) (take (k + 1) input) ≡ so_far ++ ys =
    ap (flat_map (input_bits store)) (take_more input k d lt) ∙ flat_map-append (input_bits store) (take k input) (get_or input k d ∷ [])
    ∙ ap (λ zs. so_far ++ zs) (append-nil (input_bits store (get_or input k d)) ∙ bits) in
    let place : weighed (0 + length so_far) ys ≡ weighed offset ys = weighed-mod ys (0 + length so_far) offset (omega arith) in
    let total_is : weighed 0 so_far + weighed offset ys ≡ weighed 0 (flat_map (input_bits store) (take (k + 1) input)) =
    omega (arith, ap (weighed 0) more, weighed-append so_far ys 0, place) in
    let P : ℕ → Type 0 = λ n. IsOnesSum total n in
    (subst P total_is added, omega (arith, ap length more, length-append so_far ys, length-low width number))
  where
    append-nil : (xs : List ℕ) → xs ++ [] ≡ xs
    append-nil [] = refl
    append-nil (x ∷ xs) = ap (λ ys. x ∷ ys) (append-nil xs)

-- the inputs' bits are bits
pub inputs_below : (store : Contents) (input : List CalculationInput) → AllBelowBase 2 (flat_map (input_bits store) input)
inputs_below store [] = tt
inputs_below store (inputs.Field field ∷ others) = below-append (input_bits store (inputs.Field field)) (flat_map (input_bits store) others) (below-low _ _) (inputs_below store others)
inputs_below store (inputs.Literal value width ∷ others) =
    below-append (input_bits store (inputs.Literal value width)) (flat_map (input_bits store) others) (below-low _ _) (inputs_below store others)
