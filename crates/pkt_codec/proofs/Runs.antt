-- Fields that stand one behind the other.
use Rattle.std.proofs.Common.{◌≡◌, ℕ, zero, suc, ◌+◌, ◌-◌, ◌*◌, ◌/◌, ◌%◌, ◌^◌, ◌<◌, ◌≤◌, List, [], ◌∷◌, ◌++◌, length, get_or, set, take, drop, sum, refl, sym, ap, ◌∙◌, arith, append_assoc, drop-drop}
use Rattle.std.proofs.lemmas.List.{drop_more, get_or-take, get_or-drop, length-drop, set-append_right, length-take-le, length-append}
use Rattle.std.proofs.lemmas.List.Sums.{sum_by-cons, sum_by_more_le}
use Rattle.std.proofs.lemmas.Nat.{shr_split}
use Rattle.std.proofs.Math.Nat.{mod-eq_of_lt}
use Rattle.std.proofs.Math.Seq.{set-append_seam, take-length}
use Rattle.std.specs.List.{splice, slice_range}
use Rattle.std.proofs.lemmas.Grind.{flat_map-append}
use Rattle.canon_bytes.specs.Bits.{byte_bits, bits, num}
use Rattle.pkt_bits.specs.Field.{field, number_bits}
use Rattle.pkt_bits.proofs.Low.{low-cat, length-low}
use Rattle.pkt_bits.proofs.Pieces.{field-lt, field_fits, length-bits}
use Rattle.program_spec.specs.Numbers.{runs}
use Rattle.program_spec.specs.Deparsing.{laid}

-- one item more of a run that is replaced
splice_more : (xs ys : List ℕ) (i n v : ℕ) → length ys ≡ n → i + n < length xs → set (splice xs i (i + n) ys) (i + n) v ≡ splice xs i (i + (n + 1)) (ys ++ v ∷ [])
splice_more xs ys i n v long lt =
    let before : length (take i xs) ≡ i = length-take-le i xs (omega arith) in
    let at : i + n - i ≡ length ys = omega arith in
    let next : i + n + 1 ≡ i + (n + 1) = omega arith in
    ap (λ zs. set (take i xs ++ (ys ++ zs)) (i + n) v) (drop_more xs (i + n) 0 lt)
    ∙ set-append_right (take i xs) (ys ++ (get_or xs (i + n) 0 ∷ drop (i + n + 1) xs)) i (i + n) v before (omega arith)
    ∙ ap (λ k. take i xs ++ set (ys ++ (get_or xs (i + n) 0 ∷ drop (i + n + 1) xs)) k v) at
    ∙ ap (λ zs. take i xs ++ zs) (set-append_seam ys (get_or xs (i + n) 0) (drop (i + n + 1) xs) v)
    ∙ ap (λ zs. take i xs ++ zs) (sym (append_assoc ys (v ∷ []) (drop (i + n + 1) xs)))
    ∙ ap (λ k. take i xs ++ (ys ++ v ∷ [] ++ drop k xs)) next

pub length-runs : (widths bs : List ℕ) → length (runs widths bs) ≡ length widths
length-runs [] bs = refl
length-runs (w ∷ widths) bs = ap suc (length-runs widths (drop w bs))

sum-cons : (w : ℕ) (widths : List ℕ) → sum (w ∷ widths) ≡ w + sum widths
sum-cons w widths = sum_by-cons (λ x. x) w widths

runs_suc : (widths bs : List ℕ) (k : ℕ) → k < length widths → runs (take (suc k) widths) bs ≡ runs (take k widths) bs ++ num (take (get_or widths k 0) (drop (sum (take k widths)) bs)) ∷ []
runs_suc [] bs k lt = absurd (omega arith)
runs_suc (w ∷ widths) bs zero lt = refl
runs_suc (w ∷ widths) bs (suc k) lt =
    let there : drop (sum (take k widths)) (drop w bs) ≡ drop (sum (w ∷ take k widths)) bs =
    drop-drop (sum (take k widths)) w bs ∙ ap (λ n. drop n bs) (sym (sum-cons w (take k widths))) in
    ap (λ zs. num (take w bs) ∷ zs)
    (runs_suc widths (drop w bs) k (omega arith) ∙ ap (λ zs. runs (take k widths) (drop w bs) ++ num (take (get_or widths k 0) zs) ∷ []) there)

-- one field more of a header is read
pub field_read : (xs : List ℕ) (first k : ℕ) (widths bytes : List ℕ) (bit width value : ℕ) → k < length widths → first + length widths ≤ length xs
    → width ≡ get_or widths k 0 → bit ≡ sum (take k widths) → value ≡ field bytes bit width
    → set (splice xs first (first + k) (runs (take k widths) (bits bytes))) (first + k) (value % 2 ^ width) ≡ splice xs first (first + (k + 1)) (runs (take (k + 1) widths) (bits bytes))
unfolding field
field_read xs first k widths bytes bit width value lt within width_is bit_is value_is =
    let long : length (runs (take k widths) (bits bytes)) ≡ k = length-runs (take k widths) (bits bytes) ∙ length-take-le k widths (omega arith) in
    let whole : value % 2 ^ width ≡ value = mod-eq_of_lt (rw value_is (field-lt bytes bit width)) in
    let next : suc k ≡ k + 1 = omega arith in
    let one : value ≡ num (take (get_or widths k 0) (drop (sum (take k widths)) (bits bytes))) =
    value_is ∙ ap (λ w. num (take w (drop bit (bits bytes)))) width_is ∙ ap (λ b. num (take (get_or widths k 0) (drop b (bits bytes)))) bit_is in
    splice_more xs (runs (take k widths) (bits bytes)) first k (value % 2 ^ width) long (omega arith)
    ∙ ap (λ v. splice xs first (first + (k + 1)) (runs (take k widths) (bits bytes) ++ v ∷ [])) (whole ∙ one)
    ∙ ap (splice xs first (first + (k + 1))) (sym (runs_suc widths (bits bytes) k lt) ∙ ap (λ n. runs (take n widths) (bits bytes)) next)

pub laid_suc : (widths numbers : List ℕ) (k : ℕ) → k < length widths → k < length numbers
    → laid (take (suc k) widths) (take (suc k) numbers) ≡ laid (take k widths) (take k numbers) ++ number_bits (get_or widths k 0) (get_or numbers k 0)
laid_suc [] numbers k lt less = absurd (omega arith)
laid_suc (w ∷ widths) [] k lt less = absurd (omega arith)
laid_suc (w ∷ widths) (n ∷ numbers) zero lt less = append-nil (number_bits w n)
  where
    append-nil : (xs : List ℕ) → xs ++ [] ≡ xs
    append-nil [] = refl
    append-nil (x ∷ xs) = ap (λ ys. x ∷ ys) (append-nil xs)
laid_suc (w ∷ widths) (n ∷ numbers) (suc k) lt less =
    ap (λ zs. number_bits w n ++ zs) (laid_suc widths numbers k (omega arith) (omega arith))
    ∙ sym (append_assoc (number_bits w n) (laid (take k widths) (take k numbers)) (number_bits (get_or widths k 0) (get_or numbers k 0)))

-- only a number's lowest bits count
pub bits_of_cut : (width number : ℕ) → number_bits width (number % 2 ^ width) ≡ number_bits width number
bits_of_cut width number =
    sym (low-cat width width (number / 2 ^ width) (number % 2 ^ width) (omega arith)) ∙ ap (number_bits width) (shr_split number width)

-- what is read of a field needs no cut
pub uncut : (bytes : List ℕ) (bit width value : ℕ) → width ≤ 128 → value ≡ field bytes bit width → value % 2 ^ 128 ≡ value % 2 ^ width
uncut bytes bit width value le is = mod-eq_of_lt (rw is (field_fits bytes bit width le)) ∙ sym (mod-eq_of_lt (rw is (field-lt bytes bit width)))

-- one number more of a header is laid
pub laid_more : (widths numbers bs : List ℕ) (k width number : ℕ) → k < length widths → k < length numbers → width ≡ get_or widths k 0 → number ≡ get_or numbers k 0
    → bs ≡ laid (take k widths) (take k numbers) → bs ++ number_bits width number ≡ laid (take (k + 1) widths) (take (k + 1) numbers)
laid_more widths numbers bs k width number lt less width_is number_is so_far =
    let next : suc k ≡ k + 1 = omega arith in
    ap (λ xs. xs ++ number_bits width number) so_far
    ∙ ap (λ xs. laid (take k widths) (take k numbers) ++ xs) (ap (λ w. number_bits w number) width_is ∙ ap (number_bits (get_or widths k 0)) number_is)
    ∙ sym (laid_suc widths numbers k lt less)
    ∙ ap (λ n. laid (take n widths) (take n numbers)) next

-- the numbers of a header's fields
pub number_at : (xs : List ℕ) (first count k : ℕ) → k < count → get_or (slice_range xs first (first + count)) k 0 ≡ get_or xs (first + k) 0
number_at xs first count k lt = get_or-take (first + count - first) (drop first xs) k 0 (omega arith) ∙ get_or-drop first xs k 0

pub numbers_long : (xs : List ℕ) (first count : ℕ) → first + count ≤ length xs → length (slice_range xs first (first + count)) ≡ count
numbers_long xs first count le = length-take-le (first + count - first) (drop first xs) (omega (arith, length-drop first xs)) ∙ omega arith

-- a header is written as soon as all its fields are
pub whole_laid : (widths numbers bytes : List ℕ) (k bit : ℕ) → k ≡ length widths → length numbers ≡ length widths → bit ≡ sum (take k widths) → sum widths ≡ 8 * length bytes
    → take bit (bits bytes) ≡ laid (take k widths) (take k numbers) → bits bytes ≡ laid widths numbers
whole_laid widths numbers bytes k bit k_is long bit_is full so_far =
    let all : take k widths ≡ widths = ap (λ n. take n widths) k_is ∙ take-length widths in
    let each : take k numbers ≡ numbers = ap (λ n. take n numbers) (k_is ∙ sym long) ∙ take-length numbers in
    let end : bit ≡ length (bits bytes) = bit_is ∙ ap sum all ∙ full ∙ omega (arith, length-bits bytes) in
    sym (ap (λ n. take n (bits bytes)) end ∙ take-length (bits bytes)) ∙ so_far ∙ ap (λ ws. laid ws (take k numbers)) all ∙ ap (laid widths) each

-- the bits up to a field's end are within those of its header
pub within : (items widths : List ℕ) (k bit whole : ℕ) → items ≡ widths → k < length items → bit ≡ sum (take k widths) → whole ≡ sum widths → bit + get_or items k 0 ≤ whole
within items widths k bit whole same lt bit_is whole_is =
    omega (arith, ap (λ xs. get_or xs k 0) same, ap (λ xs. length xs) same, sum_by_more_le (λ x. x) widths k 0 (omega (arith, ap (λ xs. length xs) same)))

-- the bits of bytes behind others
pub bits-append : (xs ys : List ℕ) → bits (xs ++ ys) ≡ bits xs ++ bits ys
unfolding bits
bits-append xs ys = flat_map-append byte_bits xs ys

pub length-laid : (widths numbers : List ℕ) → length numbers ≡ length widths → length (laid widths numbers) ≡ sum widths
length-laid [] numbers long = refl
length-laid (w ∷ widths) [] long = absurd (omega arith)
length-laid (w ∷ widths) (n ∷ numbers) long =
    omega (arith, length-append (number_bits w n) (laid widths numbers), length-low w n, length-laid widths numbers (omega arith), sum-cons w widths)
