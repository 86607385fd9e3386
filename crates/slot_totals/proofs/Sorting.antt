-- A stable sort gives what placing each line behind those of no higher number gives.
use Rattle.std.proofs.Common.{◌≡◌, ℕ, suc, ◌<◌, ◌≤◌, ◌&&◌, Bool, true, false, cond, not, eqb, ltb, List, [], ◌∷◌, ◌++◌, fold, refl, sym, ◌∙◌, ap, arith, append-nil, append_assoc, ◌⊎◌, inl, inr}
use Rattle.std.specs.List.{AllByRecursion, filter}
use Rattle.std.specs.List.Sorted.{IsNonDecreasingBy, IsSortedByKey, IsStableByKey, ties}
use Rattle.std.specs.Ordering.{is_lt, nat_cmp}
use Rattle.std.proofs.lemmas.Bool.{cases_lt}
use Rattle.std.proofs.lemmas.Bool.Decides.{nat_tests}
use Rattle.std.proofs.lemmas.List.Elements.{recursion_from_All, filter_agree}
use Rattle.std.proofs.lemmas.List.Sorted.{IsNonDecreasingBy-from_sort}
use Rattle.p4_types.specs.declared.journal.CountLine.{CountLine}
use Rattle.switch_spec.specs.Counts.{count_placed}

-- no line has a lower number than one before it
abbrev Rise : List CountLine → Type 0
Rise [] = Unit {0}
Rise (line ∷ lines) = AllByRecursion (λ other. line.seq ≤ other.seq) lines × Rise lines

rise : (lines : List CountLine) → IsNonDecreasingBy (λ (line : CountLine). line.seq) lines → Rise lines
rise [] h = tt
rise (line ∷ lines) h = (
  recursion_from_All (λ (other : CountLine). line.seq ≤ other.seq) lines (λ k d in_range. h 0 (suc k) d (omega arith) (omega arith)),
  rise lines (λ i j d le in_range. h (suc i) (suc j) d (omega arith) (omega arith)),
)

-- the lines of a number
abbrev of : ℕ → List CountLine → List CountLine
of k lines = filter (λ line. eqb k line.seq) lines

-- ---- Lines that rise are told by those of each number

first_of : (k : ℕ) (line : CountLine) (lines : List CountLine) → k ≡ line.seq → of k (line ∷ lines) ≡ line ∷ of k lines
first_of k line lines is =
    let same : eqb k line.seq ≡ true = grind (arith, nat_tests) in
    ap (λ b. cond b (line ∷ of k lines) (of k lines)) same

none_of : (k : ℕ) (lines : List CountLine) → AllByRecursion (λ line. k < line.seq) lines → of k lines ≡ []
none_of k [] h = refl
none_of k (line ∷ lines) h =
    let less : k < line.seq = h.0 in
    let other : eqb k line.seq ≡ false = grind (arith, nat_tests) in
    ap (λ b. cond b (line ∷ of k lines) (of k lines)) other ∙ none_of k lines h.1

above : (k : ℕ) (line : CountLine) (lines : List CountLine) → k < line.seq → AllByRecursion (λ other. line.seq ≤ other.seq) lines → AllByRecursion (λ other. k < other.seq) lines
above k line [] less h = tt
above k line (other ∷ lines) less h = (omega (arith, h.0), above k line lines less h.1)

-- where the first of some has a number, others that rise do not begin with a higher one
begins_within : (a b : CountLine) (at bs : List CountLine) → Rise (b ∷ bs) → of a.seq (a ∷ at) ≡ of a.seq (b ∷ bs) → a.seq < b.seq → ⊥
begins_within a b at bs up same less =
    let here = first_of a.seq a at refl in
    let there = none_of a.seq (b ∷ bs) (less, above a.seq b bs less up.0) in
    cc

one_number : (a b : CountLine) (at bs : List CountLine) → Rise (a ∷ at) → Rise (b ∷ bs) → ((line : CountLine) → of line.seq (a ∷ at) ≡ of line.seq (b ∷ bs)) → (a.seq < b.seq) ⊎ (b.seq ≤ a.seq) → (b.seq < a.seq) ⊎ (a.seq ≤ b.seq) → a.seq ≡ b.seq
one_number a b at bs up other same (inl less) c = absurd (begins_within a b at bs other (same a) less)
one_number a b at bs up other same (inr le) (inl less) = absurd (begins_within b a bs at up (sym (same b)) less)
one_number a b at bs up other same (inr le) (inr ge) = omega arith

rest_same : (b : Bool) (x y : CountLine) (at bs : List CountLine) → cond b (x ∷ at) at ≡ cond b (y ∷ bs) bs → at ≡ bs
rest_same true x y at bs same = cc
rest_same false x y at bs same = same

told : (at bs : List CountLine) → Rise at → Rise bs → ((line : CountLine) → of line.seq at ≡ of line.seq bs) → at ≡ bs
told [] [] up other same = refl
told [] (b ∷ bs) up other same = let here = first_of b.seq b bs refl in let all = same b in absurd (cc)
told (a ∷ at) [] up other same = let here = first_of a.seq a at refl in let all = same a in absurd (cc)
told (a ∷ at) (b ∷ bs) up other same =
    let number : a.seq ≡ b.seq = one_number a b at bs up other same (cases_lt a.seq b.seq) (cases_lt b.seq a.seq) in
    let here = first_of a.seq a at refl in
    let there = first_of a.seq b bs number in
    let all = same a in
    let first : a ≡ b = cc in
    let rest : at ≡ bs = told at bs up.1 other.1 (λ line.
    rest_same (eqb line.seq a.seq) a b (of line.seq at) (of line.seq bs)
    (same line ∙ ap (λ n. cond (eqb line.seq n) (b ∷ of line.seq bs) (of line.seq bs)) (sym number))) in
    cc

-- ---- Placing keeps lines rising, and behind others of their number

all_either : (P : CountLine → Type 0) (line other : CountLine) (lines : List CountLine) → P line → AllByRecursion P (other ∷ lines) → AllByRecursion P (count_placed line lines) → (b : Bool)
    → AllByRecursion P (cond b (line ∷ other ∷ lines) (other ∷ count_placed line lines))
all_either P line other lines own h later true = (own, h)
all_either P line other lines own h later false = (h.0, later)

all_placed : (P : CountLine → Type 0) (line : CountLine) (lines : List CountLine) → P line → AllByRecursion P lines → AllByRecursion P (count_placed line lines)
all_placed P line [] own h = (own, tt)
all_placed P line (other ∷ lines) own h = all_either P line other lines own h (all_placed P line lines own h.1) (ltb line.seq other.seq)

no_lower : (line other : CountLine) (lines : List CountLine) → line.seq ≤ other.seq → AllByRecursion (λ o. other.seq ≤ o.seq) lines → AllByRecursion (λ o. line.seq ≤ o.seq) lines
no_lower line other [] le h = tt
no_lower line other (next ∷ lines) le h = (omega (arith, h.0), no_lower line other lines le h.1)

rise_either : (line other : CountLine) (lines : List CountLine) → Rise (other ∷ lines) → Rise (count_placed line lines) → (b : Bool) → ltb line.seq other.seq ≡ b
    → Rise (cond b (line ∷ other ∷ lines) (other ∷ count_placed line lines))
rise_either line other lines up later true is =
    let le : line.seq ≤ other.seq = grind (arith, nat_tests) in ((le, no_lower line other lines le up.0), up)
rise_either line other lines up later false is =
    let le : other.seq ≤ line.seq = grind (arith, nat_tests) in (all_placed (λ o. other.seq ≤ o.seq) line lines le up.0, later)

placed_rise : (line : CountLine) (lines : List CountLine) → Rise lines → Rise (count_placed line lines)
placed_rise line [] up = (tt, tt)
placed_rise line (other ∷ lines) up = rise_either line other lines up (placed_rise line lines up.1) (ltb line.seq other.seq) refl

-- a line before others of higher numbers, or of another number
in_front : (k : ℕ) (line other : CountLine) (lines : List CountLine) → Rise (other ∷ lines) → line.seq < other.seq → (b : Bool) → eqb k line.seq ≡ b
    → cond b (line ∷ of k (other ∷ lines)) (of k (other ∷ lines)) ≡ of k (other ∷ lines) ++ cond b (line ∷ []) []
in_front k line other lines up less true is =
    let low : k < other.seq = grind (arith, nat_tests) in
    let none : of k (other ∷ lines) ≡ [] = none_of k (other ∷ lines) (low, above k other lines low up.0) in
    ap (λ f. line ∷ f) none ∙ ap (λ f. f ++ line ∷ []) (sym none)
in_front k line other lines up less false is = sym (append-nil (of k (other ∷ lines)))

moved : (b : Bool) (other : CountLine) (front back : List CountLine) → cond b (other ∷ (front ++ back)) (front ++ back) ≡ cond b (other ∷ front) front ++ back
moved true other front back = refl
moved false other front back = refl

of_either : (k : ℕ) (line other : CountLine) (lines : List CountLine) → Rise (other ∷ lines) → of k (count_placed line lines) ≡ of k lines ++ of k (line ∷ []) → (b : Bool) → ltb line.seq other.seq ≡ b
    → of k (cond b (line ∷ other ∷ lines) (other ∷ count_placed line lines)) ≡ of k (other ∷ lines) ++ of k (line ∷ [])
of_either k line other lines up later true is =
    let less : line.seq < other.seq = grind (arith, nat_tests) in in_front k line other lines up less (eqb k line.seq) refl
of_either k line other lines up later false is =
    ap (λ f. cond (eqb k other.seq) (other ∷ f) f) later ∙ moved (eqb k other.seq) other (of k lines) (of k (line ∷ []))

of_placed : (k : ℕ) (line : CountLine) (lines : List CountLine) → Rise lines → of k (count_placed line lines) ≡ of k lines ++ of k (line ∷ [])
of_placed k line [] up = refl
of_placed k line (other ∷ lines) up = of_either k line other lines up (of_placed k line lines up.1) (ltb line.seq other.seq) refl

-- all lines placed, one after the other
abbrev all_in : List CountLine → List CountLine → List CountLine
all_in placed lines = fold (λ others line. count_placed line others) placed lines

all_rise : (lines placed : List CountLine) → Rise placed → Rise (all_in placed lines)
all_rise [] placed up = up
all_rise (line ∷ lines) placed up = all_rise lines (count_placed line placed) (placed_rise line placed up)

of_all : (k : ℕ) (lines placed : List CountLine) → Rise placed → of k (all_in placed lines) ≡ of k placed ++ of k lines
of_all k [] placed up = sym (append-nil (of k placed))
of_all k (line ∷ lines) placed up =
    of_all k lines (count_placed line placed) (placed_rise line placed up)
    ∙ ap (λ f. f ++ of k lines) (of_placed k line placed up)
    ∙ append_assoc (of k placed) (of k (line ∷ [])) (of k lines)
    ∙ ap (λ f. of k placed ++ f) (sym (moved (eqb k line.seq) line [] (of k lines)))

-- ---- A sort

numbers_tie : (a b : ℕ) → (not (is_lt (nat_cmp a b)) && not (is_lt (nat_cmp b a))) ≡ eqb a b
numbers_tie a b = grind (arith, nat_tests)

pub sorted_is_placed : (lines sorted : List CountLine) → IsSortedByKey (λ (line : CountLine). line.seq) nat_cmp sorted → IsStableByKey (λ (line : CountLine). line.seq) nat_cmp lines sorted
    → sorted ≡ fold (λ others line. count_placed line others) [] lines
sorted_is_placed lines sorted up stable =
    let tie : CountLine → CountLine → Bool = ties (λ (x y : CountLine). is_lt (nat_cmp x.seq y.seq)) in
    let same : (x : CountLine) (of_whom : List CountLine) → filter (tie x) of_whom ≡ of x.seq of_whom = λ x of_whom.
    filter_agree (tie x) (λ line. eqb x.seq line.seq) (λ line. numbers_tie x.seq line.seq) of_whom in
    told sorted (all_in [] lines) (rise sorted (IsNonDecreasingBy-from_sort (λ (line : CountLine). line.seq) sorted up)) (all_rise lines [] tt)
    (λ line. sym (same line sorted) ∙ stable line ∙ same line lines ∙ sym (of_all line.seq lines [] tt))
