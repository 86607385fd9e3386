-- How the logic stores an expression: its nodes in a row, each behind its operands.
use Rattle.std.specs.Prelude.{◌≡◌, ℕ, ◌⊎◌, Bool, false, List, [], ◌∷◌, ◌++◌, slice_index_or, refl}
use Rattle.std.proofs.Common.{inl, inr, append_assoc, ap, sym, ◌∙◌}
use Rattle.std.specs.Coded.{Coded, code_by, coded_ℕ, coded_bool, coded_list, coded×, coded⊎}
use Rattle.bm_expr.specs.declared.store.FieldPlace.{FieldPlace}
use Rattle.bm_expr.specs.contracts.store.FieldPlace as field_places
use Rattle.bm_expr.specs.Trees.{Number, Truth, Field, Literal, Datum, Add, Subtract, Multiply, ShiftLeft, ShiftRight, BitAnd, BitOr, BitXor, BitNot, Choose, OfTruth, Constant, Equal, NotEqual, Less, LessOrEqual, Greater, GreaterOrEqual, And, Or, Not, Select, IsValid, OfNumber}

-- a node without its operands: a field, a constant, or the number of an operator with a literal or an index
abbrev pub Symbol : Type 0
Symbol = FieldPlace ⊎ (Bool ⊎ (ℕ × ℕ))

abbrev pub symbol_code : Coded Symbol
symbol_code = coded⊎ (field_places.the_row).coded (coded⊎ coded_bool (coded× coded_ℕ coded_ℕ))

abbrev pub operator : ℕ → ℕ → Symbol
operator o n = inr (inr (o, n))

-- the nodes of an expression
abbrev mutual
  pub number_nodes : Number → List Symbol
  number_nodes (Field place) = inl place ∷ []
  number_nodes (Literal n) = operator 0 n ∷ []
  number_nodes (Datum i) = operator 1 i ∷ []
  number_nodes (Add x y) = number_nodes x ++ (number_nodes y ++ (operator 2 0 ∷ []))
  number_nodes (Subtract x y) = number_nodes x ++ (number_nodes y ++ (operator 3 0 ∷ []))
  number_nodes (Multiply x y) = number_nodes x ++ (number_nodes y ++ (operator 4 0 ∷ []))
  number_nodes (ShiftLeft x y) = number_nodes x ++ (number_nodes y ++ (operator 5 0 ∷ []))
  number_nodes (ShiftRight x y) = number_nodes x ++ (number_nodes y ++ (operator 6 0 ∷ []))
  number_nodes (BitAnd x y) = number_nodes x ++ (number_nodes y ++ (operator 7 0 ∷ []))
  number_nodes (BitOr x y) = number_nodes x ++ (number_nodes y ++ (operator 8 0 ∷ []))
  number_nodes (BitXor x y) = number_nodes x ++ (number_nodes y ++ (operator 9 0 ∷ []))
  number_nodes (BitNot x) = number_nodes x ++ (operator 10 0 ∷ [])
  number_nodes (Choose c x y) = truth_nodes c ++ (number_nodes x ++ (number_nodes y ++ (operator 11 0 ∷ [])))
  number_nodes (OfTruth t) = truth_nodes t ++ (operator 12 0 ∷ [])

  pub truth_nodes : Truth → List Symbol
  truth_nodes (Constant b) = inr (inl b) ∷ []
  truth_nodes (Equal x y) = number_nodes x ++ (number_nodes y ++ (operator 13 0 ∷ []))
  truth_nodes (NotEqual x y) = number_nodes x ++ (number_nodes y ++ (operator 14 0 ∷ []))
  truth_nodes (Less x y) = number_nodes x ++ (number_nodes y ++ (operator 15 0 ∷ []))
  truth_nodes (LessOrEqual x y) = number_nodes x ++ (number_nodes y ++ (operator 16 0 ∷ []))
  truth_nodes (Greater x y) = number_nodes x ++ (number_nodes y ++ (operator 17 0 ∷ []))
  truth_nodes (GreaterOrEqual x y) = number_nodes x ++ (number_nodes y ++ (operator 18 0 ∷ []))
  truth_nodes (And s t) = truth_nodes s ++ (truth_nodes t ++ (operator 19 0 ∷ []))
  truth_nodes (Or s t) = truth_nodes s ++ (truth_nodes t ++ (operator 20 0 ∷ []))
  truth_nodes (Not t) = truth_nodes t ++ (operator 21 0 ∷ [])
  truth_nodes (Select c s t) = truth_nodes c ++ (truth_nodes s ++ (truth_nodes t ++ (operator 22 0 ∷ [])))
  truth_nodes (IsValid header) = operator 23 header ∷ []
  truth_nodes (OfNumber x) = number_nodes x ++ (operator 24 0 ∷ [])

-- the expressions on two stacks, the last ones first
abbrev pub Stacks : Type 0
Stacks = List Number × List Truth

-- Each takes its operands from the stacks and puts what they make on one of them: an operation on two numbers, a comparison, an
-- operation on two truth values, and the others.
abbrev on_numbers : (Number → Number → Number) → ℕ → Stacks → Stacks
on_numbers f n (y ∷ x ∷ xs, ts) = (f x y ∷ xs, ts)
on_numbers f n stacks = stacks

abbrev on_compared : (Number → Number → Truth) → ℕ → Stacks → Stacks
on_compared f n (y ∷ x ∷ xs, ts) = (xs, f x y ∷ ts)
on_compared f n stacks = stacks

abbrev on_truths : (Truth → Truth → Truth) → ℕ → Stacks → Stacks
on_truths f n (xs, t ∷ s ∷ ts) = (xs, f s t ∷ ts)
on_truths f n stacks = stacks

abbrev literal : ℕ → Stacks → Stacks
literal n (xs, ts) = (Literal n ∷ xs, ts)

abbrev datum : ℕ → Stacks → Stacks
datum n (xs, ts) = (Datum n ∷ xs, ts)

abbrev bit_not : ℕ → Stacks → Stacks
bit_not n (x ∷ xs, ts) = (BitNot x ∷ xs, ts)
bit_not n stacks = stacks

abbrev choose : ℕ → Stacks → Stacks
choose n (y ∷ x ∷ xs, c ∷ ts) = (Choose c x y ∷ xs, ts)
choose n stacks = stacks

abbrev of_truth : ℕ → Stacks → Stacks
of_truth n (xs, t ∷ ts) = (OfTruth t ∷ xs, ts)
of_truth n stacks = stacks

abbrev not : ℕ → Stacks → Stacks
not n (xs, t ∷ ts) = (xs, Not t ∷ ts)
not n stacks = stacks

abbrev select : ℕ → Stacks → Stacks
select n (xs, t ∷ s ∷ c ∷ ts) = (xs, Select c s t ∷ ts)
select n stacks = stacks

abbrev is_valid : ℕ → Stacks → Stacks
is_valid n (xs, ts) = (xs, IsValid n ∷ ts)

abbrev of_number : ℕ → Stacks → Stacks
of_number n (x ∷ xs, ts) = (xs, OfNumber x ∷ ts)
of_number n stacks = stacks

-- what each operator does to the stacks, by its number
abbrev operators : List (ℕ → Stacks → Stacks)
operators =
    literal ∷ datum ∷ on_numbers Add ∷ on_numbers Subtract ∷ on_numbers Multiply ∷ on_numbers ShiftLeft ∷ on_numbers ShiftRight ∷ on_numbers BitAnd ∷ on_numbers BitOr ∷ on_numbers BitXor
    ∷ bit_not ∷ choose ∷ of_truth ∷ on_compared Equal ∷ on_compared NotEqual ∷ on_compared Less ∷ on_compared LessOrEqual ∷ on_compared Greater ∷ on_compared GreaterOrEqual
    ∷ on_truths And ∷ on_truths Or ∷ not ∷ select ∷ is_valid ∷ of_number ∷ []

-- the stacks with a node on them
abbrev pub put : Symbol → Stacks → Stacks
put (inl place) stacks = (Field place ∷ stacks.0, stacks.1)
put (inr (inl b)) stacks = (stacks.0, Constant b ∷ stacks.1)
put (inr (inr o)) stacks = slice_index_or operators o.0 (λ n others. others) o.1 stacks

abbrev pub built : List Symbol → Stacks → Stacks
built [] stacks = stacks
built (s ∷ rest) stacks = built rest (put s stacks)

abbrev pub top_number : List Number → Number
top_number [] = Literal 0
top_number (x ∷ xs) = x

abbrev pub top_truth : List Truth → Truth
top_truth [] = Constant false
top_truth (t ∷ ts) = t

mutual
  number_back : (x : Number) (rest : List Symbol) (xs : List Number) (ts : List Truth) → built (number_nodes x ++ rest) (xs, ts) ≡ built rest (x ∷ xs, ts)
  number_back (Field place) rest xs ts = refl
  number_back (Literal n) rest xs ts = refl
  number_back (Datum i) rest xs ts = refl
  number_back (Add x y) rest xs ts = simp append_assoc (number_back x _ xs ts ∙ number_back y _ (x ∷ xs) ts)
  number_back (Subtract x y) rest xs ts = simp append_assoc (number_back x _ xs ts ∙ number_back y _ (x ∷ xs) ts)
  number_back (Multiply x y) rest xs ts = simp append_assoc (number_back x _ xs ts ∙ number_back y _ (x ∷ xs) ts)
  number_back (ShiftLeft x y) rest xs ts = simp append_assoc (number_back x _ xs ts ∙ number_back y _ (x ∷ xs) ts)
  number_back (ShiftRight x y) rest xs ts = simp append_assoc (number_back x _ xs ts ∙ number_back y _ (x ∷ xs) ts)
  number_back (BitAnd x y) rest xs ts = simp append_assoc (number_back x _ xs ts ∙ number_back y _ (x ∷ xs) ts)
  number_back (BitOr x y) rest xs ts = simp append_assoc (number_back x _ xs ts ∙ number_back y _ (x ∷ xs) ts)
  number_back (BitXor x y) rest xs ts = simp append_assoc (number_back x _ xs ts ∙ number_back y _ (x ∷ xs) ts)
  number_back (BitNot x) rest xs ts = simp append_assoc (number_back x _ xs ts)
  number_back (Choose c x y) rest xs ts = simp append_assoc (truth_back c _ xs ts ∙ (number_back x _ xs (c ∷ ts) ∙ number_back y _ (x ∷ xs) (c ∷ ts)))
  number_back (OfTruth t) rest xs ts = simp append_assoc (truth_back t _ xs ts)

  truth_back : (t : Truth) (rest : List Symbol) (xs : List Number) (ts : List Truth) → built (truth_nodes t ++ rest) (xs, ts) ≡ built rest (xs, t ∷ ts)
  truth_back (Constant b) rest xs ts = refl
  truth_back (Equal x y) rest xs ts = simp append_assoc (number_back x _ xs ts ∙ number_back y _ (x ∷ xs) ts)
  truth_back (NotEqual x y) rest xs ts = simp append_assoc (number_back x _ xs ts ∙ number_back y _ (x ∷ xs) ts)
  truth_back (Less x y) rest xs ts = simp append_assoc (number_back x _ xs ts ∙ number_back y _ (x ∷ xs) ts)
  truth_back (LessOrEqual x y) rest xs ts = simp append_assoc (number_back x _ xs ts ∙ number_back y _ (x ∷ xs) ts)
  truth_back (Greater x y) rest xs ts = simp append_assoc (number_back x _ xs ts ∙ number_back y _ (x ∷ xs) ts)
  truth_back (GreaterOrEqual x y) rest xs ts = simp append_assoc (number_back x _ xs ts ∙ number_back y _ (x ∷ xs) ts)
  truth_back (And s t) rest xs ts = simp append_assoc (truth_back s _ xs ts ∙ truth_back t _ xs (s ∷ ts))
  truth_back (Or s t) rest xs ts = simp append_assoc (truth_back s _ xs ts ∙ truth_back t _ xs (s ∷ ts))
  truth_back (Not t) rest xs ts = simp append_assoc (truth_back t _ xs ts)
  truth_back (Select c s t) rest xs ts = simp append_assoc (truth_back c _ xs ts ∙ (truth_back s _ xs (c ∷ ts) ∙ truth_back t _ xs (s ∷ c ∷ ts)))
  truth_back (IsValid header) rest xs ts = refl
  truth_back (OfNumber x) rest xs ts = simp append_assoc (number_back x _ xs ts)

whole : (xs : List Symbol) → xs ++ [] ≡ xs
whole [] = refl
whole (x ∷ xs) = ap (λ ys. x ∷ ys) (whole xs)

pub top_number_back : (x : Number) → top_number (built (number_nodes x) ([], [])).0 ≡ x
top_number_back x = ap (λ ys. top_number (built ys ([], [])).0) (sym (whole (number_nodes x))) ∙ ap (λ s. top_number s.0) (number_back x [] [] [])

pub top_truth_back : (t : Truth) → top_truth (built (truth_nodes t) ([], [])).1 ≡ t
top_truth_back t = ap (λ ys. top_truth (built ys ([], [])).1) (sym (whole (truth_nodes t))) ∙ ap (λ s. top_truth s.1) (truth_back t [] [] [])

abbrev pub number_code : Coded Number
number_code = code_by (List Symbol) (coded_list symbol_code) number_nodes (λ ys. top_number (built ys ([], [])).0) top_number_back

abbrev pub truth_code : Coded Truth
truth_code = code_by (List Symbol) (coded_list symbol_code) truth_nodes (λ ys. top_truth (built ys ([], [])).1) top_truth_back
