-- How the logic stores a tree: its nodes in a row, each behind its operands.
use Rattle.std.specs.Prelude.{◌≡◌, ℕ, ◌⊎◌, Bool, List, [], ◌∷◌, ◌++◌, Option, Some, None, refl}
use Rattle.std.proofs.Common.{inl, inr, append_assoc, ap, sym, ◌∙◌}
use Rattle.std.specs.Coded.{Coded, code_by, coded_ℕ, coded_bool, coded_list, coded_option, coded×, coded⊎}
use Rattle.bm_values.specs.declared.raw.Part.{Part}
use Rattle.bm_values.specs.declared.raw.Part.TheVariants as parts
use Rattle.bm_values.specs.declared.raw.FieldName.{FieldName}
use Rattle.bm_values.specs.declared.raw.UnaryOperator.{UnaryOperator}
use Rattle.bm_values.specs.declared.raw.BinaryOperator.{BinaryOperator}
use Rattle.bm_values.specs.contracts.raw.UnaryOperator as unary_operators
use Rattle.bm_values.specs.contracts.raw.BinaryOperator as binary_operators
use Rattle.bm_values.specs.Trees.{Tree, field, literal, truth, datum, valid, unary, binary, choice, left_out, unknown}

-- a node without its operands: of a field, a literal, a truth constant, a datum, a header, an operator, a choice, or of what is not served
abbrev pub Symbol : Type 0
Symbol = FieldName ⊎ (Option ℕ ⊎ (Bool ⊎ (ℕ ⊎ (Option (List ℕ) ⊎ (UnaryOperator ⊎ (Option BinaryOperator ⊎ Option (List ℕ)))))))

-- the names of a field are stored as a pair
abbrev pub field_code : Coded FieldName
field_code = code_by (List ℕ × List ℕ) (coded× (coded_list coded_ℕ) (coded_list coded_ℕ)) (λ f. (f.header, f.field)) (λ p. record { header = p.0; field = p.1 }) (λ _. refl)

abbrev pub symbol_code : Coded Symbol
symbol_code =
    coded⊎ field_code (coded⊎ (coded_option coded_ℕ) (coded⊎ coded_bool (coded⊎ coded_ℕ (coded⊎ (coded_option (coded_list coded_ℕ)) (coded⊎ (unary_operators.the_row).coded (coded⊎ (coded_option (binary_operators.the_row).coded)
    (coded_option (coded_list coded_ℕ))))))))

abbrev option_of : {A : Type 0} → Part A → Option A
option_of (parts.Served x) = Some x
option_of parts.LeftOut = None

abbrev part_of : {A : Type 0} → Option A → Part A
part_of (Some x) = parts.Served x
part_of None = parts.LeftOut

part_of-option_of : {A : Type 0} (p : Part A) → part_of (option_of p) ≡ p
part_of-option_of (parts.Served x) = refl
part_of-option_of parts.LeftOut = refl

-- the nodes of a tree
abbrev pub nodes : Tree → List Symbol
nodes (field f) = inl f ∷ []
nodes (literal l) = inr (inl (option_of l)) ∷ []
nodes (truth t) = inr (inr (inl t)) ∷ []
nodes (datum i) = inr (inr (inr (inl i))) ∷ []
nodes (valid h) = inr (inr (inr (inr (inl (option_of h))))) ∷ []
nodes (unary o x) = nodes x ++ (inr (inr (inr (inr (inr (inl o))))) ∷ [])
nodes (binary o x y) = nodes x ++ (nodes y ++ (inr (inr (inr (inr (inr (inr (inl (Some o))))))) ∷ []))
nodes (choice c x y) = nodes c ++ (nodes x ++ (nodes y ++ (inr (inr (inr (inr (inr (inr (inl None)))))) ∷ [])))
nodes left_out = inr (inr (inr (inr (inr (inr (inr None)))))) ∷ []
nodes (unknown n) = inr (inr (inr (inr (inr (inr (inr (Some n))))))) ∷ []

-- the trees on a stack, the last one first, with a node on them
abbrev pub put : Symbol → List Tree → List Tree
put (inl f) stack = field f ∷ stack
put (inr (inl l)) stack = literal (part_of l) ∷ stack
put (inr (inr (inl t))) stack = truth t ∷ stack
put (inr (inr (inr (inl i)))) stack = datum i ∷ stack
put (inr (inr (inr (inr (inl h))))) stack = valid (part_of h) ∷ stack
put (inr (inr (inr (inr (inr (inl o)))))) (x ∷ stack) = unary o x ∷ stack
put (inr (inr (inr (inr (inr (inr (inl (Some o)))))))) (y ∷ x ∷ stack) = binary o x y ∷ stack
put (inr (inr (inr (inr (inr (inr (inl None))))))) (y ∷ x ∷ c ∷ stack) = choice c x y ∷ stack
put (inr (inr (inr (inr (inr (inr (inr None))))))) stack = left_out ∷ stack
put (inr (inr (inr (inr (inr (inr (inr (Some n)))))))) stack = unknown n ∷ stack
put _ stack = stack

abbrev pub built : List Symbol → List Tree → List Tree
built [] stack = stack
built (s ∷ rest) stack = built rest (put s stack)

abbrev pub top : List Tree → Tree
top [] = left_out
top (t ∷ rest) = t

back : (t : Tree) (rest : List Symbol) (stack : List Tree) → built (nodes t ++ rest) stack ≡ built rest (t ∷ stack)
back (field f) rest stack = refl
back (literal l) rest stack = ap (λ p. built rest (literal p ∷ stack)) (part_of-option_of l)
back (truth t) rest stack = refl
back (datum i) rest stack = refl
back (valid h) rest stack = ap (λ p. built rest (valid p ∷ stack)) (part_of-option_of h)
back (unary o x) rest stack = simp append_assoc (back x _ stack)
back (binary o x y) rest stack = simp append_assoc (back x _ stack ∙ back y _ (x ∷ stack))
back (choice c x y) rest stack = simp append_assoc (back c _ stack ∙ (back x _ (c ∷ stack) ∙ back y _ (x ∷ c ∷ stack)))
back left_out rest stack = refl
back (unknown n) rest stack = refl

whole : (xs : List Symbol) → xs ++ [] ≡ xs
whole [] = refl
whole (x ∷ xs) = ap (λ ys. x ∷ ys) (whole xs)

pub top_back : (t : Tree) → top (built (nodes t) []) ≡ t
top_back t = ap (λ ys. top (built ys [])) (sym (whole (nodes t))) ∙ ap top (back t [] [])

abbrev pub tree_code : Coded Tree
tree_code = code_by (List Symbol) (coded_list symbol_code) nodes (λ xs. top (built xs [])) top_back
