-- A table that is found has the id that was asked for.
use Rattle.std.proofs.Common.{◌≡◌, ℕ, ◌==◌, Bool, true, false, cond, List, [], ◌∷◌, Option, Some, None, find, refl, ap, ◌∙◌, sym}
use Rattle.std.proofs.lemmas.Bool.{eqb-true}
use Rattle.p4_types.specs.declared.info.Table.{Table}

in_head : (b : Bool) (id : ℕ) (first t : Table) (rest : Option Table) → (b ≡ true → first.preamble.id ≡ id) → (rest ≡ Some t → t.preamble.id ≡ id)
    → cond b (Some first) rest ≡ Some t → t.preamble.id ≡ id
in_head true id first t rest head tail is = ap (λ o. id_in o) (sym is) ∙ head refl
  where
    id_in : Option Table → ℕ
    id_in None = id
    id_in (Some x) = x.preamble.id
in_head false id first t rest head tail is = tail is

pub found_id : (id : ℕ) (tables : List Table) (t : Table) → find (λ x. x.preamble.id == id) tables ≡ Some t → t.preamble.id ≡ id
found_id id [] t is = absurd (cc)
found_id id (first ∷ tables) t is = in_head (first.preamble.id == id) id first t (find (λ x. x.preamble.id == id) tables) (λ e. eqb-true _ _ e) (λ e. found_id id tables t e) is
