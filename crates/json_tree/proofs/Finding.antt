-- What is found of a name.
use Rattle.std.proofs.Common.{◌≡◌, ℕ, List, [], ◌∷◌, Bool, true, false, cond, bytes_eq, Option, Some, None, refl, sym, ap, ◌∙◌, subst}
use Rattle.std.proofs.lemmas.Slice.Eq.{bytes_eq-Decides}
use Rattle.std.proofs.lemmas.Bool.{false≢true}
use Rattle.serde_json.specs.Data.{Data, null, boolean, number, string, array, object, Members, no_members, put}
use Rattle.serde_json.specs.Find.{get, get_member, as_object}
use Rattle.serde_json.proofs.Views.{get_member-put, get_member-put_other}
use Rattle.json_tree.specs.Nodes.{name_of, puts}
use Rattle.json_tree.specs.View.{HasNoMember}

-- the value of a name in names and values by turns, where an earlier one was found
abbrev pub later : List ℕ → List Data → Option Data → Option Data
later name [] found = found
later name (k ∷ []) found = found
later name (k ∷ d ∷ rest) found = later name rest (cond (bytes_eq (name_of k) name) (Some d) found)

put_found_if : (b : Bool) (name k : List ℕ) (d : Data) (ms : Members) → bytes_eq k name ≡ b → get_member name (put k d ms) ≡ cond b (Some d) (get_member name ms)
put_found_if true name k d ms e = subst (λ n. get_member n (put k d ms) ≡ Some d) ((bytes_eq-Decides k name).0 e) (get_member-put k d ms)
put_found_if false name k d ms e = get_member-put_other name k d ms (λ same. false≢true (sym e ∙ (bytes_eq-Decides k name).1 (sym same)))

-- the last value of a name is found
pub puts_found : (name : List ℕ) (ds : List Data) (ms : Members) → get_member name (puts ds ms) ≡ later name ds (get_member name ms)
puts_found name [] ms = refl
puts_found name (k ∷ []) ms = refl
puts_found name (k ∷ d ∷ rest) ms = puts_found name rest (put (name_of k) d ms) ∙ ap (later name rest) (put_found_if (bytes_eq (name_of k) name) name (name_of k) d ms refl)

-- ---- a turn of a walk over names and values

pub later_none : (name : List ℕ) (ds : List Data) (found : Option Data) → HasNoMember ds → later name ds found ≡ found
later_none name [] found none = refl
later_none name (k ∷ []) found none = refl
later_none name (k ∷ d ∷ rest) found none = absurd none

pub later_same : (name key : List ℕ) (ds rest : List Data) (k d : Data) (found : Option Data) → ds ≡ k ∷ d ∷ rest → key ≡ name_of k → bytes_eq key name ≡ true → later name ds found ≡ later name rest (Some d)
later_same name key ds rest k d found e is same = ap (λ xs. later name xs found) e ∙ ap (λ n. later name rest (cond (bytes_eq n name) (Some d) found)) (sym is) ∙ ap (λ b. later name rest (cond b (Some d) found)) same

pub later_other : (name key : List ℕ) (ds rest : List Data) (k d : Data) (found : Option Data) → ds ≡ k ∷ d ∷ rest → key ≡ name_of k → bytes_eq key name ≡ false → later name ds found ≡ later name rest found
later_other name key ds rest k d found e is other = ap (λ xs. later name xs found) e ∙ ap (λ n. later name rest (cond (bytes_eq n name) (Some d) found)) (sym is) ∙ ap (λ b. later name rest (cond b (Some d) found)) other

pub puts_none : (ds : List Data) (found : Members) → HasNoMember ds → puts ds found ≡ found
puts_none [] found none = refl
puts_none (k ∷ []) found none = refl
puts_none (k ∷ d ∷ rest) found none = absurd none

pub puts_next : (key : List ℕ) (ds rest : List Data) (k d : Data) (found : Members) → ds ≡ k ∷ d ∷ rest → key ≡ name_of k → puts ds found ≡ puts rest (put key d found)
puts_next key ds rest k d found e is = ap (λ xs. puts xs found) e ∙ ap (λ n. puts rest (put n d found)) (sym is)

-- what is found in an object that these names and values make
pub found_in : (name : List ℕ) (d : Data) (ds : List Data) → Some (puts ds no_members) ≡ as_object d → get name d ≡ later name ds None
found_in name null ds e = absurd (let never : ⊥ = cc in never)
found_in name (boolean b) ds e = absurd (let never : ⊥ = cc in never)
found_in name (number n) ds e = absurd (let never : ⊥ = cc in never)
found_in name (string s) ds e = absurd (let never : ⊥ = cc in never)
found_in name (array is) ds e = absurd (let never : ⊥ = cc in never)
found_in name (object ms) ds e = let same : puts ds no_members ≡ ms = cc in ap (get_member name) (sym same) ∙ puts_found name ds no_members
