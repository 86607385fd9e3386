-- Entries in order: no two of one sequence number, and no two of one name.
use Rattle.std.proofs.Common.{◌≡◌, ℕ, ◌<◌, inl, inr, ◌∙◌, true, false, eqb, List, [], ◌∷◌, Some, sym, ap, subst, arith}
use Rattle.std.proofs.lemmas.Bool.Decides.{nat_tests}
use Rattle.p4_types.specs.declared.table.Entry.{Entry}
use Rattle.p4_types.specs.declared.table.EntryName.{EntryName}
use Rattle.plane_spec.specs.Entries.{same_name}
use Rattle.plane_spec.proofs.Names.{name_is_same, itself}
use Rattle.match_index.specs.Order.{IsBefore, AreInOrder}
use Rattle.match_index.specs.Scan.{entry_at}
use Rattle.match_index.proofs.Among.{Among, of_each, find_only}

pub equal : (a b : ℕ) → eqb a b ≡ true → a ≡ b
equal a b h = grind (arith, nat_tests)

pub one_number : (entries : List Entry) (a b : Entry) → AreInOrder entries → Among entries a → Among entries b → a.seq ≡ b.seq → a ≡ b
one_number [] a b order in_a in_b same = absurd in_a
one_number (x ∷ xs) a b order (inl is_a) (inl is_b) same = sym is_a ∙ is_b
one_number (x ∷ xs) a b order (inl is_a) (inr in_b) same =
    let before : x.seq < b.seq = (of_each (IsBefore x) xs b order.0 in_b).0 in
    let e : x.seq ≡ a.seq = ap (λ (y : Entry). y.seq) is_a in
    absurd (omega arith)
one_number (x ∷ xs) a b order (inr in_a) (inl is_b) same =
    let before : x.seq < a.seq = (of_each (IsBefore x) xs a order.0 in_a).0 in
    let e : x.seq ≡ b.seq = ap (λ (y : Entry). y.seq) is_b in
    absurd (omega arith)
one_number (x ∷ xs) a b order (inr in_a) (inr in_b) same = one_number xs a b order.1 in_a in_b same

-- the entry of a number is found by it
pub at_number : (entries : List Entry) (entry : Entry) (seq : ℕ) → AreInOrder entries → Among entries entry → entry.seq ≡ seq → entry_at entries seq ≡ Some entry
at_number entries entry seq order among same =
    find_only (λ (x : Entry). eqb x.seq seq) entries entry among (rw same (itself seq))
    (λ y in_y h. one_number entries y entry order in_y among (equal y.seq seq h ∙ sym same))

apart : (x y : Entry) (name : EntryName) → same_name x.name y.name ≡ false → name ≡ x.name → name ≡ y.name → ⊥
apart x y name differ is_x is_y =
    let same : same_name x.name y.name ≡ true = subst (λ (n : EntryName). same_name x.name n ≡ true) (sym is_x ∙ is_y) (name_is_same x.name) in
    cc

pub one_name : (entries : List Entry) (name : EntryName) (a b : Entry) → AreInOrder entries → Among entries a → Among entries b → name ≡ a.name → name ≡ b.name → a ≡ b
one_name [] name a b order in_a in_b na nb = absurd in_a
one_name (x ∷ xs) name a b order (inl is_a) (inl is_b) na nb = sym is_a ∙ is_b
one_name (x ∷ xs) name a b order (inl is_a) (inr in_b) na nb =
    absurd (apart x b name (of_each (IsBefore x) xs b order.0 in_b).1 (na ∙ ap (λ (y : Entry). y.name) (sym is_a)) nb)
one_name (x ∷ xs) name a b order (inr in_a) (inl is_b) na nb =
    absurd (apart x a name (of_each (IsBefore x) xs a order.0 in_a).1 (nb ∙ ap (λ (y : Entry). y.name) (sym is_b)) na)
one_name (x ∷ xs) name a b order (inr in_a) (inr in_b) na nb = one_name xs name a b order.1 in_a in_b na nb
