-- Finding the places of members.
use Rattle.std.proofs.Common.{◌≡◌, ◌≤◌, min, length, All, List, [], ◌∷◌, ◌++◌, ℕ, Ordering, Less, Equal, Greater, Bor, refl, sym, ap, ◌∙◌, subst, arith, ⊎_elim}
use Rattle.std.proofs.lemmas.Bool.{cases_lt}
use Rattle.std.proofs.lemmas.List.Elements.{recursion_from_All, All-from_recursion, All-push, All-weaker}
use Rattle.std.proofs.lemmas.List.Sorted.{IsPermutation-map, IsPermutation-to_front}
use Rattle.std.specs.List.{AllByRecursion}
use Rattle.std.specs.Ordering.{match_ordering, nat_cmp}
use Rattle.std.specs.Cmp.Lexicographic.{slice_cmp}
use Rattle.serde_json.specs.Data.{Data, no_members, put, member}
use Rattle.json_tree.specs.declared.node.Node.{Node}
use Rattle.json_tree.specs.Nodes.{name_of, puts}
use Rattle.json_tree.specs.View.{view, items_in}
use Rattle.json_tree.proofs.Finding.{puts_next}
use Rattle.json_tree.proofs.Suffixes.{last_of_last}
use Rattle.json_tree.specs.Behind.{last_nodes, AreBehind}
use Rattle.bm_records.specs.Firsts.{Numbered, numbered, with_first, firsts}
use Rattle.bm_records.specs.Members.{members_at, IsPlace}
use Rattle.bm_records.proofs.FirstOfName.{firsts-IsPermutation}

-- names that were found, each beside its number
abbrev pub Found : Type 0
Found = List (Bor (List ℕ) × ℕ)

-- ---- What holds of each number, holds of each that stays

least_has : (P : ℕ → Type 0) (a b : ℕ) → P a → P b → P (min a b)
least_has P a b p q = ⊎_elim (λ below. let same : a ≡ min a b = omega (arith, below) in subst P same p) (λ above. let same : b ≡ min a b = omega (arith, above) in subst P same q) (cases_lt a b)

module _ (P : ℕ → Type 0) where
  abbrev Have : List Numbered → Type 0
  Have ks = AllByRecursion (λ (k : Numbered). P k.1) ks

  have_at : (p q : Numbered) (ks : List Numbered) → P p.1 → Have (q ∷ ks) → Have (with_first p ks) → (o : Ordering) → Have (match_ordering o (p ∷ q ∷ ks) ((q.0, min p.1 q.1) ∷ ks) (q ∷ with_first p ks))
  have_at p q ks own have more Less = (own, have)
  have_at p q ks own have more Equal = (least_has P p.1 q.1 own have.0, have.1)
  have_at p q ks own have more Greater = (have.0, more)

  have_with : (p : Numbered) (ks : List Numbered) → P p.1 → Have ks → Have (with_first p ks)
  have_with p [] own have = (own, tt)
  have_with p (q ∷ ks) own have = have_at p q ks own have (have_with p ks own have.1) (slice_cmp nat_cmp p.0 q.0)

  have_firsts : (ps : Found) → AllByRecursion (λ p. P p.1) ps → Have (firsts (numbered ps))
  have_firsts [] have = tt
  have_firsts (p ∷ ps) have = have_with (p.0.now, p.1) (firsts (numbered ps)) have.0 (have_firsts ps have.1)

  borrowed_have : (ps : Found) → Have (numbered ps) → AllByRecursion (λ p. P p.1) ps
  borrowed_have [] have = tt
  borrowed_have (p ∷ ps) have = (have.0, borrowed_have ps have.1)

  pub firsts_have : (ps qs : Found) → numbered qs ≡ firsts (numbered ps) → All (λ p. P p.1) ps → All (λ p. P p.1) qs
  firsts_have ps qs are have = All-from_recursion _ qs (borrowed_have qs (subst Have (sym are) (have_firsts ps (recursion_from_All _ ps have))))

-- ---- A member that is found later is put to the members, and its number is the lowest

put_at : (nodes : List ℕ × List Node) (p q : Numbered) (ks : List Numbered) → p.1 ≤ q.1 → members_at nodes (with_first p ks) ≡ put p.0 (view (last_nodes p.1 nodes)) (members_at nodes ks) → (o : Ordering)
    → members_at nodes (match_ordering o (p ∷ q ∷ ks) ((q.0, min p.1 q.1) ∷ ks) (q ∷ with_first p ks))
    ≡ match_ordering o (member p.0 (view (last_nodes p.1 nodes)) (members_at nodes (q ∷ ks))) (member q.0 (view (last_nodes p.1 nodes)) (members_at nodes ks))
    (member q.0 (view (last_nodes q.1 nodes)) (put p.0 (view (last_nodes p.1 nodes)) (members_at nodes ks)))
put_at nodes p q ks low more Less = refl
put_at nodes p q ks low more Equal = let least : min p.1 q.1 ≡ p.1 = omega arith in ap (λ n. member q.0 (view (last_nodes n nodes)) (members_at nodes ks)) least
put_at nodes p q ks low more Greater = ap (member q.0 (view (last_nodes q.1 nodes))) more

put_first : (nodes : List ℕ × List Node) (p : Numbered) (ks : List Numbered) → AllByRecursion (λ q. p.1 ≤ q.1) ks → members_at nodes (with_first p ks) ≡ put p.0 (view (last_nodes p.1 nodes)) (members_at nodes ks)
put_first nodes p [] low = refl
put_first nodes p (q ∷ ks) low = put_at nodes p q ks low.0 (put_first nodes p ks low.1) (slice_cmp nat_cmp p.0 q.0)

pub put_last_found : (nodes : List ℕ × List Node) (ps : Found) (p : Bor (List ℕ) × ℕ) → All (λ q. p.1 ≤ q.1) ps
    → members_at nodes (firsts (numbered (ps ++ p ∷ []))) ≡ put p.0.now (view (last_nodes p.1 nodes)) (members_at nodes (firsts (numbered ps)))
put_last_found nodes ps p low =
    let same = firsts-IsPermutation _ _ (IsPermutation-map (λ (q : Bor (List ℕ) × ℕ). (q.0.now, q.1)) _ _ (IsPermutation-to_front ps p)) in
    ap (members_at nodes) (sym same) ∙ put_first nodes (p.0.now, p.1) (firsts (numbered ps)) (have_firsts (λ n. p.1 ≤ n) ps (recursion_from_All _ ps low))

-- ---- A walk that finds the places of some members

abbrev pub ItemsView : Type 0
ItemsView = ℕ × (List ℕ × List Node)

-- what is left of the members, and the places of those before it
pub record FindsPlaces (members rest : ItemsView) (found : Found) : Type 0 where
  pub stay : puts (items_in rest) (members_at members.1 (firsts (numbered found))) ≡ puts (items_in members) no_members
  pub last : rest.1 ≡ last_nodes (length rest.1.1) members.1
  pub no_more : length rest.1.1 ≤ length members.1.1
  pub within : All (λ p. IsPlace members.1 p.1) found
  pub before : All (λ p. length rest.1.1 ≤ p.1) found

pub finds_next : (members rest after : ItemsView) (found : Found) (name : Bor (List ℕ)) (value : List ℕ × List Node) (key : Data) → FindsPlaces members rest found
    → items_in rest ≡ key ∷ view value ∷ items_in after → name.now ≡ name_of key → AreBehind rest.1 value → AreBehind value after.1 → FindsPlaces members after (found ++ (name, length value.1) ∷ [])
finds_next members rest after found name value key h items is first then =
    let left = length value.1 in
    let p : Bor (List ℕ) × ℕ = (name, left) in
    let a = first.fewer in
    let b = then.fewer in
    let here : value ≡ last_nodes left members.1 = last_of_last members.1 rest.1 value h.last h.no_more first in
    let low : All (λ q. left ≤ q.1) found = All-weaker (λ q. length rest.1.1 ≤ q.1) (λ q. left ≤ q.1) (λ q le. omega arith) found h.before in
    let within : left ≤ length members.1.1 = omega (arith, h.no_more) in
    record {
      stay = ap (puts (items_in after)) (put_last_found members.1 found p low ∙ ap (λ v. put name.now (view v) (members_at members.1 (firsts (numbered found)))) (sym here))
          ∙ sym (puts_next name.now (items_in rest) (items_in after) key (view value) (members_at members.1 (firsts (numbered found))) items is) ∙ h.stay;
      last = last_of_last members.1 value after.1 here within then;
      no_more = omega arith;
      within = All-push (λ q. IsPlace members.1 q.1) found p h.within (omega arith, within);
      before = All-push (λ q. length after.1.1 ≤ q.1) found p (All-weaker (λ q. left ≤ q.1) (λ q. length after.1.1 ≤ q.1) (λ q le. omega arith) found low) (omega arith);
    }
