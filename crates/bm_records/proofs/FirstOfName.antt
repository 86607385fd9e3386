-- Each name once, with the lowest of its numbers: in whatever order the names stood, and from a sorted list.
use Rattle.std.proofs.Common.{◌≡◌, ℕ, zero, suc, ◌<◌, ◌≤◌, min, List, [], ◌∷◌, length, get_or, set, Bool, true, false, cond, Bor, Ordering, Less, Equal, Greater, IsPermutation, IsSorted, is_eq, is_lt, bytes_eq, nat_cmp, refl, sym, ap, ap₂, ◌∙◌, arith, add-one}
use Rattle.std.specs.Prelude.{⊤}
use Rattle.std.specs.List.{dedup, dedup_from}
use Rattle.std.specs.Ordering.{match_ordering, ordering_reverse, ordering_then}
use Rattle.std.specs.Cmp.Lexicographic.{slice_cmp}
use Rattle.std.proofs.lemmas.Bool.{true≢false}
use Rattle.std.proofs.lemmas.Bool.Decides.{nat_tests}
use Rattle.std.proofs.lemmas.Cmp.{nat_list_cmp_total}
use Rattle.std.proofs.lemmas.List.Edits.{swap_is}
use Rattle.std.proofs.lemmas.List.Sorted.{IsPermutation-keeps}
use Rattle.std.proofs.lemmas.Map.Text.{is_eq-slice_cmp}
use Rattle.std.proofs.lemmas.Slice.Eq.{bytes_eq-Decides}
use Rattle.bm_records.specs.Firsts.{Numbered, numbered, with_first, firsts}

abbrev by : List ℕ → List ℕ → Ordering
by m n = slice_cmp nat_cmp m n

turned : (m n : List ℕ) (o : Ordering) → by m n ≡ o → by n m ≡ ordering_reverse o
turned m n o e = nat_list_cmp_total.antisymm n m ∙ ap ordering_reverse e

same_name : (m n : List ℕ) → by m n ≡ Equal → m ≡ n
same_name m n e = (bytes_eq-Decides m n).0 (sym (is_eq-slice_cmp m n) ∙ ap is_eq e)

-- ---- Two may be added in either order

in_front : (a b : Numbered) (ks : List Numbered) (o : Ordering) → by a.0 b.0 ≡ o
    → match_ordering o (a ∷ b ∷ ks) ((b.0, min a.1 b.1) ∷ ks) (b ∷ a ∷ ks) ≡ match_ordering (ordering_reverse o) (b ∷ a ∷ ks) ((a.0, min b.1 a.1) ∷ ks) (a ∷ b ∷ ks)
in_front a b ks Less e = refl
in_front a b ks Equal e = let least : min a.1 b.1 ≡ min b.1 a.1 = omega arith in ap₂ (λ n k. (n, k) ∷ ks) (sym (same_name a.0 b.0 e)) least
in_front a b ks Greater e = refl

-- at one that is above a, and not above b
uneven : (a b c : Numbered) (ks : List Numbered) (y : Ordering) → by a.0 c.0 ≡ Less → by b.0 c.0 ≡ y → is_lt y ≡ false → with_first a (with_first b (c ∷ ks)) ≡ with_first b (with_first a (c ∷ ks))
uneven a b c ks Less x y more = absurd (true≢false more)
uneven a b c ks Equal x y more = let above : by b.0 a.0 ≡ Greater = nat_list_cmp_total.congr b.0 c.0 a.0 y ∙ turned a.0 c.0 Less x in rw (x, y, x, above) refl
uneven a b c ks Greater x y more =
    let above : by b.0 a.0 ≡ Greater = turned a.0 b.0 Less (nat_list_cmp_total.trans a.0 c.0 b.0 x (turned b.0 c.0 Greater y)) in
    rw (x, y, x, above) refl

either_order_at : (a b c : Numbered) (ks : List Numbered) → with_first a (with_first b ks) ≡ with_first b (with_first a ks) → (x y : Ordering) → by a.0 c.0 ≡ x → by b.0 c.0 ≡ y
    → with_first a (with_first b (c ∷ ks)) ≡ with_first b (with_first a (c ∷ ks))
either_order_at a b c ks more Less Less x y = rw (x, y, turned a.0 b.0 _ refl, x) (in_front a b (c ∷ ks) (by a.0 b.0) refl)
either_order_at a b c ks more Less Equal x y = uneven a b c ks Equal x y refl
either_order_at a b c ks more Less Greater x y = uneven a b c ks Greater x y refl
either_order_at a b c ks more Equal Less x y = sym (uneven b a c ks Equal y x refl)
either_order_at a b c ks more Greater Less x y = sym (uneven b a c ks Greater y x refl)
either_order_at a b c ks more Equal Equal x y =
    let least : min a.1 (min b.1 c.1) ≡ min b.1 (min a.1 c.1) = omega arith in
    rw (x, y, x) (ap (λ k. (c.0, k) ∷ ks) least)
either_order_at a b c ks more Equal Greater x y = rw (x, y, x) refl
either_order_at a b c ks more Greater Equal x y = rw (x, y, x) refl
either_order_at a b c ks more Greater Greater x y = rw (x, y, x) (ap (λ l. c ∷ l) more)

either_order : (a b : Numbered) (ks : List Numbered) → with_first a (with_first b ks) ≡ with_first b (with_first a ks)
either_order a b [] = rw (turned a.0 b.0 _ refl) (in_front a b [] (by a.0 b.0) refl)
either_order a b (c ∷ ks) = either_order_at a b c ks (either_order a b ks) (by a.0 c.0) (by b.0 c.0) refl refl

-- ---- In any order

moved : (ks : List Numbered) (i : ℕ) (d y : Numbered) → i < length ks → with_first (get_or ks i d) (firsts (set ks i y)) ≡ with_first y (firsts ks)
moved [] i d y within = absurd (omega arith)
moved (x ∷ ks) zero d y within = either_order x y (firsts ks)
moved (x ∷ ks) (suc i) d y within = either_order (get_or ks i d) x (firsts (set ks i y)) ∙ ap (with_first x) (moved ks i d y (omega arith)) ∙ either_order x y (firsts ks)

swapped : (ks : List Numbered) (i j : ℕ) (d : Numbered) → i < length ks → j < length ks → firsts (set (set ks i (get_or ks j d)) j (get_or ks i d)) ≡ firsts ks
swapped [] i j d p q = absurd (omega arith)
swapped (x ∷ ks) zero zero d p q = refl
swapped (x ∷ ks) zero (suc j) d p q = moved ks j d x (omega arith)
swapped (x ∷ ks) (suc i) zero d p q = moved ks i d x (omega arith)
swapped (x ∷ ks) (suc i) (suc j) d p q = ap (with_first x) (swapped ks i j d (omega arith) (omega arith))

pub firsts-IsPermutation : (xs ys : List Numbered) → IsPermutation xs ys → firsts ys ≡ firsts xs
firsts-IsPermutation xs ys = IsPermutation-keeps xs (λ l. firsts l ≡ firsts xs) refl (λ l i j p q h. ap firsts (sym (swap_is l i j ([], 0) p q)) ∙ swapped l i j ([], 0) p q ∙ h) ys

-- ---- From a sorted list

abbrev pub Borrowed : Type 0
Borrowed = Bor (List ℕ) × ℕ

abbrev pub by_both : Borrowed → Borrowed → Ordering
by_both p q = ordering_then (by p.0.now q.0.now) (nat_cmp p.1 q.1)

abbrev pub have_one_name : Borrowed → Borrowed → Bool
have_one_name p q = bytes_eq p.0.now q.0.now

abbrev Rises : List Numbered → Type 0
Rises [] = ⊤
Rises (p ∷ []) = ⊤
Rises (p ∷ q ∷ ks) = (is_lt (ordering_then (by q.0 p.0) (nat_cmp q.1 p.1)) ≡ false) × Rises (q ∷ ks)

rises : (ps : List Borrowed) → IsSorted by_both ps → Rises (numbered ps)
rises [] up = tt
rises (p ∷ []) up = tt
rises (p ∷ q ∷ ps) up = (up 0 p (omega arith) (omega arith), rises (q ∷ ps) (λ k d low within. rw add-one (rw add-one at (up (suc k) d (omega arith) (omega arith)))))

-- the rest, without a first one of a name
abbrev without : List ℕ → List Numbered → List Numbered
without n [] = []
without n (q ∷ ks) = cond (bytes_eq q.0 n) ks (q ∷ ks)

in_place : (p q : Numbered) (ks : List Numbered) (o : Ordering) → by p.0 q.0 ≡ o → is_lt (ordering_then (by q.0 p.0) (nat_cmp q.1 p.1)) ≡ false → with_first p (q ∷ ks) ≡ p ∷ without p.0 (q ∷ ks)
in_place p q ks Less e up = let other : bytes_eq q.0 p.0 ≡ false = sym (is_eq-slice_cmp q.0 p.0) ∙ ap is_eq (turned p.0 q.0 Less e) in rw (e, other) refl
in_place p q ks Equal e up =
    let back = turned p.0 q.0 Equal e in
    let same : bytes_eq q.0 p.0 ≡ true = sym (is_eq-slice_cmp q.0 p.0) ∙ ap is_eq back in
    let numbers : is_lt (nat_cmp q.1 p.1) ≡ false = ap (λ o. is_lt (ordering_then o (nat_cmp q.1 p.1))) (sym back) ∙ up in
    let le : p.1 ≤ q.1 = grind (arith, nat_tests) in
    let least : min p.1 q.1 ≡ p.1 = omega arith in
    rw (e, same) (ap₂ (λ n k. (n, k) ∷ ks) (sym (same_name p.0 q.0 e)) least)
in_place p q ks Greater e up = absurd (true≢false (ap (λ o. is_lt (ordering_then o (nat_cmp q.1 p.1))) (sym (turned p.0 q.0 Greater e)) ∙ up))

first_stays : (p : Numbered) (ks : List Numbered) → Rises (p ∷ ks) → firsts (p ∷ ks) ≡ p ∷ without p.0 (firsts ks)
first_stays p [] up = refl
first_stays p (q ∷ ks) up =
    let next = first_stays q ks up.1 in
    ap (with_first p) next ∙ in_place p q (without q.0 (firsts ks)) (by p.0 q.0) refl up.0 ∙ ap (λ l. p ∷ without p.0 l) (sym next)

kept_at : (k y : Borrowed) (ps : List Borrowed) (b : Bool) → have_one_name y k ≡ b → Rises (numbered (y ∷ ps)) → (k.0.now ≡ y.0.now → numbered (dedup_from have_one_name k ps) ≡ (k.0.now, k.1) ∷ without k.0.now (firsts (numbered ps)))
    → numbered (dedup_from have_one_name y ps) ≡ (y.0.now, y.1) ∷ without y.0.now (firsts (numbered ps))
    → numbered (cond b (dedup_from have_one_name k ps) (k ∷ dedup_from have_one_name y ps)) ≡ (k.0.now, k.1) ∷ without k.0.now (firsts (numbered (y ∷ ps)))
kept_at k y ps true e up passed kept =
    let one : k.0.now ≡ y.0.now = sym ((bytes_eq-Decides y.0.now k.0.now).0 e) in
    let rest = without y.0.now (firsts (numbered ps)) in
    let own : Numbered = (k.0.now, k.1) in
    let next : Numbered = (y.0.now, y.1) in
    passed one ∙ ap (λ n. own ∷ without n (firsts (numbered ps))) one ∙ sym (ap (λ l. own ∷ without k.0.now l) (first_stays next (numbered ps) up) ∙ ap (λ b. own ∷ cond b rest (next ∷ rest)) e)
kept_at k y ps false e up passed kept =
    let rest = without y.0.now (firsts (numbered ps)) in
    let own : Numbered = (k.0.now, k.1) in
    let next : Numbered = (y.0.now, y.1) in
    ap (λ l. own ∷ l) kept ∙ sym (ap (λ l. own ∷ without k.0.now l) (first_stays next (numbered ps) up) ∙ ap (λ b. own ∷ cond b rest (next ∷ rest)) e)

-- x is the last one before ps, and k the last one that was kept
kept_from : (ps : List Borrowed) (k x : Borrowed) → k.0.now ≡ x.0.now → Rises (numbered (x ∷ ps)) → numbered (dedup_from have_one_name k ps) ≡ (k.0.now, k.1) ∷ without k.0.now (firsts (numbered ps))
kept_from [] k x same up = refl
kept_from (y ∷ ps) k x same up = kept_at k y ps (have_one_name y k) refl up.1 (λ one. kept_from ps k y one up.1) (kept_from ps y y refl up.1)

pub dedup_is_firsts : (ps : List Borrowed) → IsSorted by_both ps → numbered (dedup have_one_name ps) ≡ firsts (numbered ps)
dedup_is_firsts [] up = refl
dedup_is_firsts (k ∷ ps) up = let rise = rises (k ∷ ps) up in kept_from ps k k refl rise ∙ sym (first_stays (k.0.now, k.1) (numbered ps) rise)
