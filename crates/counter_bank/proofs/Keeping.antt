-- Each step of a word keeps the rule.
use Rattle.std.proofs.Common.{◌≡◌, ◌≢◌, ℕ, zero, suc, ◌+◌, ◌%◌, ◌^◌, ◌<◌, ◌≤◌, max, List, [], ◌∷◌, ◌++◌, length, replicate, set, ap, refl, sym, ◌∙◌, subst, ⊎_elim, arith}
use Rattle.std.proofs.Math.Nat.{max-le, mod-add-mod}
use Rattle.std.proofs.Math.ListN.{length-set}
use Rattle.std.proofs.lemmas.List.{get_or-replicate, length-replicate}
use Rattle.std.proofs.lemmas.List.Sums.{sum_by_push}
use Rattle.std.specs.Prelude.{slice_index, slice_set}
use mathlib.Core.Option.{some, none, some-injective, some-ne-none}
use mathlib.Core.Logic.{dite}
use native.Mathlib.Decide.{ℕ_discrete}
use lib.ListN.{get_elem?}
use Rattle.atomic_table.specs.Table.{Me, step, keeps, Allows, Splits, Joins, Final, Seen, opening}
use Rattle.atomic_table.proofs.Lists.{at_set, at_snoc}
use Rattle.counter_bank.specs.declared.tally.Tally.{Tally}
use Rattle.counter_bank.specs.Figures.{add_at, raise_at}
use Rattle.counter_bank.specs.Account.{all_parts}
use Rattle.counter_bank.specs.Counting.{sum_at, Agrees, Kept, first_view, adding, noting, one_less, one_part, together, nobody, Added, Noted}
use Rattle.counter_bank.proofs.Places.{add_at_here, add_at_else, raise_at_here, raise_at_else, at_sums, at_greater}
use Rattle.counter_bank.proofs.Sums.{sum_set, sum_has, sum_whole}

-- what a view has added to a word, and its parts
abbrev added_at : ℕ → Tally → ℕ
added_at i v = slice_index v.added i

abbrev its_parts : Tally → ℕ
its_parts v = v.parts

-- sums that did not fall
abbrev Grown : List Tally → List Tally → Type 0
Grown old new = (i : ℕ) → sum_at old i ≤ sum_at new i

agrees_later : (old new : List Tally) (u : Tally) → Grown old new → Agrees old u → Agrees new u
agrees_later old new u grown a = record { noted = λ i. omega (arith, a.noted i, grown i); spent = a.spent }

-- one view was replaced
each_set : (old new : List Tally) (id : ℕ) (w : Tally) → Grown old new → Agrees new w → ((k : ℕ) (u : Tally) → get_elem? old k ≡ some u → Agrees old u)
    → (k : ℕ) (u : Tally) → get_elem? (set old id w) k ≡ some u → Agrees new u
each_set old new id w grown mine each k u at =
    ⊎_elim (λ (t : (k ≡ id) × (w ≡ u)). subst (Agrees new) t.1 mine) (λ (t : (k ≢ id) × (get_elem? old k ≡ some u)). agrees_later old new u grown (each k u t.1)) (at_set old id k w u at)

-- a number that is written is found, and the others are as they were
word_set : (ws : List ℕ) (i j n : ℕ) → i < length ws → (P : ℕ → Type 0) → (j ≡ i → P n) → (j ≢ i → P (slice_index ws j)) → P (slice_index (slice_set ws i n) j)
word_set [] i j n h P here other = absurd (omega arith)
word_set (x ∷ xs) zero zero n h P here other = here refl
word_set (x ∷ xs) zero (suc j) n h P here other = other (λ e. omega arith)
word_set (x ∷ xs) (suc i) zero n h P here other = other (λ e. omega arith)
word_set (x ∷ xs) (suc i) (suc j) n h P here other = word_set xs i j n (omega arith) P (λ e. here (ap suc e)) (λ ne. other (λ e. ne (omega arith)))

module _ (n : ℕ) where
  pub opens : Kept n (opening (replicate n 0) [] first_view)
  opens = record {
    count = length-replicate n 0;
    words = λ i h. get_or-replicate n i 0 0 h;
    parts = refl;
    each = one;
  }
    where
      one : (id : ℕ) (v : Tally) → get_elem? (first_view ∷ []) id ≡ some v → Agrees (first_view ∷ []) v
      one zero v e = subst (Agrees (first_view ∷ [])) (some-injective first_view v e) record { noted = λ i. omega arith; spent = λ _ i. refl }
      one (suc id) v e = absurd (some-ne-none v (sym e))

  -- where a view adds k to the word i
  sum_adding : (views : List Tally) (id : ℕ) (v : Tally) (i k j : ℕ) → get_elem? views id ≡ some v → (j ≡ i → sum_at (set views id (adding v i k)) j ≡ sum_at views j + k) × (j ≢ i → sum_at (set views id (adding v i k)) j ≡ sum_at views j)
  sum_adding views id v i k j at =
      let moved = sum_set (added_at j) views id v (adding v i k) at in (
        λ e. let here : added_at j (adding v i k) ≡ added_at j v + k = subst (λ x. slice_index (add_at v.added i k) x ≡ slice_index v.added x + k) (sym e) (add_at_here v.added i k) in omega (arith, moved, here),
        λ ne. let here : added_at j (adding v i k) ≡ added_at j v = add_at_else v.added i j k ne in omega (arith, moved, here),
      )

  pub adds : (slots id : ℕ) (me : Me (Unit {0}) Tally) (i k : ℕ) → i < n → 0 < me.0.parts → Allows (Kept n) slots id me i (λ x. (x + k) % 2 ^ 64) (Added (step slots i k 0 none) me)
  adds slots id me i k below own s kept homes at small =
      let v : Tally = me.0 in
      let w : Tally = adding v i k in
      let now : List Tally = set s.views id w in
      let sum : (j : ℕ) → (j ≡ i → sum_at now j ≡ sum_at s.views j + k) × (j ≢ i → sum_at now j ≡ sum_at s.views j) = λ j. sum_adding s.views id v i k j at in
      let grown : Grown s.views now = λ j. dite (ℕ_discrete j i) (λ e. omega (arith, (sum j).0 e)) (λ ne. omega (arith, (sum j).1 ne)) in
      let mine : Agrees s.views v = kept.each id v at in
      let agrees : Agrees now w = record {
        noted = λ j. dite (ℕ_discrete j i)
            (λ e. let here : slice_index w.noted j ≡ slice_index v.noted j + k = subst (λ x. slice_index (add_at v.noted i k) x ≡ slice_index v.noted x + k) (sym e) (add_at_here v.noted i k) in omega (arith, here, mine.noted j, (sum j).0 e))
            (λ ne. let here : slice_index w.noted j ≡ slice_index v.noted j = add_at_else v.noted i j k ne in omega (arith, here, mine.noted j, (sum j).1 ne));
        spent = λ none. absurd (omega (arith, none, own));
      } in (
        w,
        keeps,
        tt,
        record {
          count = length-set s.words i _ ∙ kept.count;
          words = λ j h. word_set s.words i j ((slice_index s.words i + k) % 2 ^ 64) (omega (arith, kept.count, below)) (λ x. x ≡ sum_at now j % 2 ^ 64)
              (λ e. ap (λ x. (x + k) % 2 ^ 64) (kept.words i below) ∙ mod-add-mod (sum_at s.views i) (2 ^ 64) k ∙ ap (λ x. x % 2 ^ 64) (ap (λ y. sum_at s.views y + k) (sym e) ∙ sym ((sum j).0 e)))
              (λ ne. kept.words j h ∙ ap (λ x. x % 2 ^ 64) (sym ((sum j).1 ne)));
          parts = let p = sum_set its_parts s.views id v w at in omega (arith, p, kept.parts);
          each = each_set s.views now id w grown agrees kept.each;
        },
        refl,
      )

  pub notes : (slots id : ℕ) (me : Me (Unit {0}) Tally) (i : ℕ) → i < n → Allows (Kept n) slots id me i (λ x. x) (Noted (step slots i 0 0 none) me)
  notes slots id me i below s kept homes at small =
      let v : Tally = me.0 in
      let t : ℕ = sum_at s.views i in
      let w : Tally = noting v i t in
      let now : List Tally = set s.views id w in
      let sum : (j : ℕ) → sum_at now j ≡ sum_at s.views j = λ j. let p = sum_set (added_at j) s.views id v w at in omega (arith, p) in
      let mine : Agrees s.views v = kept.each id v at in
      let agrees : Agrees now w = record {
        noted = λ j. dite (ℕ_discrete j i)
            (λ e. let here : slice_index w.noted j ≡ max (slice_index v.noted j) t = subst (λ x. slice_index (raise_at v.noted i t) x ≡ max (slice_index v.noted x) t) (sym e) (raise_at_here v.noted i t) in
            let top : t ≤ sum_at s.views j = subst (λ x. t ≤ sum_at s.views x) (sym e) (omega arith) in
            let most : max (slice_index v.noted j) t ≤ sum_at s.views j = max-le (mine.noted j) top in omega (arith, here, most, sum j))
            (λ ne. let here : slice_index w.noted j ≡ slice_index v.noted j = raise_at_else v.noted i j t ne in omega (arith, here, mine.noted j, sum j));
        spent = mine.spent;
      } in (
        w,
        keeps,
        tt,
        record {
          count = length-set s.words i _ ∙ kept.count;
          words = λ j h. word_set s.words i j (slice_index s.words i) (omega (arith, kept.count, below)) (λ x. x ≡ sum_at now j % 2 ^ 64)
              (λ e. kept.words i below ∙ ap (λ x. x % 2 ^ 64) (ap (λ y. sum_at s.views y) (sym e) ∙ sym (sum j)))
              (λ ne. kept.words j h ∙ ap (λ x. x % 2 ^ 64) (sym (sum j)));
          parts = let p = sum_set its_parts s.views id v w at in omega (arith, p, kept.parts);
          each = each_set s.views now id w (λ j. omega (arith, sum j)) agrees kept.each;
        },
        (record { sum = t; found_is = record { is = kept.words i below; since = mine.noted i; own = sum_has (added_at i) s.views id v at }; noted_is = refl }, refl),
      )

  pub splits : (id : ℕ) (v : Tally) → 1 < v.parts → Splits (Kept n) id v (one_less v) (one_part v)
  splits id v two s kept at =
      let w : Tally = one_less v in
      let u : Tally = one_part v in
      let old : List Tally = set s.views id w in
      let now : List Tally = old ++ u ∷ [] in
      let sum : (j : ℕ) → sum_at now j ≡ sum_at s.views j = λ j. let p = sum_set (added_at j) s.views id v w at in let q = sum_by_push (added_at j) old u in omega (arith, p, q) in
      let grown : Grown s.views now = λ j. omega (arith, sum j) in
      let mine : Agrees s.views v = kept.each id v at in
      record {
        count = kept.count;
        words = λ j h. kept.words j h ∙ ap (λ x. x % 2 ^ 64) (sym (sum j));
        parts = let p = sum_set its_parts s.views id v w at in let q = sum_by_push its_parts old u in omega (arith, p, q, kept.parts, two);
        each = λ k x e. ⊎_elim
            (λ was. each_set s.views now id w grown record { noted = λ j. omega (arith, mine.noted j, sum j); spent = λ none. absurd (omega (arith, none, two)) } kept.each k x was)
            (λ (is : u ≡ x). subst (Agrees now) is record { noted = λ j. omega (arith, mine.noted j, sum j); spent = λ _ j. refl })
            (at_snoc old u x k e);
      }

  pub joins : (id : ℕ) (v : Tally) (other : ℕ) (u : Tally) → Joins (Kept n) id v other u (together v u) nobody
  joins id v other u s kept at apart there =
      let w : Tally = together v u in
      let old : List Tally = set s.views id w in
      let now : List Tally = set old other nobody in
      let was : get_elem? s.views other ≡ some u = ⊎_elim (λ (t : (other ≡ id) × (w ≡ u)). absurd (apart t.0)) (λ (t : (other ≢ id) × (get_elem? s.views other ≡ some u)). t.1) (at_set s.views id other w u there) in
      let sum : (j : ℕ) → sum_at now j ≡ sum_at s.views j = λ j.
      let p = sum_set (added_at j) s.views id v w at in
      let q = sum_set (added_at j) old other u nobody there in
      omega (arith, p, q, at_sums v.added u.added j) in
      let grown : Grown s.views now = λ j. omega (arith, sum j) in
      let mine : Agrees s.views v = kept.each id v at in
      let theirs : Agrees s.views u = kept.each other u was in
      let agrees : Agrees now w = record {
        noted = λ j. let most : max (slice_index v.noted j) (slice_index u.noted j) ≤ sum_at s.views j = max-le (mine.noted j) (theirs.noted j) in omega (arith, most, at_greater v.noted u.noted j, sum j);
        spent = λ none j. omega (arith, at_sums v.added u.added j, mine.spent (omega (arith, none)) j, theirs.spent (omega (arith, none)) j);
      } in
      record {
        count = kept.count;
        words = λ j h. kept.words j h ∙ ap (λ x. x % 2 ^ 64) (sym (sum j));
        parts = let p = sum_set its_parts s.views id v w at in let q = sum_set its_parts old other u nobody there in omega (arith, p, q, kept.parts);
        each = λ k x e. ⊎_elim
            (λ (t : (k ≡ other) × (nobody ≡ x)). subst (Agrees now) t.1 record { noted = λ j. omega arith; spent = λ _ j. refl })
            (λ (t : (k ≢ other) × (get_elem? old k ≡ some x)). each_set s.views now id w grown agrees kept.each k x t.1)
            (at_set old other k nobody x e);
      }

  -- a seat with all parts has added all that the words are, and noted nothing above it
  pub closes : (id : ℕ) (v : Tally) (ws : List ℕ) (xs : List (Unit {0})) → v.parts ≡ all_parts → Final (Seen (Kept n) id v) ws xs
      → (length ws ≡ n) × ((i : ℕ) → i < n → slice_index ws i ≡ slice_index v.added i % 2 ^ 64) × ((i : ℕ) → slice_index v.noted i ≤ slice_index v.added i)
  closes id v ws xs all final =
      let s = final.0 in
      let kept : Kept n s = final.1.0 in
      let at : get_elem? s.views id ≡ some v = final.1.1 in
      let is : s.words ≡ ws = final.2 in
      let whole : (i : ℕ) → sum_at s.views i ≡ slice_index v.added i = λ i. sum_whole its_parts (added_at i) s.views id v at (kept.parts ∙ sym all) (λ j u e none. (kept.each j u e).spent none i) in (
        subst (λ l. length l ≡ n) is kept.count,
        λ i h. ap (λ l. slice_index l i) (sym is) ∙ kept.words i h ∙ ap (λ x. x % 2 ^ 64) (whole i),
        λ i. let mine = (kept.each id v at).noted i in omega (arith, mine, whole i),
      )
