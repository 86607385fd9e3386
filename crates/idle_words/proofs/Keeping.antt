-- Each step of a word keeps the rule.
use Rattle.std.proofs.Common.{◌≡◌, ◌≢◌, ℕ, zero, suc, ◌<◌, ◌≤◌, max, List, [], ◌∷◌, ◌++◌, length, replicate, set, ap, refl, sym, ◌∙◌, subst, ⊎_elim, sum_by, arith}
use Rattle.std.proofs.Math.Nat.{max-le, le-max_left, le-max_right}
use Rattle.std.proofs.Math.ListN.{length-set}
use Rattle.std.proofs.lemmas.List.{get_or-replicate, length-replicate, get_or-set_same, get_or-set_other}
use Rattle.std.proofs.lemmas.List.Sums.{sum_by_push}
use Rattle.std.specs.Prelude.{slice_index, slice_set}
use mathlib.Core.Option.{some, none, some-injective, some-ne-none}
use mathlib.Core.Logic.{dite}
use native.Mathlib.Decide.{ℕ_discrete}
use lib.ListN.{get_elem?}
use Rattle.atomic_table.specs.Table.{Me, step, keeps, Allows, Splits, Joins, Final, Seen, opening}
use Rattle.atomic_table.proofs.Lists.{at_set, at_snoc, set_else}
use Rattle.counter_bank.specs.Figures.{raise_at}
use Rattle.counter_bank.proofs.Places.{raise_at_here, raise_at_else, at_greater}
use Rattle.counter_bank.proofs.Sums.{sum_set, sum_has}
use Rattle.idle_words.specs.declared.knowledge.Knowledge.{Knowledge}
use Rattle.idle_words.specs.Account.{all_parts}
use Rattle.idle_words.specs.Touching.{greatest_at, Agrees, Kept, first_view, touching, noting, one_less, one_part, together, nobody, Touched, Noted}
use Rattle.idle_words.proofs.Greatest.{greatest_has, greatest_set, greatest_covered, greatest_push, greatest_alone}

-- what a view has touched a word with, and its parts
abbrev touched_at : ℕ → Knowledge → ℕ
touched_at i v = slice_index v.touched i

abbrev its_parts : Knowledge → ℕ
its_parts v = v.parts

-- moments that did not fall
abbrev Grown : List Knowledge → List Knowledge → Type 0
Grown old new = (i : ℕ) → greatest_at old i ≤ greatest_at new i

agrees_later : (old new : List Knowledge) (u : Knowledge) → Grown old new → Agrees old u → Agrees new u
agrees_later old new u grown a = record { noted = λ i. omega (arith, a.noted i, grown i); spent = a.spent }

-- one view was replaced
each_set : (old new : List Knowledge) (id : ℕ) (w : Knowledge) → Grown old new → Agrees new w → ((k : ℕ) (u : Knowledge) → get_elem? old k ≡ some u → Agrees old u)
    → (k : ℕ) (u : Knowledge) → get_elem? (set old id w) k ≡ some u → Agrees new u
each_set old new id w grown mine each k u at =
    ⊎_elim (λ (t : (k ≡ id) × (w ≡ u)). subst (Agrees new) t.1 mine) (λ (t : (k ≢ id) × (get_elem? old k ≡ some u)). agrees_later old new u grown (each k u t.1)) (at_set old id k w u at)

-- what a view has at a word that it touches, and at the others
pub raised : (xs : List ℕ) (i n j : ℕ) → (j ≡ i → slice_index (raise_at xs i n) j ≡ max (slice_index xs j) n) × (j ≢ i → slice_index (raise_at xs i n) j ≡ slice_index xs j)
raised xs i n j = (λ e. subst (λ x. slice_index (raise_at xs i n) x ≡ max (slice_index xs x) n) (sym e) (raise_at_here xs i n), λ ne. raise_at_else xs i j n ne)

pub raised_most : (xs : List ℕ) (i n j m : ℕ) → slice_index xs j ≤ m → (j ≡ i → n ≤ m) → slice_index (raise_at xs i n) j ≤ m
raised_most xs i n j m le here = dite (ℕ_discrete j i)
    (λ e. let at = (raised xs i n j).0 e in let top : max (slice_index xs j) n ≤ m = max-le le (here e) in omega (arith, at, top))
    (λ ne. omega (arith, (raised xs i n j).1 ne, le))

pub raised_least : (xs : List ℕ) (i n j : ℕ) → slice_index xs j ≤ slice_index (raise_at xs i n) j
raised_least xs i n j = dite (ℕ_discrete j i)
    (λ e. omega (arith, (raised xs i n j).0 e, le-max_left (slice_index xs j) n))
    (λ ne. omega (arith, (raised xs i n j).1 ne))

module _ (n : ℕ) where
  pub opens : Kept n (opening (replicate n 0) [] first_view)
  opens = record {
    count = length-replicate n 0;
    words = λ i h. get_or-replicate n i 0 0 h;
    parts = refl;
    each = one;
  }
    where
      one : (id : ℕ) (v : Knowledge) → get_elem? (first_view ∷ []) id ≡ some v → Agrees (first_view ∷ []) v
      one zero v e = subst (Agrees (first_view ∷ [])) (some-injective first_view v e) record { noted = λ i. omega arith; spent = λ _ i. refl }
      one (suc id) v e = absurd (some-ne-none v (sym e))

  -- where a view touches the word i with k
  greatest_touching : (views : List Knowledge) (id : ℕ) (v : Knowledge) (i k j : ℕ) → get_elem? views id ≡ some v
      → (j ≡ i → greatest_at (set views id (touching v i k)) j ≡ max (greatest_at views j) k) × (j ≢ i → greatest_at (set views id (touching v i k)) j ≡ greatest_at views j)
  greatest_touching views id v i k j at =
      let moved = greatest_set (touched_at j) views id v (touching v i k) at (raised_least v.touched i k j) in
      let has = greatest_has (touched_at j) views id v at in
      (λ e. omega (arith, moved, (raised v.touched i k j).0 e, has), λ ne. omega (arith, moved, (raised v.touched i k j).1 ne, has))

  -- a view that has touched the same as before
  greatest_same : (views : List Knowledge) (id : ℕ) (v w : Knowledge) (j : ℕ) → get_elem? views id ≡ some v → v.touched ≡ w.touched → greatest_at (set views id w) j ≡ greatest_at views j
  greatest_same views id v w j at same =
      let here : slice_index v.touched j ≡ slice_index w.touched j = ap (λ l. slice_index l j) same in
      omega (arith, greatest_set (touched_at j) views id v w at (omega (arith, here)), greatest_has (touched_at j) views id v at, here)

  pub touches : (slots id : ℕ) (me : Me (Unit {0}) Knowledge) (i k : ℕ) → i < n → 0 < me.0.parts → Allows (Kept n) slots id me i (λ x. max x k) (Touched (step slots i k 0 none) me)
  touches slots id me i k below own s kept homes at small =
      let v : Knowledge = me.0 in
      let w : Knowledge = touching v i k in
      let now : List Knowledge = set s.views id w in
      let top : (j : ℕ) → (j ≡ i → greatest_at now j ≡ max (greatest_at s.views j) k) × (j ≢ i → greatest_at now j ≡ greatest_at s.views j) = λ j. greatest_touching s.views id v i k j at in
      let grown : Grown s.views now = λ j. dite (ℕ_discrete j i) (λ e. omega (arith, (top j).0 e, le-max_left (greatest_at s.views j) k)) (λ ne. omega (arith, (top j).1 ne)) in
      let mine : Agrees s.views v = kept.each id v at in
      let agrees : Agrees now w = record { noted = λ j. omega (arith, mine.noted j, grown j); spent = λ none. absurd (omega (arith, none, own)) } in (
        w,
        keeps,
        tt,
        record {
          count = length-set s.words i _ ∙ kept.count;
          words = λ j h. dite (ℕ_discrete j i)
              (λ e. subst (λ x. slice_index (slice_set s.words i (max (slice_index s.words i) k)) x ≡ max (slice_index s.words i) k) (sym e) (get_or-set_same s.words i (max (slice_index s.words i) k) 0 (omega (arith, kept.count, below)))
              ∙ ap (λ x. max x k) (kept.words i below) ∙ ap (λ x. max (greatest_at s.views x) k) (sym e) ∙ sym ((top j).0 e))
              (λ ne. get_or-set_other s.words i j (max (slice_index s.words i) k) 0 ne ∙ kept.words j h ∙ sym ((top j).1 ne));
          parts = let p = sum_set its_parts s.views id v w at in omega (arith, p, kept.parts);
          each = each_set s.views now id w grown agrees kept.each;
        },
        refl,
      )

  pub notes : (slots id : ℕ) (me : Me (Unit {0}) Knowledge) (i : ℕ) → i < n → Allows (Kept n) slots id me i (λ x. x) (Noted (step slots i 0 0 none) me)
  notes slots id me i below s kept homes at small =
      let v : Knowledge = me.0 in
      let t : ℕ = slice_index s.words i in
      let w : Knowledge = noting v i t in
      let now : List Knowledge = set s.views id w in
      let top : (j : ℕ) → greatest_at now j ≡ greatest_at s.views j = λ j. greatest_same s.views id v w j at refl in
      let mine : Agrees s.views v = kept.each id v at in
      let agrees : Agrees now w = record {
        noted = λ j. raised_most v.noted i t j (greatest_at now j) (omega (arith, mine.noted j, top j))
            (λ e. let here : greatest_at s.views i ≡ greatest_at s.views j = ap (λ x. greatest_at s.views x) (sym e) in omega (arith, kept.words i below, here, top j));
        spent = mine.spent;
      } in (
        w,
        keeps,
        tt,
        record {
          count = length-set s.words i _ ∙ kept.count;
          words = λ j h. dite (ℕ_discrete j i)
              (λ e. subst (λ x. slice_index (slice_set s.words i t) x ≡ t) (sym e) (get_or-set_same s.words i t 0 (omega (arith, kept.count, below)))
              ∙ kept.words i below ∙ ap (λ x. greatest_at s.views x) (sym e) ∙ sym (top j))
              (λ ne. get_or-set_other s.words i j t 0 ne ∙ kept.words j h ∙ sym (top j));
          parts = let p = sum_set its_parts s.views id v w at in omega (arith, p, kept.parts);
          each = each_set s.views now id w (λ j. omega (arith, top j)) agrees kept.each;
        },
        (
          record {
            since = omega (arith, mine.noted i, kept.words i below);
            own = omega (arith, greatest_has (touched_at i) s.views id v at, kept.words i below);
            view_is = refl;
          },
          refl,
        ),
      )

  pub splits : (id : ℕ) (v : Knowledge) → 1 < v.parts → Splits (Kept n) id v (one_less v) (one_part v)
  splits id v two s kept at =
      let w : Knowledge = one_less v in
      let u : Knowledge = one_part v in
      let old : List Knowledge = set s.views id w in
      let now : List Knowledge = old ++ u ∷ [] in
      let top : (j : ℕ) → greatest_at now j ≡ greatest_at s.views j = λ j. omega (arith, greatest_push (touched_at j) old u, greatest_same s.views id v w j at refl) in
      let grown : Grown s.views now = λ j. omega (arith, top j) in
      let mine : Agrees s.views v = kept.each id v at in
      record {
        count = kept.count;
        words = λ j h. kept.words j h ∙ sym (top j);
        parts = let p = sum_set its_parts s.views id v w at in let q = sum_by_push its_parts old u in omega (arith, p, q, kept.parts, two);
        each = λ k x e. ⊎_elim
            (λ was. each_set s.views now id w grown record { noted = λ j. omega (arith, mine.noted j, top j); spent = λ none. absurd (omega (arith, none, two)) } kept.each k x was)
            (λ (is : u ≡ x). subst (Agrees now) is record { noted = λ j. omega (arith, mine.noted j, top j); spent = λ _ j. refl })
            (at_snoc old u x k e);
      }

  pub joins : (id : ℕ) (v : Knowledge) (other : ℕ) (u : Knowledge) → Joins (Kept n) id v other u (together v u) nobody
  joins id v other u s kept at apart there =
      let w : Knowledge = together v u in
      let old : List Knowledge = set s.views id w in
      let now : List Knowledge = set old other nobody in
      let was : get_elem? s.views other ≡ some u = ⊎_elim (λ (t : (other ≡ id) × (w ≡ u)). absurd (apart t.0)) (λ (t : (other ≢ id) × (get_elem? s.views other ≡ some u)). t.1) (at_set s.views id other w u there) in
      let at_id : get_elem? old id ≡ some w = here s.views id v w at in
      let top : (j : ℕ) → greatest_at now j ≡ greatest_at s.views j = λ j.
      let both : slice_index w.touched j ≡ max (slice_index v.touched j) (slice_index u.touched j) = at_greater v.touched u.touched j in
      let least = le-max_left (slice_index v.touched j) (slice_index u.touched j) in
      let covers = le-max_right (slice_index v.touched j) (slice_index u.touched j) in
      let first = greatest_set (touched_at j) s.views id v w at (omega (arith, both, least)) in
      let second = greatest_covered (touched_at j) old id other w u nobody apart at_id there (omega (arith, both, covers)) (omega arith) in
      omega (arith, both, first, second, greatest_has (touched_at j) s.views id v at, greatest_has (touched_at j) s.views other u was) in
      let grown : Grown s.views now = λ j. omega (arith, top j) in
      let mine : Agrees s.views v = kept.each id v at in
      let theirs : Agrees s.views u = kept.each other u was in
      let agrees : Agrees now w = record {
        noted = λ j. let most : max (slice_index v.noted j) (slice_index u.noted j) ≤ greatest_at s.views j = max-le (mine.noted j) (theirs.noted j) in omega (arith, most, at_greater v.noted u.noted j, top j);
        spent = λ none j. let a = mine.spent (omega (arith, none)) j in let b = theirs.spent (omega (arith, none)) j in omega (arith, at_greater v.touched u.touched j, a, b);
      } in
      record {
        count = kept.count;
        words = λ j h. kept.words j h ∙ sym (top j);
        parts = let p = sum_set its_parts s.views id v w at in let q = sum_set its_parts old other u nobody there in omega (arith, p, q, kept.parts);
        each = λ k x e. ⊎_elim
            (λ (t : (k ≡ other) × (nobody ≡ x)). subst (Agrees now) t.1 record { noted = λ j. omega arith; spent = λ _ j. refl })
            (λ (t : (k ≢ other) × (get_elem? old k ≡ some x)). each_set s.views now id w grown agrees kept.each k x t.1)
            (at_set old other k nobody x e);
      }
    where
      here : (l : List Knowledge) (i : ℕ) (a b : Knowledge) → get_elem? l i ≡ some a → get_elem? (set l i b) i ≡ some b
      here [] i a b e = absurd (some-ne-none a (sym e))
      here (x ∷ xs) zero a b e = refl
      here (x ∷ xs) (suc i) a b e = here xs i a b e

  -- one view has all parts, so another has none
  sole : (views : List Knowledge) (i : ℕ) (v : Knowledge) → get_elem? views i ≡ some v → sum_by its_parts views ≡ v.parts → (k : ℕ) (u : Knowledge) → ¬ (k ≡ i) → get_elem? views k ≡ some u → u.parts ≡ 0
  sole views i v at all k u apart e =
      let less = sum_set its_parts views i v nobody at in
      let has = sum_has its_parts (set views i nobody) k u (set_else views i k nobody apart ∙ e) in
      omega (arith, less, has, all)

  -- a seat with all parts has touched all words with what they are, and noted nothing above it
  pub closes : (id : ℕ) (v : Knowledge) (ws : List ℕ) (xs : List (Unit {0})) → v.parts ≡ all_parts → Final (Seen (Kept n) id v) ws xs
      → (length ws ≡ n) × ((i : ℕ) → i < n → slice_index ws i ≡ slice_index v.touched i) × ((i : ℕ) → slice_index v.noted i ≤ slice_index v.touched i)
  closes id v ws xs all final =
      let s = final.0 in
      let kept : Kept n s = final.1.0 in
      let at : get_elem? s.views id ≡ some v = final.1.1 in
      let is : s.words ≡ ws = final.2 in
      let whole : (i : ℕ) → greatest_at s.views i ≡ slice_index v.touched i = λ i. greatest_alone (touched_at i) s.views id v at
      (λ k u apart e. (kept.each k u e).spent (sole s.views id v at (kept.parts ∙ sym all) k u apart e) i) in (
        subst (λ l. length l ≡ n) is kept.count,
        λ i h. ap (λ l. slice_index l i) (sym is) ∙ kept.words i h ∙ whole i,
        λ i. let mine = (kept.each id v at).noted i in omega (arith, mine, whole i),
      )
