-- Each step keeps the rule.
use Rattle.std.proofs.Common.{◌≡◌, ◌≢◌, ℕ, zero, suc, ◌+◌, ◌<◌, ◌==◌, List, [], ◌∷◌, ◌++◌, length, set, eq-eqb, ne_eqb, cond, ⊎_elim, refl, ap, sym, ◌∙◌, subst, arith, append_assoc}
use Rattle.std.proofs.lemmas.List.Elements.{filter-append}
use Rattle.std.proofs.lemmas.List.{append-nil}
use mathlib.Core.Option.{some, none, some-injective, some-ne-none}
use mathlib.Core.List.{IsPrefix}
use prog.Atomic.{either}
use lib.ListN.{get_elem?}
use Rattle.atomic_table.specs.Table.{State, Me, step, keeps, Allows, Splits, Joins, opening}
use Rattle.atomic_table.proofs.Lists.{at_set}
use Rattle.lane_table.specs.declared.roles.Role.{Role}
use Rattle.lane_table.specs.declared.roles.Role.TheVariants.{AtJournal, AtLane, Bearing, Spent}
use Rattle.lane_table.specs.declared.roles.Hand.{Hand}
use Rattle.lane_table.specs.declared.roles.Hand.TheVariants.{Empty, Holds, Bears}
use Rattle.lane_table.specs.Lanes.{of_lane, NoneFrom}
use Rattle.lane_table.specs.Ruling.{at_journal, first_role, one_lane_more, next_lane, noted, in_hand, holding, emptied, hand_of, released, handed, entries_of, number_of, IsFree, IsHeld, IsAtJournal, HandAgrees, HandFits, Fits, Kept, Told, Compared, Appended}
use Rattle.lane_table.proofs.Standing.{redirect, redirect_here, redirect_else, AtEach, each_set, each_snoc}

-- a beginning stays one when the list grows
prefix_more : {A : Type 0} (xs ys zs : List A) → IsPrefix xs ys → IsPrefix xs (ys ++ zs)
prefix_more xs ys zs p = (p.0 ++ zs, sym (append_assoc xs p.0 zs) ∙ ap (λ w. w ++ zs) p.1)

module _ {E : Type 0} (lane : E → ℕ) where
  -- an entry of another lane is none of this lane
  pub of_other : (l : ℕ) (all : List E) (e : E) → lane e ≢ l → of_lane lane l (all ++ e ∷ []) ≡ of_lane lane l all
  of_other l all e ne = filter-append (λ x. lane x == l) all (e ∷ []) ∙ ap (λ b. of_lane lane l all ++ cond b (e ∷ []) []) (ne_eqb (lane e) l ne) ∙ append-nil (of_lane lane l all)

  -- an entry of the lane is its last
  pub of_same : (l : ℕ) (all : List E) (e : E) → lane e ≡ l → of_lane lane l (all ++ e ∷ []) ≡ of_lane lane l all ++ e ∷ []
  of_same l all e is = filter-append (λ x. lane x == l) all (e ∷ []) ∙ ap (λ b. of_lane lane l all ++ cond b (e ∷ []) []) (eq-eqb (lane e) l is)

  -- the rule holds of a table that is opened
  pub opens : Kept lane (opening (0 ∷ []) [] first_role)
  opens = record { all = []; lanes = 0; owner = λ l. 0; keeper = 0; none_from = λ later h. refl; each = one }
    where
      one : AtEach (Fits lane [] 0 (λ l. 0) 0) (first_role ∷ [])
      one zero r e = subst (Fits lane [] 0 (λ l. 0) 0 0) (some-injective first_role r e) (refl, refl, refl, tt)
      one (suc id) r e = absurd (some-ne-none r (sym e))

  -- what holds of the seats that are not stepped on
  others_fit : (all all' : List E) (lanes lanes' : ℕ) (owner owner' : ℕ → ℕ) (keeper id k : ℕ) → keeper ≡ id → k ≢ id
      → ((l : ℕ) → l < lanes → owner l ≡ k → (owner' l ≡ k) × (l < lanes') × (of_lane lane l all ≡ of_lane lane l all')) → ((xs : List E) → IsPrefix xs all → IsPrefix xs all')
      → (r : Role E) → Fits lane all lanes owner keeper k r → Fits lane all' lanes' owner' keeper k r
  others_fit all all' lanes lanes' owner owner' keeper id k is apart moves longer (AtJournal xs n hand) f = absurd (apart (sym f.0 ∙ is))
  others_fit all all' lanes lanes' owner owner' keeper id k is apart moves longer (AtLane l xs) f = let m = moves l f.1 f.0 in (m.0, m.1, f.2 ∙ m.2)
  others_fit all all' lanes lanes' owner owner' keeper id k is apart moves longer (Bearing xs) f = longer xs f
  others_fit all all' lanes lanes' owner owner' keeper id k is apart moves longer Spent f = tt

  -- the next lane is claimed
  pub claims : (id : ℕ) (xs : List E) (n : ℕ) → Splits (Kept lane) id (at_journal xs n) (at_journal xs (n + 1)) (AtLane n [])
  claims id xs n s kept at =
      let w : Role E = at_journal xs (n + 1) in
      let old : List (Role E) = set s.views id w in
      let new : ℕ = length old in
      let owner : ℕ → ℕ = redirect kept.owner n new in
      let mine : Fits lane kept.all kept.lanes kept.owner kept.keeper id (at_journal xs n) = kept.each id (at_journal xs n) at in
      let count : n ≡ kept.lanes = mine.2 in
      let moves : (k l : ℕ) → l < kept.lanes → kept.owner l ≡ k → (owner l ≡ k) × (l < kept.lanes + 1) × (of_lane lane l kept.all ≡ of_lane lane l kept.all) =
      λ k l below own. (redirect_else kept.owner n new l (λ e. omega (arith, e, below, count)) ∙ own, omega (arith, below), refl) in
      record {
        all = kept.all;
        lanes = kept.lanes + 1;
        owner = owner;
        keeper = kept.keeper;
        none_from = λ later h. kept.none_from later (omega (arith, h));
        each = each_snoc (Fits lane kept.all (kept.lanes + 1) owner kept.keeper) old (AtLane n [])
            (each_set (Fits lane kept.all kept.lanes kept.owner kept.keeper) (Fits lane kept.all (kept.lanes + 1) owner kept.keeper) s.views id w
            (λ k r apart f. others_fit kept.all kept.all kept.lanes (kept.lanes + 1) kept.owner owner kept.keeper id k mine.0 apart (moves k) (λ ys p. p) r f)
            (mine.0, mine.1, ap (λ x. x + 1) count, tt) kept.each)
            (redirect_here kept.owner n new n refl, omega (arith, count), sym (kept.none_from n (omega (arith, count))));
      }

  -- a seat is cut in two, and both parts know what is so, where no other seat is concerned
  splits_off : (s : State E (Role E)) (kept : Kept lane s) (id : ℕ) (v w r : Role E) → get_elem? s.views id ≡ some v
      → Fits lane kept.all kept.lanes kept.owner kept.keeper id w → ((k : ℕ) → Fits lane kept.all kept.lanes kept.owner kept.keeper k r)
      → Kept lane (record { words = s.words; homes = s.homes; views = set s.views id w ++ r ∷ [] })
  splits_off s kept id v w r at first second =
      let F : ℕ → Role E → Type 0 = Fits lane kept.all kept.lanes kept.owner kept.keeper in
      record {
        all = kept.all;
        lanes = kept.lanes;
        owner = kept.owner;
        keeper = kept.keeper;
        none_from = kept.none_from;
        each = each_snoc F (set s.views id w) r (each_set F F s.views id w (λ k x apart f. f) first kept.each) (second (length (set s.views id w)));
      }

  -- a seat that knows nothing
  pub leaves : (id : ℕ) (r : Role E) → Splits (Kept lane) id r r Spent
  leaves id r s kept at = splits_off s kept id r r Spent at (kept.each id r at) (λ k. tt)

  -- a note of the journal
  pub notes : (id : ℕ) (xs : List E) (n : ℕ) → Splits (Kept lane) id (at_journal xs n) (at_journal xs n) (Bearing xs)
  notes id xs n s kept at =
      let mine : Fits lane kept.all kept.lanes kept.owner kept.keeper id (at_journal xs n) = kept.each id (at_journal xs n) at in
      splits_off s kept id (at_journal xs n) (at_journal xs n) (Bearing xs) at mine (λ k. ([], append-nil xs ∙ mine.1))

  -- what is held comes out of the hand
  pub releases : (id : ℕ) (xs : List E) (n : ℕ) (hand : Hand E) → Splits (Kept lane) id (AtJournal xs n hand) (at_journal xs n) (released hand)
  releases id xs n Empty s kept at = splits_off s kept id (at_journal xs n) (at_journal xs n) Spent at (kept.each id (at_journal xs n) at) (λ k. tt)
  releases id xs n (Bears ys) s kept at =
      let mine : Fits lane kept.all kept.lanes kept.owner kept.keeper id (AtJournal xs n (Bears ys)) = kept.each id (AtJournal xs n (Bears ys)) at in
      splits_off s kept id (AtJournal xs n (Bears ys)) (at_journal xs n) (Bearing ys) at (mine.0, mine.1, mine.2, tt) (λ k. mine.3)
  releases id xs n (Holds l ys) s kept at =
      let mine : Fits lane kept.all kept.lanes kept.owner kept.keeper id (AtJournal xs n (Holds l ys)) = kept.each id (AtJournal xs n (Holds l ys)) at in
      let old : List (Role E) = set s.views id (at_journal xs n) in
      let new : ℕ = length old in
      let owner : ℕ → ℕ = redirect kept.owner l new in
      let F : ℕ → Role E → Type 0 = Fits lane kept.all kept.lanes kept.owner kept.keeper in
      let G : ℕ → Role E → Type 0 = Fits lane kept.all kept.lanes owner kept.keeper in
      let moves : (k : ℕ) → k ≢ id → (j : ℕ) → j < kept.lanes → kept.owner j ≡ k → (owner j ≡ k) × (j < kept.lanes) × (of_lane lane j kept.all ≡ of_lane lane j kept.all) =
      λ k apart j below own. (redirect_else kept.owner l new j (λ e. apart (sym own ∙ ap kept.owner e ∙ mine.3.0)) ∙ own, below, refl) in
      record {
        all = kept.all;
        lanes = kept.lanes;
        owner = owner;
        keeper = kept.keeper;
        none_from = kept.none_from;
        each = each_snoc G old (AtLane l ys)
            (each_set F G s.views id (at_journal xs n)
            (λ k r apart f. others_fit kept.all kept.all kept.lanes kept.lanes kept.owner owner kept.keeper id k mine.0 apart (moves k apart) (λ zs p. p) r f)
            (mine.0, mine.1, mine.2, tt) kept.each)
            (redirect_here kept.owner l new l refl, mine.3.1, mine.3.2);
      }

  -- another seat was spent, and the journal's holds what it knew
  joins_up : (s : State E (Role E)) (kept : Kept lane s) (id other : ℕ) (w : Role E) (owner : ℕ → ℕ)
      → ((k : ℕ) (r : Role E) → k ≢ id → k ≢ other → Fits lane kept.all kept.lanes kept.owner kept.keeper k r → Fits lane kept.all kept.lanes owner kept.keeper k r)
      → Fits lane kept.all kept.lanes owner kept.keeper id w
      → Kept lane (record { words = s.words; homes = s.homes; views = set (set s.views id w) other Spent })
  joins_up s kept id other w owner others first =
      let F : ℕ → Role E → Type 0 = Fits lane kept.all kept.lanes kept.owner kept.keeper in
      let G : ℕ → Role E → Type 0 = Fits lane kept.all kept.lanes owner kept.keeper in
      let H : ℕ → Role E → Type 0 = λ k r. k ≢ other → G k r in
      record {
        all = kept.all;
        lanes = kept.lanes;
        owner = owner;
        keeper = kept.keeper;
        none_from = kept.none_from;
        each = each_set H G (set s.views id w) other Spent (λ k r apart h. h apart) tt (each_set F H s.views id w (λ k r apart f ne. others k r apart ne f) (λ ne. first) kept.each);
      }

  -- a seat that is not the one stepped on was there before
  was_there : (s : State E (Role E)) (id other : ℕ) (w r : Role E) → ¬ (other ≡ id) → get_elem? (set s.views id w) other ≡ some r → get_elem? s.views other ≡ some r
  was_there s id other w r apart there = ⊎_elim (λ (t : (other ≡ id) × (w ≡ r)). absurd (apart t.0)) (λ (t : (other ≢ id) × (get_elem? s.views other ≡ some r)). t.1) (at_set s.views id other w r there)

  -- what a seat knows goes into the hand
  pub takes : (id : ℕ) (xs : List E) (n other : ℕ) (hand : Hand E) → Joins (Kept lane) id (at_journal xs n) other (released hand) (AtJournal xs n hand) Spent
  takes id xs n other Empty s kept at apart there =
      let mine : Fits lane kept.all kept.lanes kept.owner kept.keeper id (at_journal xs n) = kept.each id (at_journal xs n) at in
      joins_up s kept id other (at_journal xs n) kept.owner (λ k r a b f. f) mine
  takes id xs n other (Bears ys) s kept at apart there =
      let mine : Fits lane kept.all kept.lanes kept.owner kept.keeper id (at_journal xs n) = kept.each id (at_journal xs n) at in
      let theirs : Fits lane kept.all kept.lanes kept.owner kept.keeper other (Bearing ys) = kept.each other (Bearing ys) (was_there s id other (AtJournal xs n (Bears ys)) (Bearing ys) apart there) in
      joins_up s kept id other (AtJournal xs n (Bears ys)) kept.owner (λ k r a b f. f) (mine.0, mine.1, mine.2, theirs)
  takes id xs n other (Holds l ys) s kept at apart there =
      let mine : Fits lane kept.all kept.lanes kept.owner kept.keeper id (at_journal xs n) = kept.each id (at_journal xs n) at in
      let theirs : Fits lane kept.all kept.lanes kept.owner kept.keeper other (AtLane l ys) = kept.each other (AtLane l ys) (was_there s id other (AtJournal xs n (Holds l ys)) (AtLane l ys) apart there) in
      let owner : ℕ → ℕ = redirect kept.owner l id in
      let moves : (k : ℕ) → k ≢ other → (j : ℕ) → j < kept.lanes → kept.owner j ≡ k → (owner j ≡ k) × (j < kept.lanes) × (of_lane lane j kept.all ≡ of_lane lane j kept.all) =
      λ k ne j below own. (redirect_else kept.owner l id j (λ e. ne (sym own ∙ ap kept.owner e ∙ theirs.0)) ∙ own, below, refl) in
      joins_up s kept id other (AtJournal xs n (Holds l ys)) owner
      (λ k r a b f. others_fit kept.all kept.all kept.lanes kept.lanes kept.owner owner kept.keeper id k mine.0 a (moves k b) (λ zs p. p) r f)
      (mine.0, mine.1, mine.2, (redirect_here kept.owner l id l refl, theirs.1, theirs.2))

  -- what the seat beside the journal is told
  told : (s : State E (Role E)) (kept : Kept lane s) (id : ℕ) (xs : List E) (n : ℕ) (hand : Hand E) → get_elem? s.views id ≡ some (AtJournal xs n hand) → Told lane (AtJournal xs n hand)
  told s kept id xs n hand at =
      let mine : Fits lane kept.all kept.lanes kept.owner kept.keeper id (AtJournal xs n hand) = kept.each id (AtJournal xs n hand) at in
      let agrees : (h : Hand E) → HandFits lane kept.all kept.lanes kept.owner id h → HandAgrees lane kept.all h = hands in
      subst (λ m. NoneFrom lane m xs × HandAgrees lane xs hand) (sym mine.2) (subst (λ l. NoneFrom lane kept.lanes l × HandAgrees lane l hand) (sym mine.1) (kept.none_from, agrees hand mine.3))
    where
      hands : (h : Hand E) → HandFits lane kept.all kept.lanes kept.owner id h → HandAgrees lane kept.all h
      hands Empty f = tt
      hands (Holds l ys) f = f.2
      hands (Bears ys) f = f

  -- a comparison changes nothing, and tells
  pub compares : (slots id : ℕ) (xs : List E) (n : ℕ) (hand : Hand E) → Allows (Kept lane) slots id (AtJournal xs n hand, []) 0 (λ x. x) (Compared lane (step slots 0 0 0 none) (AtJournal xs n hand, []))
  compares slots id xs n hand s kept size at small =
      let v : Role E = AtJournal xs n hand in
      let F : ℕ → Role E → Type 0 = Fits lane kept.all kept.lanes kept.owner kept.keeper in (
        v,
        keeps,
        tt,
        record {
          all = kept.all;
          lanes = kept.lanes;
          owner = kept.owner;
          keeper = kept.keeper;
          none_from = kept.none_from;
          each = each_set F F s.views id v (λ k r apart f. f) (kept.each id v at) kept.each;
        },
        (refl, told s kept id xs n hand at),
      )

  -- an entry of the lane that is held becomes the last of the journal and of the lane
  pub appends : (slots id : ℕ) (xs : List E) (n l : ℕ) (ys : List E) (e : E) → lane e ≡ l
      → Allows (Kept lane) slots id (AtJournal xs n (Holds l ys), []) 0 (λ x. either (x == 0) 0 x) (Appended lane (step slots 0 0 0 (some e)) (AtJournal xs n (Holds l ys), []))
  appends slots id xs n l ys e is s kept size at small =
      let v : Role E = AtJournal xs n (Holds l ys) in
      let w : Role E = AtJournal (xs ++ e ∷ []) n (Holds l (ys ++ e ∷ [])) in
      let mine : Fits lane kept.all kept.lanes kept.owner kept.keeper id v = kept.each id v at in
      let all : List E = kept.all ++ e ∷ [] in
      let F : ℕ → Role E → Type 0 = Fits lane kept.all kept.lanes kept.owner kept.keeper in
      let G : ℕ → Role E → Type 0 = Fits lane all kept.lanes kept.owner kept.keeper in
      let moves : (k : ℕ) → k ≢ id → (j : ℕ) → j < kept.lanes → kept.owner j ≡ k → (kept.owner j ≡ k) × (j < kept.lanes) × (of_lane lane j kept.all ≡ of_lane lane j all) =
      λ k apart j below own. (own, below, sym (of_other j kept.all e (λ same. apart (sym own ∙ ap kept.owner (sym same ∙ is) ∙ mine.3.0)))) in (
        w,
        keeps,
        tt,
        record {
          all = all;
          lanes = kept.lanes;
          owner = kept.owner;
          keeper = kept.keeper;
          none_from = λ later h. of_other later kept.all e (λ same. omega (arith, h, sym same ∙ is, mine.3.1)) ∙ kept.none_from later h;
          each = each_set F G s.views id w
              (λ k r apart f. others_fit kept.all all kept.lanes kept.lanes kept.owner kept.owner kept.keeper id k mine.0 apart (moves k apart) (λ zs p. prefix_more zs kept.all (e ∷ []) p) r f)
              (mine.0, ap (λ zs. zs ++ e ∷ []) mine.1, mine.2, (mine.3.0, mine.3.1, ap (λ zs. zs ++ e ∷ []) mine.3.2 ∙ sym (of_same l kept.all e is))) kept.each;
        },
        (refl, told s kept id xs n (Holds l ys) at),
      )

  -- the same of a seat that is known by an equation
  pub claims_at : (id : ℕ) (me : Me E (Role E)) → IsFree me → Splits (Kept lane) id me.0 (one_lane_more me.0) (next_lane me.0)
  claims_at id me free = subst (λ m. Splits (Kept lane) id m.0 (one_lane_more m.0) (next_lane m.0)) (sym free) (claims id (entries_of me.0) (number_of me.0))

  pub notes_at : (id : ℕ) (me : Me E (Role E)) → IsFree me → Splits (Kept lane) id me.0 me.0 (noted me.0)
  notes_at id me free = subst (λ m. Splits (Kept lane) id m.0 m.0 (noted m.0)) (sym free) (notes id (entries_of me.0) (number_of me.0))

  pub takes_at : (id : ℕ) (me : Me E (Role E)) (other : ℕ) (its : Me E (Role E)) → IsFree me → IsHeld its → Joins (Kept lane) id me.0 other its.0 (holding me.0 its.0) Spent
  takes_at id me other its free held =
      subst (λ m. Joins (Kept lane) id m.0 other its.0 (holding me.0 its.0) Spent) (sym free)
      (subst (λ o. Joins (Kept lane) id (emptied me.0) other o.0 (holding me.0 its.0) Spent) (sym held) (takes id (entries_of me.0) (number_of me.0) other (in_hand its.0)))

  pub releases_at : (id : ℕ) (me : Me E (Role E)) → IsAtJournal me → Splits (Kept lane) id me.0 (emptied me.0) (handed me.0)
  releases_at id me is = subst (λ m. Splits (Kept lane) id m.0 (emptied me.0) (handed me.0)) (sym is) (releases id (entries_of me.0) (number_of me.0) (hand_of me.0))

  pub compares_at : (slots id : ℕ) (me : Me E (Role E)) → IsAtJournal me → Allows (Kept lane) slots id me 0 (λ x. x) (Compared lane (step slots 0 0 0 none) me)
  compares_at slots id me is = subst (λ m. Allows (Kept lane) slots id m 0 (λ x. x) (Compared lane (step slots 0 0 0 none) m)) (sym is) (compares slots id (entries_of me.0) (number_of me.0) (hand_of me.0))

  pub appends_at : (slots id : ℕ) (me : Me E (Role E)) (xs : List E) (n l : ℕ) (ys : List E) (e : E) → me ≡ (AtJournal xs n (Holds l ys), []) → lane e ≡ l
      → Allows (Kept lane) slots id me 0 (λ x. either (x == 0) 0 x) (Appended lane (step slots 0 0 0 (some e)) me)
  appends_at slots id me xs n l ys e is own = subst (λ m. Allows (Kept lane) slots id m 0 (λ x. either (x == 0) 0 x) (Appended lane (step slots 0 0 0 (some e)) m)) (sym is) (appends slots id xs n l ys e own)
