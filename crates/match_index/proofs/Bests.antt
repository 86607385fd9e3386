-- The best of the entries that shapes offer for a key is the best of all that are covered.
use Rattle.std.proofs.Common.{◌≡◌, ℕ, ◌⊎◌, inl, inr, ◌∙◌, Bool, true, false, ◌&&◌, ◌||◌, not, eqb, cond, List, [], ◌∷◌, Option, Some, None, refl, sym, ap, subst}
use Rattle.std.specs.Prelude.{filter}
use Rattle.std.specs.List.{AllByRecursion, fold, list_any}
use Rattle.std.proofs.lemmas.Bool.{cases_eq}
use Rattle.p4_types.specs.declared.table.Entry.{Entry}
use Rattle.p4_types.specs.declared.keys.FieldTest.{FieldTest}
use Rattle.plane_spec.specs.Entries.{hits, beats, best, all_pass}
use Rattle.plane_spec.proofs.Names.{both}
use Rattle.match_index.specs.Order.{AreInOrder}
use Rattle.match_index.specs.Bins.{at}
use Rattle.match_index.specs.declared.cuts.Cut.{Cut}
use Rattle.match_index.specs.Cuts.{has_cuts, key_print, name_print}
use Rattle.match_index.specs.Scan.{entry_at, wins, better, better_at, best_in, best_of_shape, best_of_shapes}
use Rattle.match_index.specs.declared.shapes.Shape.{Shape}
use Rattle.match_index.specs.Shapes.{shape_of, numbers_in, has_number, has_row}
use Rattle.match_index.proofs.Among.{Among, of_each, found_among, find_none, find_only, among_filter, of_filter, any_among, none_any, any_none}
use Rattle.match_index.proofs.Fingerprints.{key_has_print, cuts_are}
use Rattle.match_index.proofs.Ordered.{equal, one_number, at_number}
use Rattle.match_index.proofs.Ranks.{beats_ranks, one_beats_other}

beats_not_itself : (entry : Entry) (b : Bool) → beats entry entry ≡ b → b ≡ false
beats_not_itself entry true h = let e = beats_ranks.one_way entry entry h in cc
beats_not_itself entry false h = refl

clash : (b : Bool) → b ≡ true → b ≡ false → ⊥
clash b h k = cc

not_true : (b : Bool) → not b ≡ true → b ≡ false
not_true true h = cc
not_true false h = refl

same_number : (a b : Entry) → beats a b ≡ false → beats b a ≡ false → (a.seq ≡ b.seq) ⊎ (a.seq ≡ b.seq → ⊥) → a.seq ≡ b.seq
same_number a b h k (inl same) = same
same_number a b h k (inr differ) = absurd (clash (beats b a) (one_beats_other a b differ h) k)

equal_ranks : (a b : Entry) → beats a b ≡ false → beats b a ≡ false → a.seq ≡ b.seq
equal_ranks a b h k = same_number a b h k (cases_eq a.seq b.seq)

loses_by : (a b : Bool) → (a && b) ≡ false → a ≡ true → b ≡ false
loses_by true b h k = h
loses_by false b h k = cc

seen_with : (Seen : ℕ → Type 0) (seq s : ℕ) (seqs : List ℕ) (b : Bool) → eqb seq s ≡ b → Seen s ⊎ ((b || has_number s seqs) ≡ true) → (Seen s ⊎ (s ≡ seq)) ⊎ (has_number s seqs ≡ true)
seen_with Seen seq s seqs b h (inl before) = inl (inl before)
seen_with Seen seq s seqs true h (inr here) = inl (inr (sym (equal seq s h)))
seen_with Seen seq s seqs false h (inr here) = inr here

module _ (table : ℕ) (key : List ℕ) (entries : List Entry) where
  -- no entry that is hit and of a number that was seen beats the best so far, which is one that is hit
  abbrev Leads : (ℕ → Type 0) → Option Entry → Type 0
  Leads Seen None = (entry : Entry) → Among entries entry → hits table key entry ≡ true → Seen entry.seq → ⊥
  Leads Seen (Some lead) = Among entries lead × (hits table key lead ≡ true) × ((entry : Entry) → Among entries entry → hits table key entry ≡ true → Seen entry.seq → beats entry lead ≡ false)

  leads_less : (Seen Less : ℕ → Type 0) → ((seq : ℕ) → Less seq → Seen seq) → (lead : Option Entry) → Leads Seen lead → Leads Less lead
  leads_less Seen Less less None leads = λ entry among hit seen. leads entry among hit (less entry.seq seen)
  leads_less Seen Less less (Some lead) leads = (leads.0, leads.1, λ entry among hit seen. leads.2 entry among hit (less entry.seq seen))

  -- one more is seen, and has no entry
  nothing_new : (Seen : ℕ → Type 0) (seq : ℕ) → AreInOrder entries → entry_at entries seq ≡ None → (lead : Option Entry) → Leads Seen lead → Leads (λ s. Seen s ⊎ (s ≡ seq)) lead
  nothing_new Seen seq order none None leads = λ entry among hit seen. elim seen [
    | inl before ↦ leads entry among hit before
    | inr now ↦ let found : Some entry ≡ None = sym (at_number entries entry seq order among now) ∙ none in absurd (let c : ⊥ = cc in c)
  ]
  nothing_new Seen seq order none (Some lead) leads = (
    leads.0,
    leads.1,
    λ entry among hit seen. elim seen [
      | inl before ↦ leads.2 entry among hit before
      | inr now ↦ let found : Some entry ≡ None = sym (at_number entries entry seq order among now) ∙ none in absurd (let c : ⊥ = cc in c)
    ],
  )

  -- one more is seen, whose entry takes the lead
  takes_first : (Seen : ℕ → Type 0) (seq : ℕ) (x : Entry) → Among entries x → hits table key x ≡ true → ((entry : Entry) → Among entries entry → entry.seq ≡ seq → entry ≡ x) → Leads Seen None → Leads (λ s. Seen s ⊎ (s ≡ seq)) (Some x)
  takes_first Seen seq x in_x hit_x one leads = (
    in_x,
    hit_x,
    λ entry among hit seen. elim seen [
      | inl before ↦ absurd (leads entry among hit before)
      | inr now ↦ subst (λ (e : Entry). beats e x ≡ false) (sym (one entry among now)) (beats_not_itself x _ refl)
    ],
  )

  takes_over : (Seen : ℕ → Type 0) (seq : ℕ) (x lead : Entry) → Among entries x → hits table key x ≡ true → beats x lead ≡ true → ((entry : Entry) → Among entries entry → entry.seq ≡ seq → entry ≡ x) → Leads Seen (Some lead)
      → Leads (λ s. Seen s ⊎ (s ≡ seq)) (Some x)
  takes_over Seen seq x lead in_x hit_x wins_x one leads = (
    in_x,
    hit_x,
    λ entry among hit seen. elim seen [
      | inl before ↦ beats_ranks.chain entry lead x (leads.2 entry among hit before) (beats_ranks.one_way x lead wins_x)
      | inr now ↦ subst (λ (e : Entry). beats e x ≡ false) (sym (one entry among now)) (beats_not_itself x _ refl)
    ],
  )

  -- one more is seen, whose entry is not hit
  stays_none : (Seen : ℕ → Type 0) (seq : ℕ) (x : Entry) → hits table key x ≡ false → ((entry : Entry) → Among entries entry → entry.seq ≡ seq → entry ≡ x) → Leads Seen None → Leads (λ s. Seen s ⊎ (s ≡ seq)) None
  stays_none Seen seq x miss one leads = λ entry among hit seen. elim seen [
    | inl before ↦ leads entry among hit before
    | inr now ↦ clash (hits table key x) (subst (λ (e : Entry). hits table key e ≡ true) (one entry among now) hit) miss
  ]

  -- one more is seen, whose entry is not hit or does not beat the lead
  stays_lead : (Seen : ℕ → Type 0) (seq : ℕ) (x lead : Entry) → (hits table key x ≡ true → beats x lead ≡ false) → ((entry : Entry) → Among entries entry → entry.seq ≡ seq → entry ≡ x) → Leads Seen (Some lead) → Leads (λ s. Seen s ⊎ (s ≡ seq)) (Some lead)
  stays_lead Seen seq x lead loses one leads = (
    leads.0,
    leads.1,
    λ entry among hit seen. elim seen [
      | inl before ↦ leads.2 entry among hit before
      | inr now ↦ let same : entry ≡ x = one entry among now in subst (λ (e : Entry). beats e lead ≡ false) (sym same) (loses (subst (λ (e : Entry). hits table key e ≡ true) same hit))
    ],
  )

  chosen : (b : Bool) (Seen : ℕ → Type 0) (seq : ℕ) (x : Entry) (lead : Option Entry) → wins table key x lead ≡ b → Among entries x → ((entry : Entry) → Among entries entry → entry.seq ≡ seq → entry ≡ x) → Leads Seen lead
      → Leads (λ s. Seen s ⊎ (s ≡ seq)) (cond b (Some x) lead)
  chosen true Seen seq x None h in_x one leads = takes_first Seen seq x in_x h one leads
  chosen false Seen seq x None h in_x one leads = stays_none Seen seq x h one leads
  chosen true Seen seq x (Some lead) h in_x one leads = let p = both (hits table key x) (beats x lead) h in takes_over Seen seq x lead in_x p.0 p.1 one leads
  chosen false Seen seq x (Some lead) h in_x one leads = stays_lead Seen seq x lead (loses_by (hits table key x) (beats x lead) h) one leads

  leads_at : (Seen : ℕ → Type 0) (seq : ℕ) → AreInOrder entries → (found lead : Option Entry) → entry_at entries seq ≡ found → Leads Seen lead → Leads (λ s. Seen s ⊎ (s ≡ seq)) (better table key lead found)
  leads_at Seen seq order None lead is leads = nothing_new Seen seq order is lead leads
  leads_at Seen seq order (Some x) lead is leads =
      let r = found_among (λ (e : Entry). eqb e.seq seq) entries x is in
      chosen (wins table key x lead) Seen seq x lead refl r.0 (λ entry among now. one_number entries entry x order among r.0 (now ∙ sym (equal x.seq seq r.1))) leads

  -- the numbers of a list are seen
  leads_in : (seqs : List ℕ) (Seen : ℕ → Type 0) (lead : Option Entry) → AreInOrder entries → Leads Seen lead → Leads (λ s. Seen s ⊎ (has_number s seqs ≡ true)) (best_in table key entries lead seqs)
  leads_in [] Seen lead order leads = leads_less Seen (λ s. Seen s ⊎ (false ≡ true)) (λ s seen. elim seen [
    | inl before ↦ before
    | inr never ↦ absurd (clash true refl (sym never))
  ]) lead leads
  leads_in (seq ∷ seqs) Seen lead order leads =
      leads_less (λ s. (Seen s ⊎ (s ≡ seq)) ⊎ (has_number s seqs ≡ true)) (λ s. Seen s ⊎ (has_number s (seq ∷ seqs) ≡ true)) (λ s seen. seen_with Seen seq s seqs (eqb seq s) refl seen)
      (best_in table key entries (better_at table key entries lead seq) seqs)
      (leads_in seqs (λ s. Seen s ⊎ (s ≡ seq)) (better_at table key entries lead seq) order (leads_at Seen seq order (entry_at entries seq) lead refl leads))

  -- the numbers that a shape offers for the key
  abbrev offered_by : Shape → List ℕ
  offered_by shape = at shape.bins (key_print shape.cuts.items key)

  abbrev offered : List Shape → ℕ → Bool
  offered shapes seq = list_any (λ shape. has_number seq (offered_by shape)) shapes

  in_either : (Seen : ℕ → Type 0) (seq : ℕ) (a b : Bool) → Seen seq ⊎ ((a || b) ≡ true) → (Seen seq ⊎ (a ≡ true)) ⊎ (b ≡ true)
  in_either Seen seq a b (inl before) = inl (inl before)
  in_either Seen seq true b (inr here) = inl (inr refl)
  in_either Seen seq false b (inr here) = inr here

  leads_of : (shapes : List Shape) (Seen : ℕ → Type 0) (lead : Option Entry) → AreInOrder entries → Leads Seen lead → Leads (λ s. Seen s ⊎ (offered shapes s ≡ true)) (fold (best_of_shape table key entries) lead shapes)
  leads_of [] Seen lead order leads = leads_less Seen (λ s. Seen s ⊎ (false ≡ true)) (λ s seen. elim seen [
    | inl before ↦ before
    | inr never ↦ absurd (clash true refl (sym never))
  ]) lead leads
  leads_of (shape ∷ shapes) Seen lead order leads =
      leads_less (λ s. (Seen s ⊎ (has_number s (offered_by shape) ≡ true)) ⊎ (offered shapes s ≡ true)) (λ s. Seen s ⊎ (offered (shape ∷ shapes) s ≡ true))
      (λ s seen. in_either Seen s (has_number s (offered_by shape)) (offered shapes s) seen)
      (fold (best_of_shape table key entries) (best_of_shape table key entries lead shape) shapes)
      (leads_of shapes (λ s. Seen s ⊎ (has_number s (offered_by shape) ≡ true)) (best_of_shape table key entries lead shape) order (leads_in (offered_by shape) Seen lead order leads))

  -- a row of an entry that is hit is offered
  row_offered : (shapes : List Shape) (tests : List FieldTest) (seq : ℕ) (found : Option Shape) → shape_of shapes tests ≡ found → has_number seq (numbers_in found tests) ≡ true → all_pass tests key ≡ true → offered shapes seq ≡ true
  row_offered shapes tests seq None is row pass = absurd (clash false row refl)
  row_offered shapes tests seq (Some shape) is row pass =
      let r = found_among (λ (s : Shape). has_cuts s.cuts.items tests) shapes shape is in
      let print : key_print shape.cuts.items key ≡ name_print tests = ap (λ (cuts : List Cut). key_print cuts key) (cuts_are shape.cuts.items tests r.1) ∙ key_has_print 0 tests key pass in
      any_among (λ (s : Shape). has_number seq (offered_by s)) shapes shape r.0 (subst (λ (n : ℕ). has_number seq (at shape.bins n) ≡ true) (sym print) row)

  leads_all : (Seen : ℕ → Type 0) (lead : Option Entry) → ((entry : Entry) → Among entries entry → hits table key entry ≡ true → Seen entry.seq) → Leads Seen lead → Leads (λ s. Unit {0}) lead
  leads_all Seen None all leads = λ entry among hit seen. leads entry among hit (all entry among hit)
  leads_all Seen (Some lead) all leads = (leads.0, leads.1, λ entry among hit seen. leads.2 entry among hit (all entry among hit))

  -- what leads when all are seen is the best
  best_leads : (lead : Option Entry) → AreInOrder entries → Leads (λ s. Unit {0}) lead → lead ≡ best table key entries
  unfolding best
  best_leads None order leads =
      sym (find_none (λ (entry : Entry). not (list_any (λ other. beats other entry) (filter (hits table key) entries))) (filter (hits table key) entries)
      (λ entry among. let r = of_filter (hits table key) entries entry among in absurd (leads entry r.0 r.1 tt)))
  best_leads (Some lead) order leads =
      sym (find_only (λ (entry : Entry). not (list_any (λ other. beats other entry) (filter (hits table key) entries))) (filter (hits table key) entries) lead
      (among_filter (hits table key) entries lead leads.0 leads.1)
      (ap (λ (b : Bool). not b) (none_any (λ (other : Entry). beats other lead) (filter (hits table key) entries) (λ other among. let r = of_filter (hits table key) entries other among in leads.2 other r.0 r.1 tt)))
      (λ y among unbeaten.
      let r = of_filter (hits table key) entries y among in
      let not_beaten : beats lead y ≡ false = any_none (λ (other : Entry). beats other y) (filter (hits table key) entries) (not_true _ unbeaten) lead (among_filter (hits table key) entries lead leads.0 leads.1) in
      one_number entries y lead order r.0 leads.0 (equal_ranks y lead (leads.2 y r.0 r.1 tt) not_beaten)))

  pub found_by_key : (shapes : List Shape) → AreInOrder entries → AllByRecursion (λ entry. has_row shapes entry.name.tests entry.seq ≡ true) entries → best_of_shapes table key entries shapes ≡ best table key entries
  found_by_key shapes order covered =
      best_leads (best_of_shapes table key entries shapes) order
      (leads_all (λ s. ⊥ ⊎ (offered shapes s ≡ true)) (best_of_shapes table key entries shapes)
      (λ entry among hit. inr (row_offered shapes entry.name.tests entry.seq (shape_of shapes entry.name.tests) refl (of_each (λ (e : Entry). has_row shapes e.name.tests e.seq ≡ true) entries entry covered among) (both _ _ hit).1))
      (leads_of shapes (λ s. ⊥) None order (λ entry among hit never. never)))
