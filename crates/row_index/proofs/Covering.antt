-- The best so far, and what it covers.
use Rattle.std.proofs.Common.{◌≡◌, ℕ, ◌≤◌, ◌∙◌, Bool, true, false, ◌&&◌, ◌==◌, List, Option, Some, None, refl, sym, ap, subst}
use Rattle.std.specs.Prelude.{slice_get, int_lt}
use Rattle.std.specs.Option.{IsSomeAnd, option_map}
use Rattle.std.proofs.lemmas.Option.{same_Some}
use Rattle.p4_types.specs.declared.table.Entry.{Entry}
use Rattle.p4_types.specs.declared.table.EntryName.{EntryName}
use Rattle.plane_spec.specs.Entries.{hits, all_pass, prefix_length}
use Rattle.plane_spec.proofs.Names.{both}
use Rattle.row_index.specs.declared.asks.Ask.{Ask}
use Rattle.row_index.specs.declared.found.Found.{Found}
use Rattle.row_index.specs.declared.placed.Placed.{Placed}
use Rattle.row_index.specs.declared.shapes.Shape.{Shape}
use Rattle.row_index.specs.Best.{takes_lead, wins_over, beats_found, may_win, IsOf, IsHit, IsCovered}
use Rattle.row_index.specs.Cuts.{key_print_from, name_print_from}
use Rattle.row_index.specs.Index.{LeadsTo, LeadsToRow}
use Rattle.row_index.specs.Places.{Buckets, place_at}
use Rattle.row_index.specs.Search.{IsSearchable, IsOffered, IsOfShape}
use Rattle.row_index.specs.Shapes.{Fits, FitsAt}
use Rattle.row_index.proofs.Fingerprints.{key_has_print}
use Rattle.row_index.proofs.Ranks.{wins_one_way, wins_not_itself, wins_chain, bounded}

clash : (b : Bool) → b ≡ true → b ≡ false → ⊥
clash b h k = cc

-- the row of which a name was read
pub read : (there : Option Entry) (name : EntryName) (entry : Entry) → option_map (λ e. e.name) there ≡ Some name → there ≡ Some entry → entry.name ≡ name
read there name entry h e = same_Some entry.name name (sym (ap (option_map (λ (e : Entry). e.name)) e) ∙ h)

read_seq : (there : Option Entry) (seq : ℕ) (entry : Entry) → option_map (λ e. e.seq) there ≡ Some seq → there ≡ Some entry → entry.seq ≡ seq
read_seq there seq entry h e = same_Some entry.seq seq (sym (ap (option_map (λ (e : Entry). e.seq)) e) ∙ h)

is_there : (there : Option Entry) (name : EntryName) → option_map (λ e. e.name) there ≡ Some name → (entry : Entry) × (there ≡ Some entry)
is_there None name h = cc
is_there (Some entry) name h = (entry, refl)

-- a row of that name is hit
abbrev pub names_hit : ℕ → List ℕ → EntryName → Bool
names_hit table key name = (name.table == table) && all_pass name.tests key

module _ (rows : ℕ → Option Entry) (table : ℕ) (key : List ℕ) (place : ℕ) (name : EntryName) (named : option_map (λ e. e.name) (rows place) ≡ Some name) where
  -- a row that is not hit is covered by anything
  pub not_hit : names_hit table key name ≡ false → (best : Option Found) → IsCovered rows table key best place
  not_hit missed best entry e hit = absurd (clash (names_hit table key name) (subst (λ (n : EntryName). names_hit table key n ≡ true) (read (rows place) name entry named e) hit) missed)

  module _ (seq : ℕ) (numbered : option_map (λ e. e.seq) (rows place) ≡ Some seq) (candidate : Found) (is : candidate ≡ record { place = place; priority = name.priority; length = prefix_length name.tests; seq = seq }) where
    is_of : (entry : Entry) → rows place ≡ Some entry → IsOf entry candidate
    is_of entry e =
        let same = read (rows place) name entry named e in
        record {
          priority = ap (λ (f : Found). f.priority) is ∙ ap (λ (n : EntryName). n.priority) (sym same);
          length = ap (λ (f : Found). f.length) is ∙ ap (λ (n : EntryName). prefix_length n.tests) (sym same);
          seq = ap (λ (f : Found). f.seq) is ∙ sym (read_seq (rows place) seq entry numbered e);
        }

    hit_there : (there : Option Entry) → there ≡ rows place → names_hit table key name ≡ true → IsSomeAnd there (λ entry. (hits table key entry ≡ true) × IsOf entry candidate)
    hit_there None e hit = let some = is_there (rows place) name named in let never : None ≡ Some some.0 = e ∙ some.1 in cc
    hit_there (Some entry) e hit = (subst (λ (n : EntryName). names_hit table key n ≡ true) (sym (read (rows place) name entry named (sym e))) hit, is_of entry (sym e))

    -- what was found is a row that is hit
    pub candidate_hit : names_hit table key name ≡ true → IsHit rows table key candidate
    candidate_hit hit =
        subst (λ n. IsSomeAnd (rows n) (λ entry. (hits table key entry ≡ true) × IsOf entry candidate)) (sym (ap (λ (f : Found). f.place) is)) (hit_there (rows place) refl hit)

    ranks : (entry : Entry) (found : Found) → rows place ≡ Some entry → beats_found entry found ≡ wins_over candidate found
    ranks entry found e =
        let of = is_of entry e in
        rw (of.priority, of.length, of.seq) refl

    pub candidate_covers : IsCovered rows table key (Some candidate) place
    candidate_covers entry e hit = ranks entry candidate e ∙ wins_not_itself candidate.priority candidate.length candidate.seq

    pub found_covers : (found : Found) → wins_over candidate found ≡ false → IsCovered rows table key (Some found) place
    found_covers found loses entry e hit = ranks entry found e ∙ loses

    -- a row that does not take the lead is covered by the best so far
    pub rest_covers : (best : Option Found) → takes_lead candidate best ≡ false → IsCovered rows table key best place
    rest_covers None loses = cc
    rest_covers (Some found) loses = found_covers found loses

-- what the best so far covers, one that wins over it covers
pub winner_covers : (rows : ℕ → Option Entry) (table : ℕ) (key : List ℕ) (candidate found : Found) (other : ℕ) → wins_over candidate found ≡ true → IsCovered rows table key (Some found) other → IsCovered rows table key (Some candidate) other
winner_covers rows table key candidate found other won covered entry e hit =
    wins_chain entry.name.priority found.priority candidate.priority (prefix_length entry.name.tests) found.length candidate.length entry.seq found.seq candidate.seq (covered entry e hit)
    (wins_one_way candidate.priority found.priority candidate.length found.length candidate.seq found.seq won)

pub none_covers : (rows : ℕ → Option Entry) (table : ℕ) (key : List ℕ) (best : Option Found) (other : ℕ) → IsCovered rows table key None other → IsCovered rows table key best other
none_covers rows table key best other covered entry e hit = absurd (covered entry e hit)

-- what the best so far covers, one that takes the lead covers
pub lead_covers : (rows : ℕ → Option Entry) (table : ℕ) (key : List ℕ) (candidate : Found) (best : Option Found) (other : ℕ) → takes_lead candidate best ≡ true → IsCovered rows table key best other → IsCovered rows table key (Some candidate) other
lead_covers rows table key candidate None other won covered = none_covers rows table key (Some candidate) other covered
lead_covers rows table key candidate (Some found) other won covered = winner_covers rows table key candidate found other won covered

-- a row within the bounds of an ask that cannot win does not win
pub ask_covers : (entry : Entry) (ask : Ask) (best : Option Found) → int_lt ask.priority entry.name.priority ≡ false → prefix_length entry.name.tests ≤ ask.length → may_win ask best ≡ false → IsSomeAnd best (λ found. beats_found entry found ≡ false)
ask_covers entry ask None priority prefix loses = cc
ask_covers entry ask (Some found) priority prefix loses =
    bounded entry.name.priority ask.priority found.priority (prefix_length entry.name.tests) ask.length found.length entry.seq found.seq priority prefix loses

pub leads_there : (shapes : List Shape) (placed : Placed) (there : Option Entry) (entry : Entry) → there ≡ Some entry → LeadsToRow shapes placed there → LeadsTo shapes placed entry.name
leads_there shapes placed there entry e h = rw e at h

pub of_some : (o : Option Shape) (P : Shape → Type 0) (shape : Shape) → o ≡ Some shape → IsSomeAnd o P → P shape
of_some o P shape e h = rw e at h

-- a row of a shape that the key hits is offered under the key's fingerprint
pub hit_offered : (chains : Buckets) (shapes : List Shape) (asks : List Ask) (rows : ℕ → Option Entry) (table : ℕ) (key : List ℕ) (place number print : ℕ) (shape : Shape) (entry : Entry) → IsSearchable chains shapes asks rows → slice_get shapes number ≡ Some shape
    → print ≡ key_print_from number shape.tests key → IsOfShape chains.places number place → rows place ≡ Some entry → hits table key entry ≡ true → IsOffered chains.places number print place
hit_offered chains shapes asks rows table key place number print shape entry searchable at is there e hit = offered (place_at chains.places place) (searchable.leads place) there
  where
    offered : (there : Option Placed) → ((placed : Placed) → there ≡ Some placed → LeadsToRow shapes placed (rows place)) → IsSomeAnd there (λ placed. placed.shape ≡ number)
        → IsSomeAnd there (λ placed. (placed.shape ≡ number) × (placed.print ≡ print))
    offered None leads h = absurd h
    offered (Some placed) leads h =
        let to = leads_there shapes placed (rows place) entry e (leads placed refl) in
        let fits = of_some (slice_get shapes number) (Fits entry.name) shape at (subst (λ n. FitsAt shapes n entry.name) h to.shape) in
        let same : placed.print ≡ name_print_from number entry.name.tests = subst (λ n. placed.print ≡ name_print_from n entry.name.tests) h to.print in
        (h, same ∙ sym (key_has_print number shape.tests entry.name.tests key fits.cuts (both _ _ hit).1) ∙ sym is)
