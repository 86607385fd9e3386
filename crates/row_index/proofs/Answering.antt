-- What was asked of the shapes answers for all linked rows.
use Rattle.std.proofs.Common.{◌≡◌, ◌≢◌, ℕ, ◌<◌, ◌≤◌, ℤ, inl, inr, ◌∙◌, Bool, true, false, ◌&&◌, ◌||◌, not, List, length, get_or, Option, Some, None, refl, sym, ap, subst, arith}
use Rattle.std.specs.Prelude.{is_some, slice_get, int_lt, nat_lt, if◌then◌else◌, IfSome, IfNone}
use Rattle.std.specs.Option.{IsSomeAnd, IsSome}
use Rattle.std.specs.Ordering.{int_eq}
use Rattle.std.proofs.lemmas.Bool.{cases_lt, eqb-true}
use Rattle.std.proofs.lemmas.Bool.Decides.{nat_tests}
use Rattle.std.proofs.lemmas.Int.{ints}
use Rattle.std.proofs.lemmas.Option.{slice_get_within, slice_get_read, get_or_from_slice_get}
use Rattle.p4_types.specs.declared.table.Entry.{Entry}
use Rattle.p4_types.specs.declared.table.EntryName.{EntryName}
use Rattle.plane_spec.specs.Entries.{hits, beats, prefix_length, same_name}
use Rattle.plane_spec.proofs.Names.{both}
use Rattle.row_index.specs.declared.asks.Ask.{Ask}
use Rattle.row_index.specs.declared.found.Found.{Found}
use Rattle.row_index.specs.declared.placed.Placed.{Placed}
use Rattle.row_index.specs.declared.shapes.Shape.{Shape}
use Rattle.row_index.specs.Asks.{is_before, IsAround}
use Rattle.row_index.specs.Best.{may_win, beats_found, IsHit, IsCovered, IsBest, IsUnbeaten, IsNamed, IsOf}
use Rattle.row_index.specs.Places.{Buckets, place_at}
use Rattle.row_index.specs.Search.{IsSearchable, IsOfShape, IsNamedAt, IsOther}
use Rattle.row_index.specs.Shapes.{count_in, ask_of, Fits}
use Rattle.row_index.proofs.Asking.{AreOrdered, no_later, tables_rise}
use Rattle.row_index.proofs.Counting.{count_positive}
use Rattle.row_index.proofs.Covering.{ask_covers, leads_there}

-- the ask of a row's shape
pub record AskOfRow (asks : List Ask) (places : List (Option Placed)) (place : ℕ) (entry : Entry) : Type 0 where
  pub at : ℕ
  pub ask : Ask
  pub stands : slice_get asks at ≡ Some ask
  pub shape : IsOfShape places ask.shape place
  pub table : ask.table ≡ entry.name.table
  pub priority : int_lt ask.priority entry.name.priority ≡ false
  pub prefix : prefix_length entry.name.tests ≤ ask.length

module _ (chains : Buckets) (shapes : List Shape) (asks : List Ask) (rows : ℕ → Option Entry) (searchable : IsSearchable chains shapes asks rows) where
  of_shape : (place : ℕ) (entry : Entry) (placed : Placed) (shape : Shape) → place_at chains.places place ≡ Some placed → slice_get shapes placed.shape ≡ Some shape → Fits entry.name shape → AskOfRow asks chains.places place entry
  of_shape place entry placed shape there at fits =
      let positive = count_positive chains.places place placed there in
      let counted = searchable.counted placed.shape in
      let count = ap count_in at in
      let has = searchable.asked.asked placed.shape shape at (omega (arith, positive, counted, count)) in
      record {
        at = has.0;
        ask = ask_of placed.shape shape;
        stands = slice_get_read asks (length asks) has.0 (ask_of placed.shape shape) refl has.1 (sym has.2);
        shape = subst (λ (o : Option Placed). IsSomeAnd o (λ (p : Placed). p.shape ≡ placed.shape)) (sym there) refl;
        table = fits.table;
        priority = fits.priority;
        prefix = fits.prefix;
      }

  of_fit : (place : ℕ) (entry : Entry) (placed : Placed) (o : Option Shape) → place_at chains.places place ≡ Some placed → slice_get shapes placed.shape ≡ o → IsSomeAnd o (Fits entry.name) → AskOfRow asks chains.places place entry
  of_fit place entry placed None there at fits = absurd fits
  of_fit place entry placed (Some shape) there at fits = of_shape place entry placed shape there at fits

  of_there : (place : ℕ) (entry : Entry) (o : Option Placed) → place_at chains.places place ≡ o → IsSome o → rows place ≡ Some entry → AskOfRow asks chains.places place entry
  of_there place entry None there some e = cc
  of_there place entry (Some placed) there some e =
      let to = leads_there shapes placed (rows place) entry e (searchable.leads place placed there) in
      of_fit place entry placed (slice_get shapes placed.shape) there refl to.shape

  pub ask_of_row : (place : ℕ) (entry : Entry) → IsSome (place_at chains.places place) → rows place ≡ Some entry → AskOfRow asks chains.places place entry
  ask_of_row place entry some e = of_there place entry (place_at chains.places place) refl some e

ask_read : (asks : List Ask) (k : ℕ) (ask d : Ask) → slice_get asks k ≡ Some ask → get_or asks k d ≡ ask
ask_read asks k ask d e = get_or_from_slice_get asks k ask d e

-- an ask of the table does not stand before its first
pub not_before_first : (asks : List Ask) (table start k : ℕ) (ask : Ask) → IsAround asks table start start → slice_get asks k ≡ Some ask → ask.table ≡ table → start ≤ k
not_before_first asks table start k ask around stands is = elim (cases_lt k start) [
  | inl lt ↦ let less = subst (λ (a : Ask). a.table < table) (ask_read asks k ask ask stands) (around.below k ask lt) in absurd (omega (arith, less, is))
  | inr le ↦ le
]

-- from an ask of another table on, no ask is of the table
pub another_table : (asks : List Ask) (table start i k : ℕ) (ask other : Ask) → AreOrdered asks → IsAround asks table start start → start ≤ i → slice_get asks i ≡ Some ask → ask.table ≢ table → i ≤ k → slice_get asks k ≡ Some other → other.table ≡ table → ⊥
another_table asks table start i k ask other order around le stands differs after there is =
    let lt = slice_get_within asks i ask stands in
    let least = subst (λ (a : Ask). table ≤ a.table) (ask_read asks i ask ask stands) (around.above i ask le lt) in
    let up = tables_rise asks i k ask order after (slice_get_within asks k other there) in
    let here = ap (λ (a : Ask). a.table) (ask_read asks i ask ask stands) in
    let behind = ap (λ (a : Ask). a.table) (ask_read asks k other ask there) in
    differs (omega (arith, least, up, here, behind, is))

no_more : (t : ℕ) (p q r : ℤ) (l m n : ℕ) → (if nat_lt t t then true else if nat_lt t t then false else if int_lt p q then true else if int_lt q p then false else nat_lt l m) ≡ false
    → (int_lt r p || (int_eq p r && not (nat_lt l n))) ≡ false → (int_lt r q || (int_eq q r && not (nat_lt m n))) ≡ false
no_more t p q r l m n h k = grind (arith, ints, nat_tests)

-- what is asked later of the table cannot win where an earlier one cannot
pub later_loses : (a b : Ask) (best : Option Found) → is_before b a ≡ false → a.table ≡ b.table → may_win a best ≡ false → may_win b best ≡ false
later_loses a b None order same loses = cc
later_loses a b (Some found) order same loses =
    no_more b.table a.priority b.priority found.priority a.length b.length found.length
    (subst (λ n. (if nat_lt b.table n then true else if nat_lt n b.table then false else if int_lt a.priority b.priority then true else if int_lt b.priority a.priority then false else nat_lt a.length b.length) ≡ false) same order)
    loses

pub later_loses_at : (asks : List Ask) (i k : ℕ) (a b : Ask) (best : Option Found) → AreOrdered asks → slice_get asks i ≡ Some a → slice_get asks k ≡ Some b → i ≤ k → a.table ≡ b.table → may_win a best ≡ false → may_win b best ≡ false
later_loses_at asks i k a b best order at there le same loses =
    let later = no_later asks i k a order le (slice_get_within asks k b there) in
    let first = subst (λ (x : Ask). is_before x (get_or asks i a) ≡ false) (ask_read asks k b a there) later in
    later_loses a b best (subst (λ (x : Ask). is_before b x ≡ false) (ask_read asks i a a at) first) same loses

-- The shapes of the table were asked up to a place, and those behind it cannot win.
pub all_covered : (chains : Buckets) (shapes : List Shape) (asks : List Ask) (rows : ℕ → Option Entry) (table : ℕ) (key : List ℕ) (start stop : ℕ) (best : Option Found) → IsSearchable chains shapes asks rows → IsAround asks table start start
    → ((k : ℕ) (ask : Ask) → start ≤ k → k < stop → slice_get asks k ≡ Some ask → (other : ℕ) → IsOfShape chains.places ask.shape other → IsCovered rows table key best other)
    → ((k : ℕ) (ask : Ask) → stop ≤ k → slice_get asks k ≡ Some ask → ask.table ≡ table → may_win ask best ≡ false)
    → (other : ℕ) → IsSome (place_at chains.places other) → IsCovered rows table key best other
all_covered chains shapes asks rows table key start stop best searchable around covered rest other some entry e hit =
    let row = ask_of_row chains shapes asks rows searchable other entry some e in
    let of_table : row.ask.table ≡ table = row.table ∙ eqb-true entry.name.table table (both _ _ hit).0 in
    let le = not_before_first asks table start row.at row.ask around row.stands of_table in
    elim (cases_lt row.at stop) [
      | inl lt ↦ covered row.at row.ask le lt row.stands other row.shape entry e hit
      | inr after ↦ ask_covers entry row.ask best row.priority row.prefix (rest row.at row.ask after row.stands of_table)
    ]

-- The shapes of the name's table were asked up to a place, and behind it are none.
pub all_other : (chains : Buckets) (shapes : List Shape) (asks : List Ask) (rows : ℕ → Option Entry) (name : EntryName) (start stop : ℕ) → IsSearchable chains shapes asks rows → IsAround asks name.table start start
    → ((k : ℕ) (ask : Ask) → start ≤ k → k < stop → slice_get asks k ≡ Some ask → (other : ℕ) → IsOfShape chains.places ask.shape other → IsOther rows name other)
    → ((k : ℕ) (ask : Ask) → stop ≤ k → slice_get asks k ≡ Some ask → ask.table ≡ name.table → ⊥)
    → (other : ℕ) → IsSome (place_at chains.places other) → IsOther rows name other
all_other chains shapes asks rows name start stop searchable around covered rest other some entry e = decided (same_name name entry.name) refl
  where
    decided : (b : Bool) → same_name name entry.name ≡ b → same_name name entry.name ≡ false
    decided false h = h
    decided true h =
        let row = ask_of_row chains shapes asks rows searchable other entry some e in
        let of_table : row.ask.table ≡ name.table = row.table ∙ sym (eqb-true name.table entry.name.table (both _ _ (both _ _ h).0).0) in
        let le = not_before_first asks name.table start row.at row.ask around row.stands of_table in
        elim (cases_lt row.at stop) [
          | inl lt ↦ covered row.at row.ask le lt row.stands other row.shape entry e
          | inr after ↦ absurd (rest row.at row.ask after row.stands of_table)
        ]

hit_best : (entry : Entry) (other : Entry) (found : Found) → IsOf entry found → beats_found other found ≡ false → beats other entry ≡ false
hit_best entry other found of loses = rw (← of.priority, ← of.length, ← of.seq) loses

best_there : (places : List (Option Placed)) (rows : ℕ → Option Entry) (table : ℕ) (key : List ℕ) (found : Found) (there : Option Entry) → IsSomeAnd there (λ entry. (hits table key entry ≡ true) × IsOf entry found)
    → ((other : ℕ) → IsSome (place_at places other) → IsCovered rows table key (Some found) other) → IsSomeAnd there (λ entry. (hits table key entry ≡ true) × IsUnbeaten (λ place. is_some (place_at places place)) rows table key entry)
best_there places rows table key found None hit covered = absurd hit
best_there places rows table key found (Some entry) hit covered = (hit.0, λ place other linked e other_hit. hit_best entry other found hit.1 (covered place linked other e other_hit))

-- what was found is the best of all linked rows
pub best_some : (places : List (Option Placed)) (rows : ℕ → Option Entry) (table : ℕ) (key : List ℕ) (found : Found) → IsHit rows table key found → is_some (place_at places found.place) ≡ true
    → ((other : ℕ) → IsSome (place_at places other) → IsCovered rows table key (Some found) other) → IsBest (λ place. is_some (place_at places place)) rows table key (Some found.place)
best_some places rows table key found hit linked covered = (linked, best_there places rows table key found (rows found.place) hit covered)

no_hit : (b : Bool) → (b ≡ true → ⊥) → b ≡ false
no_hit true never = absurd (never refl)
no_hit false never = refl

pub best_none : (places : List (Option Placed)) (rows : ℕ → Option Entry) (table : ℕ) (key : List ℕ) → ((other : ℕ) → IsSome (place_at places other) → IsCovered rows table key None other) → IsBest (λ place. is_some (place_at places place)) rows table key None
best_none places rows table key covered = λ place entry linked e. no_hit (hits table key entry) (λ hit. covered place linked entry e hit)

-- what was found by a name is the row of that name
pub named_answer : (places : List (Option Placed)) (rows : ℕ → Option Entry) (name : EntryName) (found : Option ℕ) → IfSome found (IsNamedAt places rows name) → IfNone found ((other : ℕ) → IsSome (place_at places other) → IsOther rows name other)
    → IsNamed (λ place. is_some (place_at places place)) rows name found
named_answer places rows name None some none = λ place entry linked e. none place linked entry e
named_answer places rows name (Some place) some none = some
