-- A row more in an index, and a row less.
use Rattle.std.proofs.Common.{◌≡◌, ◌≢◌, ℕ, ◌+◌, ◌<◌, ◌≤◌, ◌^◌, true, false, eqb, List, [], length, set, replicate, refl, sym, ap, subst, ◌∙◌, inl, inr, if◌then◌else◌, arith}
use Rattle.std.specs.Prelude.{Option, Some, None, is_some, count_by}
use Rattle.std.specs.Option.{option_map}
use Rattle.std.proofs.Math.ListN.{length-set}
use Rattle.std.proofs.lemmas.Bool.Decides.{nat_tests}
use Rattle.std.proofs.lemmas.List.{length-replicate, get_or-set_same, get_or-set_other}
use Rattle.std.proofs.lemmas.Option.{same_Some}
use Rattle.plane_spec.proofs.Names.{itself}
use Rattle.p4_types.specs.declared.table.Entry.{Entry}
use Rattle.p4_types.specs.declared.table.EntryName.{EntryName}
use Rattle.row_index.specs.declared.asks.Ask.{Ask}
use Rattle.row_index.specs.declared.placed.Placed.{Placed}
use Rattle.row_index.specs.declared.shapes.Shape.{Shape}
use Rattle.row_index.specs.Cuts.{bucket_of, name_print_from}
use Rattle.row_index.specs.Index.{Index, is_linked, has_shape, LeadsTo, LeadsToRow, Indexes, IsRow, Links, Unlinks, IsSound}
use Rattle.row_index.specs.Places.{Buckets, place_at}
use Rattle.row_index.specs.Search.{IsSearchable}
use Rattle.row_index.specs.Shapes.{count_at, AllUsed, FitsAt, AreAsked, Joins, Leaves}
use Rattle.row_index.proofs.Threading.{nat_cases}
use Rattle.row_index.proofs.Counting.{place_within, counts_one, counts_none, counts_empty, count_set, count_positive, used_more, used_less, used_room, there_after, nothing_there, none_of_shape, none_linked, all_used, used_least, count_room}

one_here : (a b : ℕ) → a ≡ b → ◌≡◌ {A = ℕ} (if eqb a b then 1 else 0) 1
one_here a b same = subst (λ n. ◌≡◌ {A = ℕ} (if eqb a n then 1 else 0) 1) same (ap (λ t. if t then 1 else 0) (itself a))

not_equal : (a b : ℕ) → a ≢ b → eqb a b ≡ false
not_equal a b differ = grind (arith, nat_tests)

none_here : (a b : ℕ) → a ≢ b → ◌≡◌ {A = ℕ} (if eqb a b then 1 else 0) 0
none_here a b differ = ap (λ t. if t then 1 else 0) (not_equal a b differ)

module _ (old new : Buckets) (shapes fresh : List Shape) (asks more : List Ask) (room asks_room place : ℕ) (placed : Placed) (sound : IsSound old shapes asks room asks_room) (places_are : (there : Option Placed) → new.places ≡ set old.places place there → length new.places ≡ length old.places) where
  buckets_kept : (there : Option Placed) → place < length old.places → new.places ≡ set old.places place there → new.count ≡ old.count
      → ((found : Placed) → there ≡ Some found → found.bucket ≡ bucket_of old.count found.print)
      → (other : ℕ) (found : Placed) → place_at new.places other ≡ Some found → found.bucket ≡ bucket_of new.count found.print
  buckets_kept there lt places count right other found e =
      subst (λ n. found.bucket ≡ bucket_of n found.print) (sym count) (elim (there_after old.places place there other found lt (subst (λ xs. place_at xs other ≡ Some found) places e)) [
        | inl now ↦ right found now.1
        | inr was ↦ sound.buckets other found was.1
      ])

  -- a row is linked, whose shape was found or opened
  pub sound_linked : (name : EntryName) → place < length old.places → place_at old.places place ≡ None → new.places ≡ set old.places place (Some placed) → new.count ≡ old.count → placed.bucket ≡ bucket_of old.count placed.print
      → Joins shapes fresh placed.shape name → AreAsked fresh more → IsSound new fresh more room asks_room
  sound_linked name lt free places count bucket joins asked =
      let size = places_are (Some placed) places in
      record {
        some = omega (arith, count, sound.some);
        buckets = buckets_kept (Some placed) lt places count (λ found e. subst (λ (p : Placed). p.bucket ≡ bucket_of old.count p.print) (same_Some placed found e) bucket);
        counted = λ shape.
            let changed = count_set shape old.places place (Some placed) lt in
            let empty = counts_empty shape (place_at old.places place) free in
            let before = sound.counted shape in
            let now = joins.counts shape in
            rw places (elim (nat_cases shape placed.shape) [
              | inl is ↦
                  let one = counts_one shape (Some placed) placed refl (sym is) in
                  let own = one_here shape placed.shape is in
                  omega (arith, changed, empty, before, now, one, own)
              | inr ne ↦
                  let none = counts_none shape (Some placed) placed refl (λ e. ne (sym e)) in
                  let own = none_here shape placed.shape ne in
                  omega (arith, changed, empty, before, now, none, own)
            ]);
        rows = let used = used_more old.places place placed lt free in let now = joins.rows in rw places (omega (arith, used, now, sound.rows));
        asked = asked;
        few = elim joins.len [
          | inl same ↦ omega (arith, same, sound.few, size)
          | inr grown ↦
              let least = all_used shapes grown.0 in
              let free_room = used_room old.places place lt free in
              let one = grown.1 in
              omega (arith, one, least, free_room, sound.rows, size)
        ];
        small = omega (arith, sound.small, size);
        room = omega (arith, sound.room, size);
        asks_room = omega (arith, sound.asks_room, size);
      }

  -- a row is unlinked
  pub sound_unlinked : place_at old.places place ≡ Some placed → new.places ≡ set old.places place None → new.count ≡ old.count → Leaves shapes fresh placed.shape → AreAsked fresh more → IsSound new fresh more room asks_room
  sound_unlinked there places count leaves asked =
      let lt = place_within old.places place placed there in
      let size = places_are None places in
      record {
        some = omega (arith, count, sound.some);
        buckets = buckets_kept None lt places count (λ found e. cc);
        counted = λ shape.
            let changed = count_set shape old.places place None lt in
            let before = sound.counted shape in
            let now = leaves.counts shape in
            rw places (elim (nat_cases shape placed.shape) [
              | inl is ↦
                  let one = counts_one shape (place_at old.places place) placed there (sym is) in
                  let own = one_here shape placed.shape is in
                  omega (arith, changed, before, now, one, own)
              | inr ne ↦
                  let none = counts_none shape (place_at old.places place) placed there (λ e. ne (sym e)) in
                  let own = none_here shape placed.shape ne in
                  omega (arith, changed, before, now, none, own)
            ]);
        rows = let used = used_less old.places place placed there in let now = leaves.rows in rw places (omega (arith, used, now, sound.rows));
        asked = asked;
        few = let same = leaves.len in omega (arith, same, sound.few, size);
        small = omega (arith, sound.small, size);
        room = omega (arith, sound.room, size);
        asks_room = omega (arith, sound.asks_room, size);
      }

pub size_kept : (old new : Buckets) (place : ℕ) (there : Option Placed) → new.places ≡ set old.places place there → length new.places ≡ length old.places
size_kept old new place there places = ap length places ∙ length-set old.places place there

-- an index with no row
pub sound_opened : (chains : Buckets) (rows room asks_room : ℕ) (asks : List Ask) (shapes : List Shape) → 0 < chains.count → chains.places ≡ replicate rows None → shapes ≡ [] → asks ≡ [] → rows < 2 ^ 32 → rows ≤ room → rows ≤ asks_room → IsSound chains shapes asks room asks_room
sound_opened chains rows room asks_room asks shapes some none empty no_asks small has asks_have =
    let nothing : Option Placed = None in
    let size = ap length none ∙ length-replicate rows nothing in
    rw (empty, no_asks) (record {
      some = some;
      buckets = λ place placed e. absurd (nothing_there rows place placed (subst (λ xs. place_at xs place ≡ Some placed) none e));
      counted = λ shape. rw none (sym (none_of_shape shape rows));
      rows = rw none (sym (none_linked rows));
      asked = record {
        order = λ i j d lt within. absurd (omega (arith, within));
        within = λ k d lt. absurd (omega (arith, lt));
        asked = λ place shape e used. cc;
        each = refl;
      };
      few = omega arith;
      small = omega (arith, size, small);
      room = omega (arith, size, has);
      asks_room = omega (arith, size, asks_have);
    })

row_there : (shapes : List Shape) (placed : Placed) (there : Option Entry) (name : EntryName) → option_map (λ e. e.name) there ≡ Some name → LeadsTo shapes placed name → LeadsToRow shapes placed there
row_there shapes placed None name e leads = cc
row_there shapes placed (Some entry) name e leads = subst (λ (n : EntryName). LeadsTo shapes placed n) (sym (same_Some entry.name name e)) leads

leads_on : (old new : List Shape) (placed : Placed) (there : Option Entry) → ((name : EntryName) → FitsAt old placed.shape name → FitsAt new placed.shape name) → LeadsToRow old placed there → LeadsToRow new placed there
leads_on old new placed None kept leads = leads
leads_on old new placed (Some entry) kept leads = record { shape = kept entry.name leads.shape; print = leads.print }

-- a row that is linked is led to, and so are the others
pub indexes_linked : (old new : Index) (chains : Buckets) (asks : List Ask) (room asks_room place : ℕ) (placed : Placed) (name : EntryName) (rows : ℕ → Option Entry) → IsSound chains old.shapes asks room asks_room → chains.places ≡ old.places → place < length old.places
    → new.places ≡ set old.places place (Some placed) → Joins old.shapes new.shapes placed.shape name → placed.print ≡ name_print_from placed.shape name.tests → IsRow rows place name → Indexes old rows → Indexes new rows
unfolding Indexes
indexes_linked old new chains asks room asks_room place placed name rows sound same lt places joins print row indexes other found e =
    elim (there_after old.places place (Some placed) other found lt (subst (λ xs. place_at xs other ≡ Some found) places e)) [
      | inl now ↦
          let leads : LeadsTo new.shapes found name = subst (λ (p : Placed). LeadsTo new.shapes p name) (same_Some placed found now.1) (record { shape = joins.fits; print = print }) in
          row_there new.shapes found (rows other) name (subst (λ n. option_map (λ (e : Entry). e.name) (rows n) ≡ Some name) (sym now.0) row) leads
      | inr was ↦
          let positive = count_positive old.places other found was.1 in
          let counted = subst (λ xs. count_at old.shapes found.shape ≡ count_by (has_shape found.shape) xs) same (sound.counted found.shape) in
          leads_on old.shapes new.shapes found (rows other) (joins.kept found.shape (omega (arith, positive, counted))) (indexes other found was.1)
    ]

-- a row that is unlinked leaves the others led to
pub indexes_unlinked : (old new : Index) (place : ℕ) (placed : Placed) (rows : ℕ → Option Entry) → place < length old.places → new.places ≡ set old.places place None → Leaves old.shapes new.shapes placed.shape → Indexes old rows → Indexes new rows
unfolding Indexes
indexes_unlinked old new place placed rows lt places leaves indexes other found e =
    elim (there_after old.places place None other found lt (subst (λ xs. place_at xs other ≡ Some found) places e)) [
      | inl now ↦ cc
      | inr was ↦ leads_on old.shapes new.shapes found (rows other) (leaves.kept found.shape) (indexes other found was.1)
    ]

pub indexes_nothing : (index : Index) (rows : ℕ → Option Entry) (count : ℕ) → index.places ≡ replicate count None → Indexes index rows
unfolding Indexes
indexes_nothing index rows count none place placed e = absurd (nothing_there count place placed (subst (λ xs. place_at xs place ≡ Some placed) none e))

pub links_set : (old new : Index) (place : ℕ) (placed : Placed) → place < length old.places → new.places ≡ set old.places place (Some placed) → Links old new place
links_set old new place placed lt places = record {
  here = ap (λ xs. is_some (place_at xs place)) places ∙ ap is_some (get_or-set_same old.places place (Some placed) None lt);
  others = λ other ne. ap (λ xs. is_some (place_at xs other)) places ∙ ap is_some (get_or-set_other old.places place other (Some placed) None ne);
  places = ap length places ∙ length-set old.places place (Some placed);
}

pub unlinks_set : (old new : Index) (place : ℕ) → place < length old.places → new.places ≡ set old.places place None → Unlinks old new place
unlinks_set old new place lt places = record {
  here = ap (λ xs. is_some (place_at xs place)) places ∙ ap is_some (get_or-set_same old.places place None None lt);
  others = λ other ne. ap (λ xs. is_some (place_at xs other)) places ∙ ap is_some (get_or-set_other old.places place other None None ne);
  places = ap length places ∙ length-set old.places place None;
}

pub searchable_of : (chains : Buckets) (shapes : List Shape) (asks : List Ask) (room asks_room : ℕ) (index : Index) (rows : ℕ → Option Entry) → IsSound chains shapes asks room asks_room → index ≡ record { places = chains.places; shapes = shapes } → Indexes index rows → IsSearchable chains shapes asks rows
unfolding Indexes
searchable_of chains shapes asks room asks_room index rows sound is indexes =
    let leads = subst (λ (i : Index). (place : ℕ) (placed : Placed) → place_at i.places place ≡ Some placed → LeadsToRow i.shapes placed (rows place)) is indexes in
    record { some = sound.some; buckets = sound.buckets; counted = sound.counted; asked = sound.asked; leads = leads }

pub names_alone : (index : Index) (old new : ℕ → Option Entry) → ((place : ℕ) → is_linked index place ≡ true → option_map (λ entry. entry.name) (new place) ≡ option_map (λ entry. entry.name) (old place)) → Indexes index old → Indexes index new
unfolding Indexes
names_alone index old new same indexes place placed e = renamed (old place) (new place) (same place (ap is_some e)) (indexes place placed e)
  where
    renamed : (a b : Option Entry) → option_map (λ entry. entry.name) b ≡ option_map (λ entry. entry.name) a → LeadsToRow index.shapes placed a → LeadsToRow index.shapes placed b
    renamed None b h leads = absurd leads
    renamed (Some entry) None h leads = cc
    renamed (Some entry) (Some other) h leads = subst (λ (n : EntryName). LeadsTo index.shapes placed n) (sym (same_Some other.name entry.name h)) leads

pub free_there : (there : Option Placed) → is_some there ≡ false → there ≡ None
free_there None e = refl
free_there (Some placed) e = cc

-- where a place is free there is room for a row more
module _ (chains : Buckets) (shapes : List Shape) (asks : List Ask) (room asks_room place : ℕ) (sound : IsSound chains shapes asks room asks_room) (lt : place < length chains.places) (free : place_at chains.places place ≡ None) where
  pub counts_fit : (shape : ℕ) → count_at shapes shape + 1 < 2 ^ 32
  counts_fit shape =
      let least = count_room shape chains.places place lt free in
      let counted = sound.counted shape in
      omega (arith, least, counted, sound.small)

  pub shapes_fit : AllUsed shapes → length shapes < room
  shapes_fit used =
      let least = all_used shapes used in
      let free_room = used_room chains.places place lt free in
      omega (arith, least, free_room, sound.rows, sound.room)

  pub asks_fit : length asks < asks_room
  asks_fit =
      let least = used_least shapes in
      let free_room = used_room chains.places place lt free in
      let each = sound.asked.each in
      omega (arith, least, free_room, sound.rows, each, sound.asks_room)

-- a linked row is counted in its shape
pub shape_counted : (chains : Buckets) (shapes : List Shape) (asks : List Ask) (room asks_room place : ℕ) (placed : Placed) → IsSound chains shapes asks room asks_room → place_at chains.places place ≡ Some placed → 0 < count_at shapes placed.shape
shape_counted chains shapes asks room asks_room place placed sound there =
    let positive = count_positive chains.places place placed there in
    let counted = sound.counted placed.shape in
    omega (arith, positive, counted)
