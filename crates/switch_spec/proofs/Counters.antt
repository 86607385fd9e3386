-- What the counters of slots have counted is what the records of packets say of entries and cells.
use Rattle.std.proofs.Common.{◌≡◌, ℕ, zero, suc, ◌+◌, ◌*◌, ◌<◌, ◌≤◌, ◌==◌, Bool, false, cond, eqb, List, [], ◌∷◌, ◌++◌, length, fold, Option, Some, None, refl, sym, ◌∙◌, subst, ap, arith}
use Rattle.std.specs.List.{All, AllByRecursion, Contains, count_by, sum_by, filter_map, cons_option}
use Rattle.std.proofs.lemmas.Bool.Decides.{nat_tests}
use Rattle.std.proofs.lemmas.List.Elements.{All-head, All-tail, All-weaker, All-contains_itself}
use Rattle.std.proofs.lemmas.List.Sums.{sum_by-cons}
use Rattle.p4_types.specs.declared.events.Start.{Start}
use Rattle.p4_types.specs.declared.info.Counter.{Counter}
use Rattle.p4_types.specs.declared.journal.CellLine.{CellLine}
use Rattle.p4_types.specs.declared.journal.CountLine.{CountLine}
use Rattle.p4_types.specs.declared.records.HitMark.{HitMark}
use Rattle.p4_types.specs.declared.records.HitMark.TheVariants as marks
use Rattle.p4_types.specs.declared.records.Record.{Record}
use Rattle.p4_types.specs.declared.table.Entry.{Entry}
use Rattle.plane_spec.specs.Config.{Event}
use Rattle.plane_spec.specs.Legal.{Legal}
use Rattle.plane_spec.specs.Planes.{Plane, opened, applied, after}
use Rattle.plane_spec.specs.SlotLaws.{HasCell, TellAlike}
use Rattle.plane_spec.proofs.Slots.{slots_stay}
use Rattle.packet_spec.specs.Laws.{IsThere}
use Rattle.packet_spec.specs.Meaning.{meaning}
use Rattle.packet_spec.proofs.Hits.{hits_are_there}
use Rattle.switch_spec.specs.Counts.{Figures, no_figures, Carried, counted, is_of_entry, is_of_cell, packets_counted, bytes_counted, count_by_slot, count_of, count_placed, is_slot, is_of_slot, line_by_slot, line_of, cell_lines_from, cell_lines_of, cells_from, cells_of, counts_in, cells_in as lines_of_cells, count_lines, cell_lines}
use Rattle.switch_spec.specs.CountLaws.{figures_of, CountersKeepRecords}
use Rattle.switch_spec.specs.Carrying.{Fits}

-- ---- The figures of a slot are sums over the records

packets_more : (p : HitMark → Bool) (first : Carried) (records : List Carried) → packets_counted p (first ∷ records) ≡ count_by p first.outcome.hits + packets_counted p records
packets_more p first records = sum_by-cons (λ (carried : Carried). count_by p carried.outcome.hits) first records

bytes_more : (p : HitMark → Bool) (first : Carried) (records : List Carried) → bytes_counted p (first ∷ records) ≡ count_by p first.outcome.hits * length first.arrival.1 + bytes_counted p records
bytes_more p first records = sum_by-cons (λ (carried : Carried). count_by p carried.outcome.hits * length carried.arrival.1) first records

packets_kept : (slot : ℕ) (records : List Carried) (g : Figures) → (fold counted g records slot).0 ≡ (g slot).0 + packets_counted (is_of_slot slot) records
packets_kept slot [] g = omega arith
packets_kept slot (first ∷ records) g = omega (arith, packets_kept slot records (counted g first), packets_more (is_of_slot slot) first records)

bytes_kept : (slot : ℕ) (records : List Carried) (g : Figures) → (fold counted g records slot).1 ≡ (g slot).1 + bytes_counted (is_of_slot slot) records
bytes_kept slot [] g = omega arith
bytes_kept slot (first ∷ records) g = omega (arith, bytes_kept slot records (counted g first), bytes_more (is_of_slot slot) first records)

-- ---- Two tests that agree on all hits count alike

-- they agree on what is there in each plane that was active
abbrev Agree : Start → List Event → (HitMark → Bool) → (HitMark → Bool) → Type 0
Agree start list p q = (n : ℕ) (before : Plane) → (after start list n).active ≡ Some before → (hit : HitMark) → IsThere before hit → p hit ≡ q hit

count_alike : (p q : HitMark → Bool) (hits : List HitMark) → All (λ hit. p hit ≡ q hit) hits → count_by p hits ≡ count_by q hits
count_alike p q [] same = refl
count_alike p q (hit ∷ hits) same =
    let first : p hit ≡ q hit = All-head (λ h. p h ≡ q h) hit hits same in
    let rest = count_alike p q hits (All-tail (λ h. p h ≡ q h) hit hits same) in
    let own = sum_by-cons (λ h. cond {A = ℕ} (p h) 1 0) hit hits in
    let other = sum_by-cons (λ h. cond {A = ℕ} (q h) 1 0) hit hits in
    let alike : cond {A = ℕ} (p hit) 1 0 ≡ cond (q hit) 1 0 = ap (λ b. cond {A = ℕ} b 1 0) first in
    omega arith

meant_alike : (p q : HitMark → Bool) (o : Option Plane) (cpu port : ℕ) (packet : List ℕ) → ((before : Plane) → o ≡ Some before → (hit : HitMark) → IsThere before hit → p hit ≡ q hit)
    → count_by p (meaning o cpu port packet).hits ≡ count_by q (meaning o cpu port packet).hits
unfolding meaning
meant_alike p q None cpu port packet agree = refl
meant_alike p q (Some before) cpu port packet agree =
    count_alike p q _ (All-weaker (IsThere before) (λ hit. p hit ≡ q hit) (agree before refl) (meaning (Some before) cpu port packet).hits (hits_are_there before cpu port packet))

fitting_alike : (start : Start) (list : List Event) (p q : HitMark → Bool) → Agree start list p q → (carried : Carried) → Fits start list carried
    → count_by p carried.outcome.hits ≡ count_by q carried.outcome.hits
fitting_alike start list p q agree carried fits =
    let r : Record = carried.outcome in
    let hits = ap (λ (outcome : Record). outcome.hits) fits.meant in
    let meant = meant_alike p q (after start list r.steps).active (after start list r.steps).cpu carried.arrival.0 carried.arrival.1 (agree r.steps) in
    ap (count_by p) hits ∙ meant ∙ sym (ap (count_by q) hits)

packets_alike : (start : Start) (list : List Event) (p q : HitMark → Bool) → Agree start list p q → (records : List Carried) → AllByRecursion (Fits start list) records → packets_counted p records ≡ packets_counted q records
packets_alike start list p q agree [] fits = refl
packets_alike start list p q agree (first ∷ records) fits =
    omega (arith, packets_alike start list p q agree records fits.1, fitting_alike start list p q agree first fits.0, packets_more p first records, packets_more q first records)

bytes_alike : (start : Start) (list : List Event) (p q : HitMark → Bool) → Agree start list p q → (records : List Carried) → AllByRecursion (Fits start list) records → bytes_counted p records ≡ bytes_counted q records
bytes_alike start list p q agree [] fits = refl
bytes_alike start list p q agree (first ∷ records) fits =
    let one : count_by p first.outcome.hits * length first.arrival.1 ≡ count_by q first.outcome.hits * length first.arrival.1 = ap (λ n. n * length first.arrival.1) (fitting_alike start list p q agree first fits.0) in
    omega (arith, one, bytes_alike start list p q agree records fits.1, bytes_more p first records, bytes_more q first records)

-- a slot's figures are what the records say of the hits of a kind
abbrev Tells : (HitMark → Bool) → List Carried → ℕ → Type 0
Tells p records slot = figures_of records slot ≡ (packets_counted p records, bytes_counted p records)

both_are : (x : ℕ × ℕ) (a b : ℕ) → x.0 ≡ a → x.1 ≡ b → x ≡ (a, b)
both_are x a b first second = ap (λ n. (n, x.1)) first ∙ ap (λ n. (a, n)) second

zero_more : (n : ℕ) → 0 + n ≡ n
zero_more n = omega arith

tells : (start : Start) (list : List Event) (slot : ℕ) (q : HitMark → Bool) → Agree start list (is_of_slot slot) q → (records : List Carried) → AllByRecursion (Fits start list) records → Tells q records slot
tells start list slot q agree records fits =
    both_are (figures_of records slot) (packets_counted q records) (bytes_counted q records) (packets_kept slot records no_figures ∙ zero_more _ ∙ packets_alike start list (is_of_slot slot) q agree records fits)
    (bytes_kept slot records no_figures ∙ zero_more _ ∙ bytes_alike start list (is_of_slot slot) q agree records fits)

-- ---- Which hits a slot counts

tests_alike : (a b c d : ℕ) → (a ≡ b → c ≡ d) → (c ≡ d → a ≡ b) → eqb a b ≡ eqb c d
tests_alike a b c d there back = grind (arith, nat_tests)

never_hit : (a b : ℕ) → (a ≡ b → ⊥) → eqb a b ≡ false
never_hit a b differ = grind (arith, nat_tests)

-- an entry that was there is hit by its slot just where it is by its number
entry_alike : (before now : Plane) (e f : Entry) (slot : ℕ) (o : Option ℕ) → TellAlike before now → Contains before.entries e → Contains now.entries f → f.slot ≡ Some slot → e.slot ≡ o → is_slot slot o ≡ eqb e.seq f.seq
entry_alike before now e f slot None tell at there own is =
    sym (never_hit e.seq f.seq (λ same. let equal = tell.slots e f slot at there same own in absurd (cc)))
entry_alike before now e f slot (Some other) tell at there own is =
    tests_alike other slot e.seq f.seq (λ same. tell.numbers e f slot at there (is ∙ ap (λ n. Some n) same) own)
    (λ same. let equal = tell.slots e f slot at there same own in cc)

hit_of_entry : (before now : Plane) (f : Entry) (slot : ℕ) → TellAlike before now → Contains now.entries f → f.slot ≡ Some slot → (hit : HitMark) → IsThere before hit → is_of_slot slot hit ≡ is_of_entry f.seq hit
hit_of_entry before now f slot tell there own (marks.Entry table seq o) is =
    entry_alike before now is.0 f slot o tell is.1 there own is.4 ∙ ap (λ n. eqb n f.seq) is.3
hit_of_entry before now f slot tell there own (marks.Cell other) is =
    never_hit other slot (λ same. tell.cells_before f slot there own (subst (HasCell before) same is))

no_entry : (before now : Plane) (e : Entry) (slot : ℕ) (o : Option ℕ) → TellAlike before now → Contains before.entries e → HasCell now slot → e.slot ≡ o → is_slot slot o ≡ false
no_entry before now e slot None tell at cell is = refl
no_entry before now e slot (Some other) tell at cell is = never_hit other slot (λ same. tell.cells_now e slot at (is ∙ ap (λ n. Some n) same) cell)

hit_of_cell : (before now : Plane) (slot : ℕ) → TellAlike before now → HasCell now slot → (hit : HitMark) → IsThere before hit → is_of_slot slot hit ≡ is_of_cell slot hit
hit_of_cell before now slot tell cell (marks.Entry table seq o) is = no_entry before now is.0 slot o tell is.1 cell is.4
hit_of_cell before now slot tell cell (marks.Cell other) is = refl

-- ---- The lines

lines_by : (records : List Carried) (f : Entry) (o : Option ℕ) → ((slot : ℕ) → o ≡ Some slot → Tells (is_of_entry f.seq) records slot) → line_by_slot (figures_of records) f o ≡ count_by_slot o records f
lines_by records f None tell = refl
lines_by records f (Some slot) tell =
    ap (λ (x : ℕ × ℕ). Some (let line : CountLine = record { seq = f.seq; table = f.name.table; packets = x.0; bytes = x.1 } in line)) (tell slot refl)

filter_alike : {X Y : Type 0} (h k : X → Option Y) (xs : List X) → All (λ x. h x ≡ k x) xs → filter_map h xs ≡ filter_map k xs
filter_alike h k [] same = refl
filter_alike h k (x ∷ xs) same =
    ap (λ o. cons_option o (filter_map h xs)) (All-head (λ x. h x ≡ k x) x xs same) ∙ ap (cons_option (k x)) (filter_alike h k xs (All-tail (λ x. h x ≡ k x) x xs same))

-- the line of a cell with these figures, if it counted something
abbrev lines_with : ℕ → ℕ → ℕ → ℕ × ℕ → List CellLine
lines_with slot counter index x = cond (x.0 == 0) [] ((record { slot = slot; counter = counter; index = index; packets = x.0; bytes = x.1 }) ∷ [])

join : {X : Type 0} (a b c d : List X) → a ≡ b → c ≡ d → a ++ c ≡ b ++ d
join a b c d first second = ap (λ x. x ++ c) first ∙ ap (λ x. b ++ x) second

lines_from : (count slot counter index : ℕ) (records : List Carried) → ((x : ℕ) → slot ≤ x → x < slot + count → Tells (is_of_cell x) records x)
    → cell_lines_from count (figures_of records) slot counter index ≡ cells_from count slot counter index records
lines_from zero slot counter index records tell = refl
lines_from (suc count) slot counter index records tell =
    join _ _ _ _ (ap (lines_with slot counter index) (tell slot (omega arith) (omega arith)))
    (lines_from count (slot + 1) counter (index + 1) records (λ x low high. tell x (omega arith) (omega arith)))

lines_of : (slot : ℕ) (counters : List Counter) (records : List Carried) → ((x : ℕ) → slot ≤ x → x < slot + sum_by (λ (counter : Counter). counter.size) counters → Tells (is_of_cell x) records x)
    → cell_lines_of (figures_of records) slot counters ≡ cells_of slot counters records
lines_of slot [] records tell = refl
lines_of slot (counter ∷ counters) records tell =
    let all = sum_by-cons (λ (counter : Counter). counter.size) counter counters in
    join _ _ _ _ (lines_from counter.size slot counter.preamble.id 0 records (λ x low high. tell x low (omega (arith, all))))
    (lines_of (slot + counter.size) counters records (λ x low high. tell x (omega arith) (omega (arith, all))))

keep_in : (start : Start) (list : List Event) (records : List Carried) (o : Option Plane) → Legal (opened start) list → AllByRecursion (Fits start list) records → (applied (opened start) list).active ≡ o
    → (count_lines (figures_of records) o ≡ counts_in o records) × (cell_lines (figures_of records) o ≡ lines_of_cells o records)
keep_in start list records None legal fits is = (refl, refl)
keep_in start list records (Some now) legal fits is =
    let entry_tells : (f : Entry) (slot : ℕ) → Contains now.entries f → f.slot ≡ Some slot → Tells (is_of_entry f.seq) records slot = λ f slot there own.
    tells start list slot (is_of_entry f.seq) (λ n before was. hit_of_entry before now f slot (slots_stay start list n before now legal was is) there own) records fits in
    let cell_tells : (slot : ℕ) → HasCell now slot → Tells (is_of_cell slot) records slot = λ slot cell.
    tells start list slot (is_of_cell slot) (λ n before was. hit_of_cell before now slot (slots_stay start list n before now legal was is) cell) records fits in
    let lines : (f : Entry) → Contains now.entries f → line_of (figures_of records) f ≡ count_of records f = λ f there.
    lines_by records f f.slot (λ slot own. entry_tells f slot there own) in (
      ap (fold (λ (lines : List CountLine) (line : CountLine). count_placed line lines) []) (filter_alike (line_of (figures_of records)) (count_of records) now.entries
          (All-weaker (Contains now.entries) (λ f. line_of (figures_of records) f ≡ count_of records f) lines now.entries (All-contains_itself now.entries))),
      lines_of now.cells now.config.info.counters records (λ slot low high. cell_tells slot (low, high)),
    )

pub counters_keep_records : CountersKeepRecords
counters_keep_records start list records legal fits = keep_in start list records (applied (opened start) list).active legal fits refl
