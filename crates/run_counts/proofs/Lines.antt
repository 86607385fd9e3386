-- The lines of a report by figures that agree at the slots of its plane.
use Rattle.std.proofs.Common.{◌≡◌, ℕ, zero, suc, ◌+◌, ◌<◌, ◌≤◌, ◌==◌, cond, List, [], ◌∷◌, ◌++◌, fold, Option, Some, None, refl, sym, subst, ap, ap₂, ◌∙◌, ⊎_elim, arith}
use Rattle.std.specs.List.{All, AllByRecursion, filter_map, cons_option, sum_by}
use Rattle.std.proofs.lemmas.Bool.{cases_eq}
use Rattle.std.proofs.lemmas.List.Elements.{recursion_from_All}
use Rattle.std.proofs.lemmas.List.Sums.{sum_by-cons}
use Rattle.p4_types.specs.declared.events.Start.{Start}
use Rattle.p4_types.specs.declared.info.Counter.{Counter}
use Rattle.p4_types.specs.declared.journal.CellLine.{CellLine}
use Rattle.p4_types.specs.declared.journal.CountLine.{CountLine}
use Rattle.p4_types.specs.declared.table.Entry.{Entry}
use Rattle.plane_spec.proofs.Lists.{All-weaken}
use Rattle.plane_spec.proofs.SoundPlanes.{planes_stay_sound}
use Rattle.plane_spec.specs.Config.{cells_in}
use Rattle.plane_spec.proofs.Steady.{slots_are}
use Rattle.plane_spec.specs.PlaneLaws.{IsSoundControl, numbers_from, slots_of}
use Rattle.plane_spec.specs.Planes.{ControlState, Plane}
use Rattle.run_counts.proofs.Lists.{each_front, each_back}
use Rattle.run_counts.proofs.Words.{words_are_exact}
use Rattle.run_counts.specs.Totals.{TotalsAreCounts}
use Rattle.switch_spec.proofs.Counters.{counters_keep_records}
use Rattle.switch_spec.specs.Carrying.{final}
use Rattle.switch_spec.specs.CountLaws.{figures_of}
use Rattle.switch_spec.specs.Counts.{Figures, count_placed, line_by_slot, line_of, count_lines, cell_lines_from, cell_lines_of, cell_lines}
use Rattle.switch_spec.specs.History.{published}

-- both figures are the same at a slot
abbrev pub Agree : Figures → Figures → ℕ → Type 0
Agree g h slot = g slot ≡ h slot

-- ---- Lines of entries

entry_alike : (g h : Figures) (entry : Entry) (o : Option ℕ) (slots : List ℕ) (xs ys : List CountLine) → AllByRecursion (Agree g h) (cons_option o slots) → (AllByRecursion (Agree g h) slots → xs ≡ ys)
    → cons_option (line_by_slot g entry o) xs ≡ cons_option (line_by_slot h entry o) ys
entry_alike g h entry None slots xs ys same rest = rest same
entry_alike g h entry (Some slot) slots xs ys same rest =
    ap₂ (λ (x : ℕ × ℕ) (lines : List CountLine). (record { seq = entry.seq; table = entry.name.table; packets = x.0; bytes = x.1 }) ∷ lines) same.0 (rest same.1)

entries_alike : (g h : Figures) (entries : List Entry) → AllByRecursion (Agree g h) (filter_map (λ entry. entry.slot) entries) → filter_map (line_of g) entries ≡ filter_map (line_of h) entries
entries_alike g h [] same = refl
entries_alike g h (entry ∷ entries) same = entry_alike g h entry entry.slot (filter_map (λ e. e.slot) entries) _ _ same (entries_alike g h entries)

-- ---- Lines of cells

-- the line of a cell with these figures, if it counted something
abbrev lines_with : ℕ → ℕ → ℕ → ℕ × ℕ → List CellLine
lines_with slot counter index x = cond (x.0 == 0) [] ((record { slot = slot; counter = counter; index = index; packets = x.0; bytes = x.1 }) ∷ [])

cells_alike : (count : ℕ) (g h : Figures) (slot counter index : ℕ) → ((x : ℕ) → slot ≤ x → x < slot + count → Agree g h x) → cell_lines_from count g slot counter index ≡ cell_lines_from count h slot counter index
cells_alike zero g h slot counter index same = refl
cells_alike (suc count) g h slot counter index same =
    ap₂ (λ (x y : List CellLine). x ++ y) (ap (lines_with slot counter index) (same slot (omega arith) (omega arith)))
    (cells_alike count g h (slot + 1) counter (index + 1) (λ x low high. same x (omega arith) (omega arith)))

counters_alike : (g h : Figures) (slot : ℕ) (counters : List Counter) → ((x : ℕ) → slot ≤ x → x < slot + sum_by (λ (counter : Counter). counter.size) counters → Agree g h x)
    → cell_lines_of g slot counters ≡ cell_lines_of h slot counters
counters_alike g h slot [] same = refl
counters_alike g h slot (counter ∷ counters) same =
    let all = sum_by-cons (λ (counter : Counter). counter.size) counter counters in
    ap₂ (λ (x y : List CellLine). x ++ y) (cells_alike counter.size g h slot counter.preamble.id 0 (λ x low high. same x low (omega (arith, all))))
    (counters_alike g h (slot + counter.size) counters (λ x low high. same x (omega arith) (omega (arith, all))))

-- what is told of so many numbers is told of each
each_number : (P : ℕ → Type 0) (count first : ℕ) → AllByRecursion P (numbers_from count first) → (x : ℕ) → first ≤ x → x < first + count → P x
each_number P zero first h x low high = absurd (omega arith)
each_number P (suc count) first h x low high =
    ⊎_elim (λ same. subst P (sym same) h.0) (λ other. each_number P count (first + 1) h.1 x (omega arith) (omega arith)) (cases_eq x first)

-- ---- Lines of a plane

plane_alike : (g h : Figures) (o : Option Plane) → AllByRecursion (Agree g h) (slots_of o) → (count_lines g o ≡ count_lines h o) × (cell_lines g o ≡ cell_lines h o)
plane_alike g h None same = (refl, refl)
plane_alike g h (Some plane) same =
    let entries : List ℕ = filter_map (λ entry. entry.slot) plane.entries in
    let cells : List ℕ = numbers_from (cells_in plane.config) plane.cells in (
      ap (fold (λ (lines : List CountLine) (line : CountLine). count_placed line lines) []) (entries_alike g h plane.entries (each_front (Agree g h) entries cells same)),
      counters_alike g h plane.cells plane.config.info.counters (each_number (Agree g h) (cells_in plane.config) plane.cells (each_back (Agree g h) entries cells same)),
    )

-- the slots of the active plane are among those that the switch has
slots_within : (c : ControlState) → IsSoundControl c → AllByRecursion (λ slot. slot < c.slots) (slots_of c.active)
slots_within c sound =
    each_front (λ slot. slot < c.slots) (slots_of c.active) (slots_of c.staged)
    (All-weaken (λ slot. slot < c.next_slot) (λ slot. slot < c.slots) (λ slot below. omega (arith, sound.slot_limit)) _ (recursion_from_All (λ slot. slot < c.next_slot) _ sound.slots))

pub totals_are_counts : TotalsAreCounts
totals_are_counts start tape journal records totals run within are_words =
    let c : ControlState = final start journal in
    let agree : (slot : ℕ) → slot < start.slots → Agree totals (figures_of records) slot = λ slot below. are_words slot below ∙ words_are_exact records slot within in
    let slots = subst (λ (most : ℕ). AllByRecursion (λ slot. slot < most) (slots_of c.active)) (slots_are start (published start journal)) (slots_within c (planes_stay_sound start (published start journal) run.legal)) in
    let alike = plane_alike totals (figures_of records) c.active (All-weaken (λ slot. slot < start.slots) (Agree totals (figures_of records)) agree (slots_of c.active) slots) in
    let kept = counters_keep_records start (published start journal) records run.legal run.fits in
    (alike.0 ∙ kept.0, alike.1 ∙ kept.1)
