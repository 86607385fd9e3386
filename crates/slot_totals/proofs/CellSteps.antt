-- The steps of loops over cells and over counters.
use Rattle.std.proofs.Common.{◌≡◌, ℕ, zero, suc, ◌+◌, ◌-◌, ◌<◌, ◌≤◌, ◌⊎◌, inl, inr, List, [], ◌∷◌, ◌++◌, length, get_or, drop, drop-cons, append_assoc, cond, eqb, refl, sym, ◌∙◌, ap, arith}
use Rattle.std.proofs.lemmas.Bool.{cases_lt}
use Rattle.p4_types.specs.declared.info.Counter.{Counter}
use Rattle.p4_types.specs.declared.journal.CellLine.{CellLine}
use Rattle.switch_spec.specs.Counts.{Figures, cell_line, cell_lines_from, cell_lines_of}
use Rattle.slot_totals.specs.State.{AreBlank}

-- the lines of the cells from an index on are that of its cell, and those of the others
pub cells_step : (g : Figures) (size first id index : ℕ) → index < size
    → cell_lines_from (size - index) g (first + index) id index ≡ cell_line g (first + index) id index ++ cell_lines_from (size - (index + 1)) g (first + (index + 1)) id (index + 1)
cells_step g size first id index in_range =
    let count : size - index ≡ suc (size - (index + 1)) = omega arith in
    let slot : (first + index) + 1 ≡ first + (index + 1) = omega arith in
    ap (λ n. cell_lines_from n g (first + index) id index) count
    ∙ ap (λ n. cell_line g (first + index) id index ++ cell_lines_from (size - (index + 1)) g n id (index + 1)) slot

drop_step : (counters : List Counter) (counter : Counter) (i : ℕ) → i < length counters → counter ≡ get_or counters i counter → drop i counters ≡ counter ∷ drop (i + 1) counters
drop_step counters counter i in_range is =
    let next : suc i ≡ i + 1 = omega arith in
    drop-cons counters i counter in_range ∙ ap (λ c. c ∷ drop (suc i) counters) (sym is) ∙ ap (λ n. counter ∷ drop n counters) next

no_line : (g : Figures) (slot id index : ℕ) → g slot ≡ (0, 0) → cell_line g slot id index ≡ []
no_line g slot id index is = ap (λ (x : ℕ × ℕ). cond (eqb x.0 0) [] (let line : CellLine = record { slot = slot; counter = id; index = index; packets = x.0; bytes = x.1 } in line ∷ [])) is

no_cells : (g : Figures) (kept count slot id index : ℕ) → AreBlank g kept → kept ≤ slot → cell_lines_from count g slot id index ≡ []
no_cells g kept zero slot id index blank le = refl
no_cells g kept (suc count) slot id index blank le =
    ap (λ lines. lines ++ cell_lines_from count g (slot + 1) id (index + 1)) (no_line g slot id index (blank slot le))
    ∙ no_cells g kept count (slot + 1) id (index + 1) blank (omega arith)

no_counters : (g : Figures) (kept slot : ℕ) (counters : List Counter) → AreBlank g kept → kept ≤ slot → cell_lines_of g slot counters ≡ []
no_counters g kept slot [] blank le = refl
no_counters g kept slot (counter ∷ counters) blank le =
    ap (λ lines. lines ++ cell_lines_of g (slot + counter.size) counters) (no_cells g kept counter.size slot counter.preamble.id 0 blank le)
    ∙ no_counters g kept (slot + counter.size) counters blank (omega arith)

over : (g : Figures) (kept size first id index : ℕ) → AreBlank g kept → (index < size → kept ≤ first + index) → (index < size) ⊎ (size ≤ index) → cell_lines_from (size - index) g (first + index) id index ≡ []
over g kept size first id index blank behind (inl less) = no_cells g kept (size - index) (first + index) id index blank (behind less)
over g kept size first id index blank behind (inr le) = let none : size - index ≡ 0 = omega arith in ap (λ n. cell_lines_from n g (first + index) id index) none

-- a loop over the cells of the first slots ends where no more lines are
pub cells_over : (g : Figures) (kept size first id index : ℕ) → AreBlank g kept → (index < size → kept ≤ first + index) → cell_lines_from (size - index) g (first + index) id index ≡ []
cells_over g kept size first id index blank behind = over g kept size first id index blank behind (cases_lt index size)

counters_same : (g : Figures) (kept a b : ℕ) (counters : List Counter) → AreBlank g kept → (a ≡ b) ⊎ ((kept ≤ a) × (kept ≤ b)) → cell_lines_of g a counters ≡ cell_lines_of g b counters
counters_same g kept a b counters blank (inl same) = ap (λ n. cell_lines_of g n counters) same
counters_same g kept a b counters blank (inr behind) = no_counters g kept a counters blank behind.0 ∙ sym (no_counters g kept b counters blank behind.1)

same_or_behind : (kept a b : ℕ) → (a < kept → b ≡ a) → (kept ≤ a → kept ≤ b) → (a < kept) ⊎ (kept ≤ a) → (b ≡ a) ⊎ ((kept ≤ b) × (kept ≤ a))
same_or_behind kept a b same behind (inl less) = inl (same less)
same_or_behind kept a b same behind (inr le) = inr (behind le, le)

-- a loop's step: the lines of the counters from one on are its own, and those of the others
pub counters_step : (g : Figures) (kept : ℕ) (counters : List Counter) (counter : Counter) (i slot next : ℕ) (before pushed : List CellLine) → AreBlank g kept → i < length counters → counter ≡ get_or counters i counter
    → (slot + counter.size < kept → next ≡ slot + counter.size) → (kept ≤ slot + counter.size → kept ≤ next)
    → pushed ≡ before ++ cell_lines_from counter.size g slot counter.preamble.id 0
    → pushed ++ cell_lines_of g next (drop (i + 1) counters) ≡ before ++ cell_lines_of g slot (drop i counters)
counters_step g kept counters counter i slot next before pushed blank in_range is same behind now =
    let own : List CellLine = cell_lines_from counter.size g slot counter.preamble.id 0 in
    let others : List Counter = drop (i + 1) counters in
    let rest = counters_same g kept next (slot + counter.size) others blank
    (same_or_behind kept (slot + counter.size) next same behind (cases_lt (slot + counter.size) kept)) in
    let all : drop i counters ≡ counter ∷ others = drop_step counters counter i in_range is in
    ap (λ lines. lines ++ cell_lines_of g next others) now
    ∙ append_assoc before own (cell_lines_of g next others)
    ∙ ap (λ lines. before ++ (own ++ lines)) rest
    ∙ ap (λ list. before ++ cell_lines_of g slot list) (sym all)
