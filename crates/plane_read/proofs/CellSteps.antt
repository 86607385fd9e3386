-- Where the cells of counters stand, and what is answered of them.
use Rattle.std.proofs.Common.{◌≡◌, ℕ, suc, ◌+◌, ◌-◌, ◌<◌, ◌≤◌, Bool, true, false, cond, nat_lt, List, [], ◌∷◌, length, get_or, drop, drop-cons, refl, sym, ap, ◌∙◌, arith}
use Rattle.std.specs.List.{All, sum_by}
use Rattle.std.proofs.lemmas.List.Elements.{All-nil, All-cons, All-head, All-tail}
use Rattle.std.proofs.lemmas.List.Sums.{sum_by-cons}
use Rattle.p4_types.specs.declared.info.Counter.{Counter}
use Rattle.switch_spec.specs.Counts.{Figures}
use Rattle.plane_spec.specs.Shown.{placed}
use Rattle.switch_spec.specs.Reading.{shown_cell, shown_cells}

placed_by : {X : Type 0} (P : X → Type 0) (b : Bool) (x y : X) (ys zs : List X) → P x → P y → All P ys → All P zs → All P (cond b (x ∷ y ∷ ys) (y ∷ zs))
placed_by P true x y ys zs first own rest others = All-cons P x (y ∷ ys) first (All-cons P y ys own rest)
placed_by P false x y ys zs first own rest others = All-cons P y zs own others

-- what holds of all items and of one more holds of them in their order
pub All-placed : {X : Type 0} (P : X → Type 0) (key : X → ℕ) (x : X) (xs : List X) → P x → All P xs → All P (placed key x xs)
All-placed P key x [] first rest = All-cons P x [] first rest
All-placed P key x (y ∷ ys) first rest =
    placed_by P (nat_lt (key x) (key y)) x y ys (placed key x ys) first (All-head P y ys rest) (All-tail P y ys rest) (All-placed P key x ys first (All-tail P y ys rest))

-- the counters from one on are that one and the others
pub drop_step : (counters : List Counter) (counter : Counter) (i : ℕ) → i < length counters → counter ≡ get_or counters i counter → drop i counters ≡ counter ∷ drop (i + 1) counters
drop_step counters counter i in_range is =
    let next : suc i ≡ i + 1 = omega arith in
    drop-cons counters i counter in_range ∙ ap (λ c. c ∷ drop (suc i) counters) (sym is) ∙ ap (λ n. counter ∷ drop n counters) next

-- how many cells they have
pub sizes_step : (counters : List Counter) (counter : Counter) (i : ℕ) → i < length counters → counter ≡ get_or counters i counter
    → sum_by (λ (c : Counter). c.size) (drop i counters) ≡ counter.size + sum_by (λ (c : Counter). c.size) (drop (i + 1) counters)
sizes_step counters counter i in_range is = ap (sum_by (λ (c : Counter). c.size)) (drop_step counters counter i in_range is) ∙ sum_by-cons (λ (c : Counter). c.size) counter (drop (i + 1) counters)

-- the cells from an index on are that of the index and the others
pub cells_step : (g : Figures) (size first id index : ℕ) → index < size
    → shown_cells (size - index) g id (first + index) index ≡ shown_cell g id (first + index) index ∷ shown_cells (size - (index + 1)) g id (first + (index + 1)) (index + 1)
cells_step g size first id index in_range =
    let count : size - index ≡ suc (size - (index + 1)) = omega arith in
    let slot : (first + index) + 1 ≡ first + (index + 1) = omega arith in
    ap (λ n. shown_cells n g id (first + index) index) count
    ∙ ap (λ n. shown_cell g id (first + index) index ∷ shown_cells (size - (index + 1)) g id n (index + 1)) slot
