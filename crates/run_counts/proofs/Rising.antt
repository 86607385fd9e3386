-- Figures that rise.
use Rattle.std.proofs.Common.{◌≡◌, ℕ, ◌+◌, ◌≤◌, Bool, true, false, cond, List, fold, refl, ap, arith}
use Rattle.run_counts.proofs.Words.{packets_more, bytes_more}
use Rattle.run_counts.specs.Reading.{IsNoMore, has_read, known_behind}
use Rattle.switch_spec.specs.CountLaws.{figures_of}
use Rattle.switch_spec.specs.Counts.{Figures, Carried, counted}
use Rattle.switch_spec.specs.History.{Made}

-- no slot of the first has more than the second
abbrev pub AreNoMore : Figures → Figures → Type 0
AreNoMore g h = (slot : ℕ) → IsNoMore (g slot) (h slot)

pub no_more_self : (g : Figures) → AreNoMore g g
no_more_self g slot = (omega arith, omega arith)

pub no_more_trans : (f g h : Figures) → AreNoMore f g → AreNoMore g h → AreNoMore f h
no_more_trans f g h a b slot =
    let x = a slot in
    let y = b slot in
    (omega (arith, x.0, y.0), omega (arith, x.1, y.1))

-- a packet counts on both sides alike
pub counted_alike : (g h : Figures) (packet : Carried) → AreNoMore g h → AreNoMore (counted g packet) (counted h packet)
counted_alike g h packet a slot = let x = a slot in (omega (arith, x.0), omega (arith, x.1))

pub counted_rises : (g : Figures) (packet : Carried) → AreNoMore g (counted g packet)
counted_rises g packet slot = (omega arith, omega arith)

pub all_rise : (g : Figures) (records : List Carried) → AreNoMore g (fold counted g records)
all_rise g records slot = (omega (arith, packets_more slot records g), omega (arith, bytes_more slot records g))

known_by : (b : Bool) (low h : Figures) (made : Made) → (b ≡ true → AreNoMore made.figures h) → AreNoMore low h → AreNoMore (cond b made.figures low) h
known_by true low h made own below = own refl
known_by false low h made own below = below

-- what is known behind a call is no more than what it saw at least
pub known_below : (low h : Figures) (made : Made) → (has_read made ≡ true → AreNoMore made.figures h) → AreNoMore low h → AreNoMore (known_behind low made) h
known_below low h made own below = known_by (has_read made) low h made own below
