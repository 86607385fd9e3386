-- What a contract sees of totals.
use Rattle.std.specs.Prelude.{◌≡◌, ℕ, ◌≤◌, List, slice_index_or}
use Rattle.switch_spec.specs.Counts.{Figures}

-- packets and bytes by slot, and how many packets were added
pub record TotalsState : Type 0 where
  pub counts : List (ℕ × ℕ)
  pub packets : ℕ

-- the packets and bytes that the counter of each slot has counted; slots that are not kept have counted nothing
abbrev pub figures : TotalsState → Figures
figures totals slot = slice_index_or totals.counts slot (0, 0)

-- from this slot on no counter has counted
abbrev pub AreBlank : Figures → ℕ → Type 0
AreBlank g slots = (slot : ℕ) → slots ≤ slot → g slot ≡ (0, 0)
