-- What a seat notes of the counters, and the figures that are loaded by it (this project's profile).
use Rattle.std.specs.Prelude.{◌≡◌, ℕ, ◌<◌, ◌≤◌, ◌%◌, ◌^◌, List, length, Option, Some, None, slice_get}
use Rattle.counter_bank.specs.Account.{Account}
use Rattle.counter_bank.specs.Figures.{packets_of, bytes_of, AtMost}
use Rattle.switch_spec.specs.Counts.{Figures}

-- the figures of a slot, where there are some
abbrev pub figures_or_none : Option (ℕ × ℕ) → ℕ × ℕ
figures_or_none None = (0, 0)
figures_or_none (Some figures) = figures

-- the figures of each slot, from slot 0 on; those of later slots are 0
abbrev pub figures_in : List (ℕ × ℕ) → Figures
figures_in list slot = figures_or_none (slice_get list slot)

-- figures as the words of counters keep them
abbrev pub in_words : ℕ × ℕ → ℕ × ℕ
in_words figures = (figures.0 % 2 ^ 64, figures.1 % 2 ^ 64)

-- at each slot the first figures are at most the second
abbrev pub NoMore : Figures → Figures → Type 0
NoMore g h = (slot : ℕ) → ((g slot).0 ≤ (h slot).0) × ((g slot).1 ≤ (h slot).1)

-- what a seat has noted, as figures of slots
abbrev pub noted_by : Account → Figures
noted_by seat slot = (packets_of seat.noted slot, bytes_of seat.noted slot)

-- figures that were loaded are these sums, as words keep them
abbrev pub AreSums : List (ℕ × ℕ) → Figures → Type 0
AreSums figures sums = (slot : ℕ) → slot < length figures → figures_in figures slot ≡ in_words (sums slot)

-- at the first so many slots a seat has noted at least what it has added
abbrev pub NotesOwn : ℕ → Account → Type 0
NotesOwn slots seat = (slot : ℕ) → slot < slots → AtMost seat.added seat.noted slot

-- A seat looked at counters: at each slot it has noted at least what it had noted, and nothing else of it changed.
pub record SeatLooks (before after : Account) : Type 0 where
  pub bank : after.bank ≡ before.bank
  pub parts : after.parts ≡ before.parts
  pub added : after.added ≡ before.added
  pub more : NoMore (noted_by before) (noted_by after)
