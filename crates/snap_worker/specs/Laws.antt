-- What a worker's seat has counted, slot by slot.
use Rattle.std.specs.Prelude.{◌≡◌, ℕ, List}
use Rattle.counter_bank.specs.Account.{Account}
use Rattle.counter_bank.specs.Figures.{packets_of, bytes_of}
use Rattle.p4_types.specs.declared.records.HitMark.{HitMark}
use Rattle.snap_worker.specs.Counting.{after_packet}
use Rattle.switch_spec.specs.Counts.{Figures, figures_after}

-- what a seat has added, as figures of slots
abbrev pub added_by : Account → Figures
added_by seat slot = (packets_of seat.added slot, bytes_of seat.added slot)

-- behind a packet each slot has its hits more, and nothing else of the seat's bank and parts changed
pub record IsCounted (bytes : ℕ) (hits : List HitMark) (seat after : Account) : Type 0 where
  pub added : (slot : ℕ) → added_by after slot ≡ figures_after (added_by seat) hits bytes slot
  pub bank : after.bank ≡ seat.bank
  pub parts : after.parts ≡ seat.parts

-- the seat after a packet has counted its hits
abbrev pub CountsHits : Type 0
CountsHits = (bytes : ℕ) (hits : List HitMark) (seat : Account) → IsCounted bytes hits seat (after_packet bytes hits seat)
