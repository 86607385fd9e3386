-- What a seat of a bank stands for.
use Rattle.std.specs.Prelude.{◌≡◌, ℕ, ◌+◌, ◌-◌, ◌^◌, ◌<◌, List, []}
use Rattle.atomic_table.specs.Seated.{TableId}
use Rattle.counter_bank.specs.Figures.{packets_of, bytes_of, figures_of, AtMost, sums, greater, count_packet, note}

-- which bank it is
abbrev pub BankId : Type 0
BankId = TableId

-- the name of no bank
abbrev pub no_bank : BankId
no_bank = record { words = 0; slots = 0; views_name = 0; atom = 0; block = 0; offset = 0; slot_names = [] }

-- a bank, and how many slots it has
pub record Opened : Type 0 where
  pub id : BankId
  pub slots : ℕ

-- a seat: its bank, its parts of the bank, the figures that it has added, and the figures that it has noted, with what it has added since
pub record Account : Type 0 where
  pub bank : BankId
  pub parts : ℕ
  pub added : List ℕ
  pub noted : List ℕ

-- the parts that the seats of a bank have together
abbrev pub all_parts : ℕ
all_parts = 2 ^ 32

-- the most slots that a bank may have
abbrev pub most_slots : ℕ
most_slots = 1048576

-- the first seat has every part, and has added and noted nothing
abbrev pub first_seat : BankId → Account
first_seat b = record { bank = b; parts = all_parts; added = []; noted = [] }

-- the seat after a hit
abbrev pub after_hit : Account → ℕ → ℕ → Account
after_hit a slot bytes = record { bank = a.bank; parts = a.parts; added = count_packet a.added slot bytes; noted = count_packet a.noted slot bytes }

-- the seat after it gave a part away
abbrev pub less_a_part : Account → Account
less_a_part a = record { bank = a.bank; parts = a.parts - 1; added = a.added; noted = a.noted }

-- a seat with that part: it has added nothing, and knows what the other has noted
abbrev pub with_a_part : Account → Account
with_a_part a = record { bank = a.bank; parts = 1; added = []; noted = a.noted }

-- the seat after it took another in
abbrev pub joined : Account → Account → Account
joined a b = record { bank = a.bank; parts = a.parts + b.parts; added = sums a.added b.added; noted = greater a.noted b.noted }

-- the seat after it noted these sums of a slot
abbrev pub after_note : Account → ℕ → ℕ → ℕ → Account
after_note a slot packets bytes = record { bank = a.bank; parts = a.parts; added = a.added; noted = note a.noted slot packets bytes }

-- the seat noted sums at a slot, and nothing else of it changed
abbrev pub NotesAt : Account → Account → ℕ → Type 0
NotesAt before after slot = after ≡ after_note before slot (packets_of after.noted slot) (bytes_of after.noted slot)

-- for each of the slots, the totals are what was added, modulo 2^64
abbrev pub AreTotals : List ℕ → ℕ → List ℕ → Type 0
AreTotals totals slots added = (slot : ℕ) → slot < slots → (packets_of totals slot, bytes_of totals slot) ≡ figures_of added slot

-- at each slot, no noted sum is above what was added
abbrev pub NoneAbove : List ℕ → List ℕ → Type 0
NoneAbove noted added = (slot : ℕ) → AtMost noted added slot
