-- The rule of the counter words, and what each step does to a view.
use Rattle.std.specs.Prelude.{◌≡◌, ℕ, ◌+◌, ◌-◌, ◌%◌, ◌^◌, ◌<◌, ◌≤◌, List, [], length, slice_index, sum_by}
use mathlib.Core.Option.{some}
use lib.ListN.{get_elem?}
use Rattle.atomic_table.specs.Table.{State, Me, Step}
use Rattle.atomic_table.specs.Seated.{TableId}
use Rattle.counter_bank.specs.declared.tally.Tally.{Tally}
use Rattle.counter_bank.specs.Figures.{add_at, raise_at, sums, greater}
use Rattle.counter_bank.specs.Account.{Account, all_parts}

-- what all views have added to a word
abbrev pub sum_at : List Tally → ℕ → ℕ
sum_at views i = sum_by (λ (v : Tally). slice_index v.added i) views

-- the parts of all views
abbrev pub parts_of : List Tally → ℕ
parts_of views = sum_by (λ (v : Tally). v.parts) views

-- no sum that the view noted is above what all views have added, and without a part the view has added nothing
pub record Agrees (views : List Tally) (v : Tally) : Type 0 where
  pub noted : (i : ℕ) → slice_index v.noted i ≤ sum_at views i
  pub spent : v.parts ≡ 0 → (i : ℕ) → slice_index v.added i ≡ 0

-- each of the n words is what all views have added to it, modulo 2^64
pub record Kept (n : ℕ) (s : State (Unit {0}) Tally) : Type 0 where
  pub count : length s.words ≡ n
  pub words : (i : ℕ) → i < n → slice_index s.words i ≡ sum_at s.views i % 2 ^ 64
  pub parts : parts_of s.views ≡ all_parts
  pub each : (id : ℕ) (v : Tally) → get_elem? s.views id ≡ some v → Agrees s.views v

-- the first view: it has every part, and has added and noted nothing
abbrev pub first_view : Tally
first_view = record { parts = all_parts; added = []; noted = [] }

-- the view that has added k to a word
abbrev pub adding : Tally → ℕ → ℕ → Tally
adding v i k = record { parts = v.parts; added = add_at v.added i k; noted = add_at v.noted i k }

-- the view that has noted a sum at a word
abbrev pub noting : Tally → ℕ → ℕ → Tally
noting v i n = record { parts = v.parts; added = v.added; noted = raise_at v.noted i n }

-- the view after it gave a part away
abbrev pub one_less : Tally → Tally
one_less v = record { parts = v.parts - 1; added = v.added; noted = v.noted }

-- a view with that part: it has added nothing, and knows what the other has noted
abbrev pub one_part : Tally → Tally
one_part v = record { parts = 1; added = []; noted = v.noted }

-- the view after it took another in
abbrev pub together : Tally → Tally → Tally
together v w = record { parts = v.parts + w.parts; added = sums v.added w.added; noted = greater v.noted w.noted }

-- what is left of the view that was taken in: no part, and nothing added or noted
abbrev pub nobody : Tally
nobody = record { parts = 0; added = []; noted = [] }

-- what an add of its first operand tells
abbrev pub Added : Step (Unit {0}) → Me (Unit {0}) Tally → ℕ → Me (Unit {0}) Tally → Type 0
Added step v found w = w ≡ (adding v.0 step.word step.first, v.1)

-- a number that was read is, modulo 2^64, a sum no less than what was noted, and no less than what was added
pub record IsSum (read sum noted added : ℕ) : Type 0 where
  pub is : read ≡ sum % 2 ^ 64
  pub since : noted ≤ sum
  pub own : added ≤ sum

-- the sum behind the number that was found
pub record Sum (i : ℕ) (v : Tally) (found : ℕ) (w : Tally) : Type 0 where
  pub sum : ℕ
  pub found_is : IsSum found sum (slice_index v.noted i) (slice_index v.added i)
  pub noted_is : w ≡ noting v i sum

-- what a load tells
abbrev pub Noted : Step (Unit {0}) → Me (Unit {0}) Tally → ℕ → Me (Unit {0}) Tally → Type 0
Noted step v found w = Sum step.word v.0 found w.0 × (w.1 ≡ v.1)

-- the seat with this view
abbrev pub account : TableId → Tally → Account
account table v = record { bank = table; parts = v.parts; added = v.added; noted = v.noted }
