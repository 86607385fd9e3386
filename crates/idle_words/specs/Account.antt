-- What a seat of stamps stands for.
use Rattle.std.specs.Prelude.{◌≡◌, ℕ, ◌+◌, ◌-◌, ◌^◌, ◌<◌, List, []}
use Rattle.atomic_table.specs.Seated.{TableId}
use Rattle.counter_bank.specs.Figures.{greater}
use Rattle.idle_words.specs.Moments.{moment_of, with_moment, NoneAbove}

-- which stamps they are
abbrev pub StampsId : Type 0
StampsId = TableId

-- stamps, and how many they are
pub record Opened : Type 0 where
  pub id : StampsId
  pub count : ℕ

-- a seat: its stamps, its parts of them, the moments that it has touched them with, and those that it has found there
pub record Account : Type 0 where
  pub stamps : StampsId
  pub parts : ℕ
  pub touched : List ℕ
  pub noted : List ℕ

-- the parts that the seats of stamps have together
abbrev pub all_parts : ℕ
all_parts = 2 ^ 32

-- the most stamps that there may be
abbrev pub most_stamps : ℕ
most_stamps = 1048576

-- the first seat has every part, and has touched and noted nothing
abbrev pub first_seat : StampsId → Account
first_seat s = record { stamps = s; parts = all_parts; touched = []; noted = [] }

-- the seat after it touched a stamp
abbrev pub after_touch : Account → ℕ → ℕ → Account
after_touch a stamp moment = record { stamps = a.stamps; parts = a.parts; touched = with_moment a.touched stamp moment; noted = a.noted }

-- the seat after it found a stamp's moment
abbrev pub after_look : Account → ℕ → ℕ → Account
after_look a stamp moment = record { stamps = a.stamps; parts = a.parts; touched = a.touched; noted = with_moment a.noted stamp moment }

-- the seat after it gave a part away
abbrev pub less_a_part : Account → Account
less_a_part a = record { stamps = a.stamps; parts = a.parts - 1; touched = a.touched; noted = a.noted }

-- a seat with that part: it has touched nothing, and knows what the other has noted
abbrev pub with_a_part : Account → Account
with_a_part a = record { stamps = a.stamps; parts = 1; touched = []; noted = a.noted }

-- the seat after it took another in
abbrev pub joined : Account → Account → Account
joined a b = record { stamps = a.stamps; parts = a.parts + b.parts; touched = greater a.touched b.touched; noted = greater a.noted b.noted }

-- for each of the stamps, the last moment is the greatest that it was touched with, or 0
abbrev pub AreLast : List ℕ → ℕ → List ℕ → Type 0
AreLast last count touched = (stamp : ℕ) → stamp < count → moment_of last stamp ≡ moment_of touched stamp

-- the seat noted moments, and nothing else of it changed
pub record OnlyNotes (before after : Account) : Type 0 where
  pub stamps : after.stamps ≡ before.stamps
  pub parts : after.parts ≡ before.parts
  pub touched : after.touched ≡ before.touched
  pub noted : NoneAbove before.noted after.noted
