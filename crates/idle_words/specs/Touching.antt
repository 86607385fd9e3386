-- The rule of the stamps' words, and what each step does to a view.
use Rattle.std.specs.Prelude.{◌≡◌, ℕ, ◌+◌, ◌-◌, ◌<◌, ◌≤◌, List, [], length, slice_index, sum_by}
use mathlib.Core.Option.{some}
use lib.ListN.{get_elem?}
use Rattle.atomic_table.specs.Table.{State, Me, Step}
use Rattle.atomic_table.specs.Seated.{TableId}
use Rattle.counter_bank.specs.Figures.{raise_at, greater}
use Rattle.idle_words.specs.declared.knowledge.Knowledge.{Knowledge}
use Rattle.idle_words.specs.Moments.{greatest_by}
use Rattle.idle_words.specs.Account.{Account, all_parts}

-- the greatest moment that any view has touched a word with, or 0
abbrev pub greatest_at : List Knowledge → ℕ → ℕ
greatest_at views i = greatest_by (λ (v : Knowledge). slice_index v.touched i) views

-- the parts of all views
abbrev pub parts_of : List Knowledge → ℕ
parts_of views = sum_by (λ (v : Knowledge). v.parts) views

-- no moment that the view noted is above the greatest, and without a part the view has touched nothing
pub record Agrees (views : List Knowledge) (v : Knowledge) : Type 0 where
  pub noted : (i : ℕ) → slice_index v.noted i ≤ greatest_at views i
  pub spent : v.parts ≡ 0 → (i : ℕ) → slice_index v.touched i ≡ 0

-- each of the n words is the greatest moment that any view has touched it with, or 0
pub record Kept (n : ℕ) (s : State (Unit {0}) Knowledge) : Type 0 where
  pub count : length s.words ≡ n
  pub words : (i : ℕ) → i < n → slice_index s.words i ≡ greatest_at s.views i
  pub parts : parts_of s.views ≡ all_parts
  pub each : (id : ℕ) (v : Knowledge) → get_elem? s.views id ≡ some v → Agrees s.views v

-- the first view: it has every part, and has touched and noted nothing
abbrev pub first_view : Knowledge
first_view = record { parts = all_parts; touched = []; noted = [] }

-- the view that has touched a word with a moment
abbrev pub touching : Knowledge → ℕ → ℕ → Knowledge
touching v i n = record { parts = v.parts; touched = raise_at v.touched i n; noted = v.noted }

-- the view that has noted a moment at a word
abbrev pub noting : Knowledge → ℕ → ℕ → Knowledge
noting v i n = record { parts = v.parts; touched = v.touched; noted = raise_at v.noted i n }

-- the view after it gave a part away
abbrev pub one_less : Knowledge → Knowledge
one_less v = record { parts = v.parts - 1; touched = v.touched; noted = v.noted }

-- a view with that part: it has touched nothing, and knows what the other has noted
abbrev pub one_part : Knowledge → Knowledge
one_part v = record { parts = 1; touched = []; noted = v.noted }

-- the view after it took another in
abbrev pub together : Knowledge → Knowledge → Knowledge
together v w = record { parts = v.parts + w.parts; touched = greater v.touched w.touched; noted = greater v.noted w.noted }

-- what is left of the view that was taken in: no part, and nothing touched or noted
abbrev pub nobody : Knowledge
nobody = record { parts = 0; touched = []; noted = [] }

-- what raising a word to its first operand tells
abbrev pub Touched : Step (Unit {0}) → Me (Unit {0}) Knowledge → ℕ → Me (Unit {0}) Knowledge → Type 0
Touched step v found w = w ≡ (touching v.0 step.word step.first, v.1)

-- a moment that was found is at least what the view has noted and touched there, and the view notes it
pub record Found (i : ℕ) (v : Knowledge) (moment : ℕ) (w : Knowledge) : Type 0 where
  pub since : slice_index v.noted i ≤ moment
  pub own : slice_index v.touched i ≤ moment
  pub view_is : w ≡ noting v i moment

-- what a load tells
abbrev pub Noted : Step (Unit {0}) → Me (Unit {0}) Knowledge → ℕ → Me (Unit {0}) Knowledge → Type 0
Noted step v found w = Found step.word v.0 found w.0 × (w.1 ≡ v.1)

-- the seat with this view
abbrev pub account : TableId → Knowledge → Account
account table v = record { stamps = table; parts = v.parts; touched = v.touched; noted = v.noted }
