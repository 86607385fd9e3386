-- What the changes of moments do, stamp by stamp, and what ticks name.
use Rattle.std.specs.Prelude.{◌≡◌, ◌≢◌, ℕ, ◌+◌, ◌<◌, ◌≤◌, ◌^◌, max, ◌⊎◌, IsTrue, List, [], ◌∷◌, replicate, All, IfSome}
use Rattle.std.specs.List.{AllZip}
use Rattle.counter_bank.specs.Figures.{greater}
use Rattle.idle_words.specs.Moments.{moment_of, with_moment, NoneAbove}
use Rattle.idle_words.specs.Account.{Account}
use Rattle.idle_words.specs.Idle.{Look, Tick, IsSince, idle, is_due, names, untold_after, earliest, after_looks}

-- a moment stands at its stamp where it is greater than what stood there, and nowhere else
abbrev pub RaisesOneStamp : Type 0
RaisesOneStamp = (xs : List ℕ) (stamp moment : ℕ) → let ys = with_moment xs stamp moment in
    (moment_of ys stamp ≡ max (moment_of xs stamp) moment) × ((other : ℕ) → other ≢ stamp → moment_of ys other ≡ moment_of xs other)

-- of the moments of two seats the greater stands at each stamp
abbrev pub GreaterAtEachStamp : Type 0
GreaterAtEachStamp = (xs ys : List ℕ) (stamp : ℕ) → moment_of (greater xs ys) stamp ≡ max (moment_of xs stamp) (moment_of ys stamp)

-- none of these changes lowers a moment
abbrev pub NoMomentFalls : Type 0
NoMomentFalls = (xs ys : List ℕ) (stamp moment : ℕ) → NoneAbove xs (with_moment xs stamp moment) × NoneAbove xs (greater xs ys) × NoneAbove ys (greater xs ys)

-- what a tick finds at a stamp is no less than what these ticks found there
abbrev pub IsLater : List Tick → Look → Type 0
IsLater earlier look = All (λ (tick : Tick). All (λ (was : Look). was.entry.stamp ≡ look.entry.stamp → was.last ≤ look.last) tick.looks) earlier

-- the last moments that the ticks found, the latest tick first, never fall
abbrev pub NeverFall : List Tick → Type 0
NeverFall [] = Unit {0}
NeverFall (tick ∷ earlier) = All (IsLater earlier) tick.looks × NeverFall earlier

-- what is not told behind the ticks, the latest of which is the first; before the first tick it is 0 for each stamp
abbrev pub untold_by : ℕ → List Tick → List ℕ
untold_by stamps [] = replicate stamps 0
untold_by stamps (tick ∷ earlier) = untold_after (untold_by stamps earlier) tick.now tick.looks

-- what a tick names by what was kept is what it names by all earlier ticks, where moments never fall
abbrev pub NamesTheIdle : Type 0
NamesTheIdle = (stamps : ℕ) (earlier : List Tick) (tick : Tick) → NeverFall (tick ∷ earlier) → names (untold_by stamps earlier) tick.now tick.looks ≡ idle earlier tick

-- the seat has noted all that these ticks found
abbrev pub Knows : List ℕ → List Tick → Type 0
Knows noted ticks = All (λ (tick : Tick). All (λ (look : Look). look.last ≤ moment_of noted look.entry.stamp) tick.looks) ticks

-- the moments that one seat finds, tick behind tick, never fall
abbrev pub OneSeatNeverFalls : Type 0
OneSeatNeverFalls = (a : Account) (earlier : List Tick) (tick : Tick) → Knows a.noted earlier → NeverFall earlier → All (IsSince a) tick.looks
    → NeverFall (tick ∷ earlier) × Knows (after_looks a tick.looks).noted (tick ∷ earlier)

-- a later tick found the same moment at the entry's stamp, or a greater one, which is of no hit before now where the timeout had passed
pub record IsBehind (now : ℕ) (was is : Look) : Type 0 where
  pub entry : was.entry ≡ is.entry
  pub rises : was.last ≤ is.last
  pub behind : IsTrue (is_due now was) → (is.last ≡ was.last) ⊎ (now ≤ is.last)

-- a tick before the next moment that was kept names nothing
abbrev pub NothingBeforeNext : Type 0
NothingBeforeNext = (untold : List ℕ) (now later : ℕ) (looks found : List Look) → AllZip (IsBehind now) looks found → later < 2 ^ 64 → IfSome (earliest now looks) (λ next. later < next)
    → names (untold_after untold now looks) later found ≡ []

-- a tick before the least last moment and timeout together names nothing, since moments never fall
abbrev pub NothingBeforeTheLeast : Type 0
NothingBeforeTheLeast = (untold : List ℕ) (later : ℕ) (looks found : List Look) → AllZip (λ (was is : Look). (was.entry ≡ is.entry) × (was.last ≤ is.last)) looks found
    → All (λ (look : Look). 0 < look.entry.timeout → later < look.last + look.entry.timeout) looks → names untold later found ≡ []
