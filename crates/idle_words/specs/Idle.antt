-- Which entries a tick names as idle (P4Runtime 1.3.0, `IdleTimeoutNotification`). An entry is known by its stamp, which it keeps and no other entry ever has. All moments and timeouts are nanoseconds.
use Rattle.std.specs.Prelude.{◌≡◌, ℕ, ◌+◌, ◌≤◌, ◌^◌, ◌==◌, ◌&&◌, ◌||◌, Bool, false, not, nat_lt, nat_le, if◌then◌else◌, Option, Some, None, List, [], ◌∷◌, map, filter, fold, slice_index, All}
use Rattle.std.specs.List.{list_any}
use Rattle.counter_bank.specs.Figures.{raise_at}
use Rattle.idle_words.specs.declared.idle.Watched.{Watched}
use Rattle.idle_words.specs.Moments.{moment_of}
use Rattle.idle_words.specs.Account.{Account, after_look}

-- a watched entry, and the last moment that a tick found at its stamp
pub record Look : Type 0 where
  pub entry : Watched
  pub last : ℕ

-- a tick: its moment, and what it found
pub record Tick : Type 0 where
  pub now : ℕ
  pub looks : List Look

-- the timeout has passed: it is above 0, and now is at least the last moment and the timeout together
abbrev pub is_due : ℕ → Look → Bool
is_due now look = nat_lt 0 look.entry.timeout && nat_le (look.last + look.entry.timeout) now

-- one of these ticks, the latest of which is the first, named the entry of a stamp at this last moment
abbrev pub was_named : List Tick → ℕ → ℕ → Bool
was_named [] stamp last = false
was_named (tick ∷ earlier) stamp last = was_named earlier stamp last
    || list_any (λ (look : Look). (look.entry.stamp == stamp) && (look.last == last) && (is_due tick.now look && not (was_named earlier look.entry.stamp look.last))) tick.looks

-- the sequence numbers that a tick behind these names: of the entries whose timeout has passed, and that no earlier tick named at the same last moment
abbrev pub idle : List Tick → Tick → List ℕ
idle earlier tick = map (λ (look : Look). look.entry.seq) (filter (λ look. is_due tick.now look && not (was_named earlier look.entry.stamp look.last)) tick.looks)

-- what is kept from tick to tick: for each stamp the least last moment at which its entry has not been named, and the next moment at which one may be
pub record Remembered : Type 0 where
  pub untold : List ℕ
  pub next : Option ℕ

-- the tick names this entry
abbrev pub is_named : List ℕ → ℕ → Look → Bool
is_named untold now look = is_due now look && nat_le (slice_index untold look.entry.stamp) look.last

-- what the tick names
abbrev pub named : List ℕ → ℕ → List Look → List Look
named untold now looks = filter (λ look. is_named untold now look) looks

-- their sequence numbers, in the order of the list
abbrev pub names : List ℕ → ℕ → List Look → List ℕ
names untold now looks = map (λ (look : Look). look.entry.seq) (named untold now looks)

-- what is not told behind it
abbrev pub untold_after : List ℕ → ℕ → List Look → List ℕ
untold_after untold now looks = fold (λ before (look : Look). raise_at before look.entry.stamp (look.last + 1)) untold (named untold now looks)

-- the moment, where it is one
abbrev pub moment : ℕ → Option ℕ
moment n = if nat_lt n (2 ^ 64) then Some n else None

-- The moment at which an entry may be named next. One whose timeout has passed is named again only behind a hit.
abbrev pub next_of : ℕ → Look → Option ℕ
next_of now look = if look.entry.timeout == 0 then None else (if is_due now look then moment (now + look.entry.timeout) else moment (look.last + look.entry.timeout))

-- the earlier of two moments, where there are any
abbrev pub earlier_of : Option ℕ → Option ℕ → Option ℕ
earlier_of None next = next
earlier_of (Some m) None = Some m
earlier_of (Some m) (Some n) = if nat_le m n then Some m else Some n

-- the next moment at which one of the entries may be named
abbrev pub earliest : ℕ → List Look → Option ℕ
earliest now looks = fold (λ next look. earlier_of next (next_of now look)) None looks

-- the seat after it found these moments
abbrev pub after_looks : Account → List Look → Account
after_looks a looks = fold (λ b (look : Look). after_look b look.entry.stamp look.last) a looks

-- the moment that was found is at least what the seat has touched and noted there
pub record IsSince (a : Account) (look : Look) : Type 0 where
  pub own : moment_of a.touched look.entry.stamp ≤ look.last
  pub since : moment_of a.noted look.entry.stamp ≤ look.last

-- What a tick did: it looked at each entry, answered names, and kept what it told.
pub record Ticked (now : ℕ) (entries : List Watched) (before after : Remembered) (was is : Account) (answer : List ℕ) : Type 0 where
  pub looks : List Look
  pub entries_are : map (λ (look : Look). look.entry) looks ≡ entries
  pub moments : All (IsSince was) looks
  pub seat_is : is ≡ after_looks was looks
  pub names_are : answer ≡ names before.untold now looks
  pub kept_is : after ≡ record { untold = untold_after before.untold now looks; next = earliest now looks }
