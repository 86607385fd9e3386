-- Steps with the first cause to refuse, one after another, and what a function returns beside them.
use Rattle.std.specs.Prelude.{◌≡◌, Bool, if◌then◌else◌, Option, Some, None, Result, Ok, Err}
use Rattle.list_types.specs.declared.memory.Refusal.{Refusal}
use Rattle.list_types.specs.declared.memory.Refusal.TheVariants.{NoMemory, For}

infixl 10 ◌>>=◌
-- the next step, where the one before was not refused
abbrev pub ◌>>=◌ : {A B E : Type 0} → Result A E → (A → Result B E) → Result B E
(Ok x) >>= f = f x
(Err cause) >>= f = Err cause

-- the cause where a rule is broken, and else what comes after it
abbrev pub unless : {A E : Type 0} → Bool → E → Result A E → Result A E
unless broken cause next = if broken then Err cause else next

-- what was found, and a cause where nothing was
abbrev pub found : {A E : Type 0} → E → Option A → Result A E
found cause None = Err cause
found cause (Some x) = Ok x

-- What a function returned, seen by view, is what is meant. Want of memory may come at any time.
abbrev pub Gives : {X Y E : Type 0} → (X → Y) → Result X (Refusal E) → Result Y E → Type 0
Gives view (Ok x) meant = meant ≡ Ok (view x)
Gives view (Err NoMemory) meant = Unit {0}
Gives view (Err (For cause)) meant = meant ≡ Err cause

-- What a function that takes no memory returned, seen by view, is what is meant.
abbrev pub GivesExactly : {X Y E : Type 0} → (X → Y) → Result X E → Result Y E → Type 0
GivesExactly view (Ok x) meant = meant ≡ Ok (view x)
GivesExactly view (Err cause) meant = meant ≡ Err cause
