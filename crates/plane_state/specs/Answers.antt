-- What holds by how a change is answered.
use Rattle.std.specs.Prelude.{Result, Ok, Err}
use Rattle.list_types.specs.declared.memory.Refusal.{Refusal}
use Rattle.list_types.specs.declared.memory.Refusal.TheVariants as refusals

-- unless there was no memory
abbrev pub WithMemory : {A E : Type 0} → Result A (Refusal E) → Type 0 → Type 0
WithMemory (Ok x) P = P
WithMemory (Err refusals.NoMemory) P = Unit {0}
WithMemory (Err (refusals.For cause)) P = P

-- where there was no memory
abbrev pub WithoutMemory : {A E : Type 0} → Result A (Refusal E) → Type 0 → Type 0
WithoutMemory (Ok x) P = Unit {0}
WithoutMemory (Err refusals.NoMemory) P = P
WithoutMemory (Err (refusals.For cause)) P = Unit {0}

-- where it was refused for its cause
abbrev pub WhereRefused : {A E : Type 0} → Result A (Refusal E) → Type 0 → Type 0
WhereRefused (Ok x) P = Unit {0}
WhereRefused (Err refusals.NoMemory) P = Unit {0}
WhereRefused (Err (refusals.For cause)) P = P
