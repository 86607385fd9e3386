-- What a change of the tables answers.
use Rattle.std.specs.Prelude.{◌≡◌, Option, Some, None, Result, Ok, Err}
use Rattle.p4_types.specs.declared.code.Cause.{Cause}
use Rattle.list_types.specs.declared.memory.Refusal.{Refusal}
use Rattle.list_types.specs.declared.memory.Refusal.TheVariants as refusals

-- The change is refused just for the cause, if there is one, unless there was no memory.
abbrev pub Refuses : {A : Type 0} → Result A (Refusal Cause) → Option Cause → Type 0
Refuses (Ok x) cause = cause ≡ None
Refuses (Err refusals.NoMemory) cause = Unit {0}
Refuses (Err (refusals.For refused)) cause = cause ≡ Some refused
