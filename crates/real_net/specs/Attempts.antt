-- What the answers of the system's calls mean, and what tries of a call come to.
-- Which answers a try may give, and what the object is then, is a relation that the object alone knows: only a try shows one.
use Rattle.std.specs.Prelude.{◌≡◌, ◌≢◌, ℕ, zero, suc, ◌<◌, ◌⊎◌, List, take, Result, Ok, Err}
use Rattle.std.specs.IoError.{error_kind}
use Rattle.std.specs.declared.io.Error.{Error}
use Rattle.std.specs.declared.io.ErrorKind.{ErrorKind}
use Rattle.std.specs.declared.io.ErrorKind.TheVariants as io
use Rattle.real_net.specs.declared.attempts.Trouble.{Trouble}
use Rattle.real_net.specs.declared.attempts.Trouble.TheVariants as trouble

-- a signal cut the call short, or the time for which it may wait passed; all else is a fault
abbrev pub trouble_of : ErrorKind → Trouble
trouble_of io.Interrupted = trouble.CutShort
trouble_of io.WouldBlock = trouble.TimedOut
trouble_of io.TimedOut = trouble.TimedOut
trouble_of _ = trouble.Fault

-- an answer of the system, with what its error means
abbrev pub judged : {A : Type 0} → Result A Error → Result A Trouble
judged (Ok x) = Ok x
judged (Err e) = Err (trouble_of (error_kind e))

-- the bytes that a call put into the front of a buffer
abbrev pub given : {E : Type 0} → Result ℕ E → List ℕ → Result (List ℕ) E
given (Ok count) buf = Ok (take count buf)
given (Err e) buf = Err e

-- so many tries, each of which a signal cut short, led from one state to the other
abbrev pub CutShort : {S A : Type 0} → (S → Result A Error → S → Type 0) → ℕ → S → S → Type 0
CutShort answers zero old new = new ≡ old
CutShort {S} {A} answers (suc tries) old new =
    (between : S) × (answer : Result A Error) × CutShort answers tries old between × answers between answer new × (judged answer ≡ Err trouble.CutShort)

-- a try that no signal cut short came to this, where fewer were made before it than may be; else all were cut short
abbrev pub EndsTries : {S A : Type 0} → (S → Result A Error → S → Type 0) → ℕ → ℕ → S → S → Result A Trouble → Type 0
EndsTries {S} {A} answers most tries between new told =
    ((tries < most) × (told ≢ Err trouble.CutShort) × ((answer : Result A Error) × answers between answer new × (told ≡ judged answer)))
    ⊎ ((tries ≡ most) × (new ≡ between) × (told ≡ Err trouble.CutShort))

-- what tries of a call come to, of which as many are made as may be, but none behind one that no signal cut short
pub record IsTriedBy {S A : Type 0} (answers : S → Result A Error → S → Type 0) (most : ℕ) (old new : S) (told : Result A Trouble) : Type 0 where
  pub tries : ℕ
  pub between : S
  pub cut : CutShort answers tries old between
  pub ends : EndsTries answers most tries between new told
