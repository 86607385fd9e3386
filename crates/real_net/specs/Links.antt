-- What a link over a stream tells, and what tries of the stream's calls come to.
use Rattle.std.specs.Prelude.{◌≡◌, ◌≢◌, ℕ, zero, suc, ◌+◌, ◌<◌, ◌==◌, ◌⊎◌, if◌then◌else◌, List, drop, length, Result, Ok, Err, ⊤}
use Rattle.std.specs.declared.io.Error.{Error}
use Rattle.sw_edge.specs.declared.answers.Pulled.{Pulled}
use Rattle.sw_edge.specs.declared.answers.Pulled.TheVariants as pulled
use Rattle.sw_edge.specs.declared.answers.Sent.{Sent}
use Rattle.sw_edge.specs.declared.answers.Sent.TheVariants as sent
use Rattle.real_net.specs.declared.attempts.Trouble.{Trouble}
use Rattle.real_net.specs.declared.attempts.Trouble.TheVariants as trouble
use Rattle.real_net.specs.Attempts.{IsTriedBy, given}

-- a link: its stream, and how often it failed, found nothing and met its end
pub record HeldLink (S : Type 0) : Type 0 where
  pub stream : S
  pub faults : ℕ
  pub quiets : ℕ
  pub ends : ℕ

-- no bytes are the end, a wait that was too long is quiet, and all else is a fault
abbrev pub pulled_of : Result ℕ Trouble → Pulled
pulled_of (Ok count) = if count == 0 then pulled.End else pulled.Bytes count
pulled_of (Err trouble.CutShort) = pulled.Failed
pulled_of (Err trouble.TimedOut) = pulled.Quiet
pulled_of (Err trouble.Fault) = pulled.Failed

-- the answer of a pull is that of its tries, and the bytes are those that the stream gave
pub record IsPulledBy {S : Type 0} (reads : S → Result (List ℕ) Error → S → Type 0) (most : ℕ) (old new : S) (buf : List ℕ) (told : Pulled) : Type 0 where
  pub answer : Result ℕ Trouble
  pub tried : IsTriedBy reads most old new (given answer buf)
  pub told_is : told ≡ pulled_of answer

-- so many writes of these bytes, each of which waited in vain, led from one state to the other
abbrev pub Waited : {S : Type 0} → (S → Result ℕ Error → S → Type 0) → ℕ → ℕ → S → S → Type 0
Waited writes most zero old new = new ≡ old
Waited {S} writes most (suc waits) old new =
    (between : S) × Waited writes most waits old between × IsTriedBy writes most between new (Err trouble.TimedOut)

-- a write that did not wait in vain came to this, where fewer did before it than may be; else it is given up
abbrev pub EndsWaits : {S : Type 0} → (S → Result ℕ Error → S → Type 0) → ℕ → ℕ → ℕ → S → S → Result ℕ Trouble → Type 0
EndsWaits writes most patience waits between new told =
    ((waits < patience) × (told ≢ Err trouble.TimedOut) × IsTriedBy writes most between new told)
    ⊎ ((waits ≡ patience) × (new ≡ between) × (told ≡ Err trouble.TimedOut))

-- what writes of these bytes come to, of which as many as may be wait in vain, but none is made behind one that did not
pub record IsWrittenBy {S : Type 0} (writes : S → Result ℕ Error → S → Type 0) (most patience : ℕ) (old new : S) (told : Result ℕ Trouble) : Type 0 where
  pub waits : ℕ
  pub between : S
  pub waited : Waited writes most waits old between
  pub ends : EndsWaits writes most patience waits between new told

-- so many writes, each of what was left of the bytes, took so many of them in all
abbrev pub Took : {S : Type 0} → (List ℕ → S → Result ℕ Error → S → Type 0) → ℕ → ℕ → List ℕ → ℕ → ℕ → S → S → Type 0
Took writes most patience bytes zero done old new = (done ≡ 0) × (new ≡ old)
Took {S} writes most patience bytes (suc count) done old new =
    (between : S) × (before : ℕ) × (took : ℕ)
    × Took writes most patience bytes count before old between × IsWrittenBy (writes (drop before bytes)) most patience between new (Ok took)
    × (0 < took) × (done ≡ before + took)

-- a write that takes no byte, and one that fails or waits in vain too often, ends a push
abbrev pub GivesUp : Result ℕ Trouble → Type 0
GivesUp (Ok count) = count ≡ 0
GivesUp (Err e) = ⊤

-- all bytes were taken, or a write of those that were left gave up
abbrev pub EndsPush : {S : Type 0} → (List ℕ → S → Result ℕ Error → S → Type 0) → ℕ → ℕ → List ℕ → ℕ → S → S → Sent → Type 0
EndsPush writes most patience bytes done between new told =
    ((done ≡ length bytes) × (new ≡ between) × (told ≡ sent.All))
    ⊎ ((done < length bytes) × (told ≡ sent.Failed) × ((answer : Result ℕ Trouble) × IsWrittenBy (writes (drop done bytes)) most patience between new answer × GivesUp answer))

-- the answer of a push is that of its writes
pub record IsPushedBy {S : Type 0} (writes : List ℕ → S → Result ℕ Error → S → Type 0) (most patience : ℕ) (old new : S) (bytes : List ℕ) (told : Sent) : Type 0 where
  pub count : ℕ
  pub done : ℕ
  pub between : S
  pub took : Took writes most patience bytes count done old between
  pub ends : EndsPush writes most patience bytes done between new told
