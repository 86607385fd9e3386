-- The streams and the clock of the system: what their answers mean, and what tries of them come to.
-- Which answers a try may give, and what the object is then, is a relation that the object alone knows: only a try shows one.
use Rattle.std.specs.Prelude.{◌≡◌, ◌≢◌, ℕ, zero, suc, ◌+◌, ◌-◌, ◌^◌, ◌<◌, ◌==◌, ◌⊎◌, ◌↔◌, if◌then◌else◌, min, max, Option, Some, None, Result, Ok, Err, IsOk, ⊤}
use Rattle.std.specs.Duration.{as_nanos}
use Rattle.std.specs.declared.time.Duration.{Duration}
use Rattle.std.specs.IoError.{error_kind}
use Rattle.std.specs.declared.io.Error.{Error}
use Rattle.std.specs.declared.io.ErrorKind.TheVariants.{Interrupted}
use Rattle.sw_edge.specs.declared.answers.Got.{Got}
use Rattle.sw_edge.specs.declared.answers.Got.TheVariants as got
use Rattle.sw_edge.specs.declared.answers.Sent.{Sent}
use Rattle.sw_edge.specs.declared.answers.Sent.TheVariants as sent

-- a stream that is read, and how often it failed and met its end
pub record MeteredReader (S : Type 0) : Type 0 where
  pub stream : S
  pub faults : ℕ
  pub ends : ℕ

-- a stream that is written, and how often it failed
pub record MeteredWriter (S : Type 0) : Type 0 where
  pub stream : S
  pub faults : ℕ

-- a signal cut the call short
abbrev pub IsCutShort : Result ℕ Error → Type 0
IsCutShort (Ok count) = ⊥
IsCutShort (Err e) = error_kind e ≡ Interrupted

-- what one read tells: no bytes are the end, and where a signal cut the read short it is tried again
abbrev pub ReadTells : Result ℕ Error → Option Got → Type 0
ReadTells answer None = IsCutShort answer
ReadTells (Ok count) (Some told) = told ≡ (if count == 0 then got.End else got.Bytes count)
ReadTells (Err e) (Some told) = (error_kind e ≢ Interrupted) × (told ≡ got.Failed)

-- how many bytes one write took, none where a signal cut it short; where it took none or failed, no more are tried
abbrev pub WriteTakes : Result ℕ Error → Option ℕ → Type 0
WriteTakes (Ok count) took = took ≡ (if count == 0 then None else Some count)
WriteTakes (Err e) None = error_kind e ≢ Interrupted
WriteTakes (Err e) (Some took) = (error_kind e ≡ Interrupted) × (took ≡ 0)

-- so many tries, each of which a signal cut short, led from one state to the other
abbrev pub CutShort : {S : Type 0} → (S → Result ℕ Error → S → Type 0) → ℕ → S → S → Type 0
CutShort answers zero old new = new ≡ old
CutShort {S} answers (suc tries) old new = (between : S) × (answer : Result ℕ Error) × CutShort answers tries old between × answers between answer new × IsCutShort answer

-- a try told this, where fewer were made before it than may be; else it is a fault
abbrev pub EndsReading : {S : Type 0} → (S → Result ℕ Error → S → Type 0) → ℕ → ℕ → S → S → Got → Type 0
EndsReading answers most tries between new told =
    ((tries < most) × ((answer : Result ℕ Error) × answers between answer new × ReadTells answer (Some told)))
    ⊎ ((tries ≡ most) × (new ≡ between) × (told ≡ got.Failed))

-- what tries of a read tell, of which as many are made as may be, but none behind one that tells something
pub record IsReadBy {S : Type 0} (answers : S → Result ℕ Error → S → Type 0) (most : ℕ) (old new : S) (told : Got) : Type 0 where
  pub tries : ℕ
  pub between : S
  pub cut : CutShort answers tries old between
  pub ends : EndsReading answers most tries between new told

-- so many tries, which took so many bytes in all, led from one state to the other; a signal may have cut some of them short
abbrev pub Took : {S : Type 0} → (S → Result ℕ Error → S → Type 0) → ℕ → ℕ → S → S → Type 0
Took answers zero done old new = (done ≡ 0) × (new ≡ old)
Took {S} answers (suc tries) done old new =
    (between : S) × (before : ℕ) × (took : ℕ) × (answer : Result ℕ Error)
    × Took answers tries before old between × answers between answer new × WriteTakes answer (Some took) × (done ≡ before + took)

-- all is written, or a try says that no more are to be made, or there were as many as may be
abbrev pub EndsWriting : {S : Type 0} → (S → Result ℕ Error → S → Type 0) → ℕ → ℕ → S → S → ℕ → ℕ → Type 0
EndsWriting answers most tries between new wanted done =
    ((done ≡ wanted) × (new ≡ between))
    ⊎ ((done < wanted) × (tries < most) × ((answer : Result ℕ Error) × answers between answer new × WriteTakes answer None))
    ⊎ ((done < wanted) × (tries ≡ most) × (new ≡ between))

-- how many of so many bytes tries of a write took
pub record IsWrittenBy {S : Type 0} (answers : S → Result ℕ Error → S → Type 0) (most : ℕ) (old new : S) (wanted done : ℕ) : Type 0 where
  pub tries : ℕ
  pub between : S
  pub took : Took answers tries done old between
  pub ends : EndsWriting answers most tries between new wanted done

-- the answer of a write of so many bytes: all were taken, and the flush behind them did not fail
pub record IsSentBy {S : Type 0} (answers : S → Result ℕ Error → S → Type 0) (flushes : S → Result ⊤ Error → S → Type 0) (most : ℕ) (old new : S) (wanted : ℕ) (told : Sent) : Type 0 where
  pub done : ℕ
  pub between : S
  pub written : IsWrittenBy answers most old between wanted done
  pub flushed : Result ⊤ Error
  pub flush : flushes between flushed new
  pub told_is : (told ≡ sent.All) ↔ ((done ≡ wanted) × IsOk flushed)

-- a clock, and the last moment that it told
pub record Timed (C : Type 0) : Type 0 where
  pub clock : C
  pub last : ℕ

-- The moment that is told behind another, in nanoseconds: what was read, as far as 64 bits go, but never one below the last;
-- that one again where nothing was read.
abbrev pub moment : ℕ → Result Duration Error → ℕ
moment last (Ok passed) = max last (min (as_nanos passed) (2 ^ 64 - 1))
moment last (Err e) = last

-- the moment is that of a reading of the clock
pub record IsTimedBy {C : Type 0} (readings : C → Result Duration Error → Type 0) (clock : C) (last now : ℕ) : Type 0 where
  pub read : Result Duration Error
  pub reading : readings clock read
  pub now_is : now ≡ moment last read
