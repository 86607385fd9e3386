-- What a tape is that was read from a source, and which answer comes first (this project's profile).
use Rattle.std.specs.Prelude.{◌≡◌, ℕ, zero, suc, ◌-◌, ◌<◌, ◌≤◌, ◌==◌, if◌then◌else◌, ◌⊎◌, List, length, Option, Result, Ok, Err, ⊤}
use Rattle.list_types.specs.declared.memory.Refusal.{Refusal}
use Rattle.list_types.specs.declared.memory.Refusal.TheVariants as refusals
use Rattle.tape_spec.specs.declared.item.TapeItem.{TapeItem}
use Rattle.sw_edge.specs.Counts.{Rose}
use Rattle.sw_edge.specs.Told.{Consumes, IsAtEnd}
use Rattle.tape_spec.specs.Items.{no_item_lanes, AreItems, bytes_of, IsTapeOf, IsLongestFront}
use Rattle.tape_spec.specs.ReadingLaws.{IsNone, GoesBeyond}
use Rattle.tape_spec.specs.Reading.{Flaw, Bad, TooMany, tape_at}
use Rattle.tape_form.specs.declared.limits.TheConstants.{MAX_TAPE, MAX_RECORDS}
use Rattle.tape_form.specs.declared.fault.TapeFault.{TapeFault}
use Rattle.tape_form.specs.declared.fault.TapeFault.TheVariants as faults
use Rattle.tape_form.specs.declared.parse.Flaw.{Flaw as Found}
use Rattle.tape_form.specs.declared.parse.Flaw.TheVariants as found
use Rattle.tape_form.specs.declared.fault.Ended.{Ended}
use Rattle.tape_form.specs.declared.fault.Ended.TheVariants.{AtEnd, AtFault, AtLimit}

-- the records of a tape within the limits
pub record InLimits (records : List TapeItem) : Type 0 where
  pub each : AreItems no_item_lanes records
  pub count : length records ≤ MAX_RECORDS
  pub size : length (bytes_of records) ≤ MAX_TAPE

-- the answer where the bytes that were taken are a tape
abbrev pub when_whole : List TapeItem → Ended → Result (List TapeItem) (Refusal TapeFault)
when_whole records AtEnd = Ok records
when_whole records AtFault = Err (refusals.For faults.Fault)
when_whole records AtLimit = Err (refusals.For faults.TooLong)

-- the answer where they begin a tape, but are none
abbrev pub when_short : ℕ → Ended → Result (List TapeItem) (Refusal TapeFault)
when_short taken AtEnd = Err (refusals.For (faults.Bad taken))
when_short taken AtFault = Err (refusals.For faults.Fault)
when_short taken AtLimit = Err (refusals.For faults.TooLong)

-- the answer to a bad byte; where the limit of bytes has its place, the limit is answered
abbrev pub when_bad : ℕ → Ended → Result (List TapeItem) (Refusal TapeFault)
when_bad place AtEnd = Err (refusals.For (faults.Bad place))
when_bad place AtFault = Err (refusals.For (faults.Bad place))
when_bad place AtLimit = if place == MAX_TAPE then Err (refusals.For faults.TooLong) else Err (refusals.For (faults.Bad place))

-- the answer to what so many bytes were read as
abbrev pub judged : ℕ → Ended → Result (List TapeItem) Flaw → Result (List TapeItem) (Refusal TapeFault)
judged taken ended (Ok records) = when_whole records ended
judged taken ended (Err (TooMany left)) = Err (refusals.For faults.TooLong)
judged taken ended (Err (Bad zero)) = when_short taken ended
judged taken ended (Err (Bad (suc left))) = when_bad (taken - suc left) ended

-- The answer to the bytes that were taken: the first of a bad byte, a limit and a fault in the order of the bytes.
-- The limit of bytes has the place behind as many, the limit of records that before the record past it.
abbrev pub outcome : List ℕ → Ended → Result (List TapeItem) (Refusal TapeFault)
outcome taken ended = judged (length taken) ended (tape_at MAX_RECORDS taken)

-- the answer where the bytes that were taken are a tape, but there was no memory for its records
abbrev pub when_unkept : Ended → Result (List TapeItem) (Refusal TapeFault)
when_unkept AtEnd = Err refusals.NoMemory
when_unkept AtFault = Err (refusals.For faults.Fault)
when_unkept AtLimit = Err (refusals.For faults.TooLong)

-- the answer where they are a tape, whose records are kept, seen by view, or not
abbrev pub kept_answer : {X E : Type 0} → (X → List TapeItem) → Ended → Result X E → Result (List TapeItem) (Refusal TapeFault)
kept_answer view ended (Ok x) = when_whole (view x) ended
kept_answer view ended (Err e) = when_unkept ended

-- the answer to what so many bytes were read as, and to whether records are kept
abbrev pub answer_of : {X E : Type 0} → (X → List TapeItem) → ℕ → Ended → Result (Result X E) Found → Result (List TapeItem) (Refusal TapeFault)
answer_of view taken ended (Ok kept) = kept_answer view ended kept
answer_of view taken ended (Err (found.Bad left)) = judged taken ended (Err (Bad left))
answer_of view taken ended (Err (found.TooMany left)) = judged taken ended (Err (TooMany left))

-- the answer is the one that is due, but want of memory may come in the place of records, and of nothing else
abbrev pub IsDue : Result (List TapeItem) (Refusal TapeFault) → Result (List TapeItem) (Refusal TapeFault) → Type 0
IsDue (Ok records) due = due ≡ Ok records
IsDue (Err refusals.NoMemory) due = (records : List TapeItem) × (due ≡ Ok records)
IsDue (Err (refusals.For (faults.Bad place))) due = due ≡ Err (refusals.For (faults.Bad place))
IsDue (Err (refusals.For faults.TooLong)) due = due ≡ Err (refusals.For faults.TooLong)
IsDue (Err (refusals.For faults.Fault)) due = due ≡ Err (refusals.For faults.Fault)

-- no more bytes were taken than the end of the taking allows
abbrev pub EndsWithin : Ended → List ℕ → Type 0
EndsWithin AtEnd taken = length taken ≤ MAX_TAPE
EndsWithin AtFault taken = length taken ≤ MAX_TAPE
EndsWithin AtLimit taken = length taken ≡ suc MAX_TAPE

-- nothing is left, or the source's faults rose
abbrev pub EndsSo : Ended → Option (List ℕ) → ℕ → ℕ → Type 0
EndsSo AtEnd new before now = IsAtEnd new
EndsSo AtFault new before now = Rose before now
EndsSo AtLimit new before now = ⊤

-- the same, and without a fault the source's faults are as before
abbrev pub EndsSoundly : Ended → Option (List ℕ) → ℕ → ℕ → Type 0
EndsSoundly AtEnd new before now = IsAtEnd new × (now ≡ before)
EndsSoundly AtFault new before now = Rose before now
EndsSoundly AtLimit new before now = now ≡ before

-- the end of the source was met, once, or it was not
abbrev pub EndsMet : Ended → ℕ → ℕ → Type 0
EndsMet AtEnd before now = Rose before now
EndsMet AtFault before now = now ≡ before
EndsMet AtLimit before now = now ≡ before

-- the answer is the outcome of what was taken, as the taking ended
pub record IsOutcome (answer : Result (List TapeItem) (Refusal TapeFault)) (taken : List ℕ) (new : Option (List ℕ)) (before now : ℕ) : Type 0 where
  pub ended : Ended
  pub so : EndsSo ended new before now
  pub soundly : EndsSoundly ended new before now
  pub within : EndsWithin ended taken
  pub same : outcome taken ended ≡ answer

-- bytes were taken from the source, no more than one behind the limit
pub record IsTakenFrom (old new : Option (List ℕ)) (taken : List ℕ) : Type 0 where
  pub consumed : Consumes old new taken
  pub size : length taken ≤ suc MAX_TAPE

-- The taking broke off for want of memory: the source has not failed, and no more was taken than a tape may have.
pub record BreaksOff (taken : List ℕ) (before now : ℕ) : Type 0 where
  pub sound : now ≡ before
  pub within : length taken ≤ MAX_TAPE

-- Want of memory comes where the taking breaks off, or in the place of the records of a whole tape: it hides no fault of the
-- source and no byte too many, and in the place of records no bad byte and no record too many.
abbrev pub WantsMemory : List ℕ → Option (List ℕ) → ℕ → ℕ → Type 0
WantsMemory taken new before now = BreaksOff taken before now ⊎ ((records : List TapeItem) × IsOutcome (Ok records) taken new before now)

-- the answer is the outcome of what was taken, or it is for want of memory
abbrev pub AnswersTo : Result (List TapeItem) (Refusal TapeFault) → List ℕ → Option (List ℕ) → ℕ → ℕ → Type 0
AnswersTo (Ok records) taken new before now = IsOutcome (Ok records) taken new before now
AnswersTo (Err refusals.NoMemory) taken new before now = WantsMemory taken new before now
AnswersTo (Err (refusals.For (faults.Bad place))) taken new before now = IsOutcome (Err (refusals.For (faults.Bad place))) taken new before now
AnswersTo (Err (refusals.For faults.TooLong)) taken new before now = IsOutcome (Err (refusals.For faults.TooLong)) taken new before now
AnswersTo (Err (refusals.For faults.Fault)) taken new before now = IsOutcome (Err (refusals.For faults.Fault)) taken new before now

-- Bytes were taken from the source, no more than one behind the limit, and the answer is their outcome, or for want of memory.
pub record IsReadFrom (old new : Option (List ℕ)) (before now : ℕ) (answer : Result (List TapeItem) (Refusal TapeFault)) : Type 0 where
  pub taken : List ℕ
  pub from : IsTakenFrom old new taken
  pub answers : AnswersTo answer taken new before now

-- all that was left was taken, and it is the tape of these records
pub record IsWholeTape (old new : Option (List ℕ)) (records : List TapeItem) : Type 0 where
  pub taken : List ℕ
  pub consumed : Consumes old new taken
  pub tape : IsTapeOf taken records
  pub at_end : IsAtEnd new
  pub size : length taken ≤ MAX_TAPE
  pub count : length records ≤ MAX_RECORDS

-- bytes were taken from the source that are no more than a tape may have, and the source has not failed
pub record IsUnfinished (old new : Option (List ℕ)) (before now : ℕ) : Type 0 where
  pub taken : List ℕ
  pub consumed : Consumes old new taken
  pub within : length taken ≤ MAX_TAPE
  pub sound : now ≡ before

-- The end of the source was not met, or all that was left was taken, and is a tape: what comes behind the end of a source hides no bad
-- byte and no limit.
abbrev pub HidesNothing : Option (List ℕ) → Option (List ℕ) → ℕ → ℕ → Type 0
HidesNothing old new ends_before ends_now = (ends_now ≡ ends_before) ⊎ ((items : List TapeItem) × IsWholeTape old new items)

-- what was taken is no tape, and none begins with more of it than so many bytes
pub record IsBadAt (old new : Option (List ℕ)) (place : ℕ) : Type 0 where
  pub taken : List ℕ
  pub consumed : Consumes old new taken
  pub exact : IsLongestFront taken place
  pub no_tape : IsNone taken
  pub shown : (place < length taken) ⊎ IsAtEnd new

-- what was taken has more bytes than a tape may have, or as many records as it may have and one more that begins
pub record IsTooLong (old new : Option (List ℕ)) : Type 0 where
  pub taken : List ℕ
  pub consumed : Consumes old new taken
  pub past : (MAX_TAPE < length taken) ⊎ ((left : ℕ) × GoesBeyond MAX_RECORDS taken left)

-- the answer to a source that gives the tape of these records and nothing else: they, a fault, or want of memory
abbrev pub IsAnswerToTape : List TapeItem → Result (List TapeItem) (Refusal TapeFault) → Type 0
IsAnswerToTape records (Ok found) = found ≡ records
IsAnswerToTape records (Err refusals.NoMemory) = ⊤
IsAnswerToTape records (Err (refusals.For faults.Fault)) = ⊤
IsAnswerToTape records (Err (refusals.For (faults.Bad place))) = ⊥
IsAnswerToTape records (Err (refusals.For faults.TooLong)) = ⊥
