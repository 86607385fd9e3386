-- What the exit status of a run says.
use Rattle.std.specs.Prelude.{◌≡◌, ℕ, ◌≤◌, ◌⊎◌, List, length, Option, None, Some}
use Rattle.list_types.specs.declared.memory.Refusal.{Refusal}
use Rattle.p4_types.specs.declared.events.Start.{Start}
use Rattle.sw_edge.specs.Counts.{HasCause, Rose, StaysUnless}
use Rattle.sw_edge.specs.declared.answers.Sent.{Sent}
use Rattle.tape_spec.specs.declared.item.TapeItem.{TapeItem}
use Rattle.tape_spec.specs.Items.{IsTapeOf}
use Rattle.tape_form.specs.TapeRead.{IsBadAt}
use Rattle.tape_form.specs.declared.fault.Ended.{Ended}
use Rattle.tape_form.specs.declared.fault.TapeFault.{TapeFault}
use Rattle.p4switch_run.specs.declared.status.Status.{Status}
use Rattle.p4switch_run.specs.declared.status.Status.TheVariants as statuses
use Rattle.p4switch_run.specs.declared.words.Job.{Job}
use Rattle.p4switch_run.specs.declared.words.Job.TheVariants as jobs
use Rattle.command_words.specs.declared.words.Mode.{Mode}
use Rattle.p4switch_run.specs.Check.{Checks, IsJudged, IsJudgedShort, IsRefused, IsTakenUp, ended_status}
use Rattle.p4switch_run.specs.Command.{IsReplay, IsCheck, IsServe, IsGen, status_number, fault_status, status_line}
use Rattle.p4switch_run.specs.Load.{Sums, IsSummed, IsSummedShort}
use Rattle.command_words.specs.Words.{command_of}
use Rattle.p4switch_run.specs.Words.{job_for}
use Rattle.p4switch_run.specs.Replay.{Streams, Answers, IsWritten, IsCutShort, ReadWith}
use Rattle.p4switch_run.specs.Tell.{IsSaid}

-- serving ends with the net, for a fault of it, or for want of memory
abbrev pub IsServeStatus : Status → Type 0
IsServeStatus status = (status ≡ statuses.Done) ⊎ ((status ≡ statuses.NoMemory) ⊎ (status ≡ statuses.NetFault))

-- nothing was read, and the source has neither failed nor ended
pub record ReadsNothing (old new : Streams) : Type 0 where
  pub left : new.left ≡ old.left
  pub sound_source : new.read_faults ≡ old.read_faults
  pub not_ended : new.read_ends ≡ old.read_ends

-- What a job says of its answer; a made tape is not read, and serving leaves what is read and written as it was. Without one the words are refused, and all is left as it was.
abbrev pub EndsBy : Option Job → Status → Streams → Streams → Type 0
EndsBy None status old new = (status ≡ statuses.WordsRefused) × (new ≡ old)
EndsBy (Some (jobs.Replay mode start)) status old new = Answers mode start status old new
EndsBy (Some jobs.Check) status old new = Checks status old new
EndsBy (Some (jobs.Serve serving)) status old new = IsServeStatus status × (new ≡ old)
EndsBy (Some (jobs.Gen number)) status old new = Sums number status old.sent new.sent old.write_faults new.write_faults × ReadsNothing old new

-- how often a net ended and failed, before and after it was served
pub record IsServed (status : Status) (ends_before ends_after faults_before faults_after : ℕ) : Type 0 where
  pub ended : HasCause ends_before ends_after (status ≡ statuses.Done)
  pub not_ended : StaysUnless ends_before ends_after (status ≡ statuses.Done)
  pub failed : HasCause faults_before faults_after (status ≡ statuses.NetFault)
  pub no_fault : StaysUnless faults_before faults_after (status ≡ statuses.NetFault)

-- What a job says of a net: one that serves none leaves it as it was.
abbrev pub NetBy : Option Job → Status → ℕ → ℕ → ℕ → ℕ → Type 0
NetBy None status ends_before ends_after faults_before faults_after = (ends_after ≡ ends_before) × (faults_after ≡ faults_before)
NetBy (Some (jobs.Replay mode start)) status ends_before ends_after faults_before faults_after = (ends_after ≡ ends_before) × (faults_after ≡ faults_before)
NetBy (Some jobs.Check) status ends_before ends_after faults_before faults_after = (ends_after ≡ ends_before) × (faults_after ≡ faults_before)
NetBy (Some (jobs.Gen number)) status ends_before ends_after faults_before faults_after = (ends_after ≡ ends_before) × (faults_after ≡ faults_before)
NetBy (Some (jobs.Serve serving)) status ends_before ends_after faults_before faults_after = IsServed status ends_before ends_after faults_before faults_after

-- what no job but serving uses is as it was
abbrev pub IsUnusedBy : {A : Type 0} → Option Job → A → A → Type 0
IsUnusedBy None old new = new ≡ old
IsUnusedBy (Some (jobs.Replay mode start)) old new = new ≡ old
IsUnusedBy (Some jobs.Check) old new = new ≡ old
IsUnusedBy (Some (jobs.Gen number)) old new = new ≡ old
IsUnusedBy (Some (jobs.Serve serving)) old new = Unit {0}

-- what the answer to these words says of a net
abbrev pub NetEnds : Status → List (List ℕ) → ℕ → ℕ → ℕ → ℕ → Type 0
NetEnds status words ends_before ends_after faults_before faults_after = NetBy (job_for (command_of words)) status ends_before ends_after faults_before faults_after

-- words that do not ask for serving leave this as it was
abbrev pub IsUnused : {A : Type 0} → List (List ℕ) → A → A → Type 0
IsUnused words old new = IsUnusedBy (job_for (command_of words)) old new

-- the words ask for serving, and the net ended
pub record Serves (words : List (List ℕ)) (ends_before ends_after : ℕ) : Type 0 where
  pub command : IsServe words
  pub ended : Rose ends_before ends_after

-- what the answer to these words says of what was read and written
abbrev pub Ends : Status → List (List ℕ) → Streams → Streams → Type 0
Ends status words old new = EndsBy (job_for (command_of words)) status old new

-- the report of the replay that the words ask for was written
pub record Reports (words : List (List ℕ)) (old new : Streams) : Type 0 where
  pub mode : Mode
  pub start : Start
  pub command : IsReplay mode start words
  pub written : IsWritten mode start old new

-- some first bytes of it were
pub record Breaks (words : List (List ℕ)) (old new : Streams) : Type 0 where
  pub mode : Mode
  pub start : Start
  pub command : IsReplay mode start words
  pub cut : IsCutShort mode start old new

-- the words ask for a check, and it found no rule that is broken
pub record Approves (words : List (List ℕ)) (old new : Streams) : Type 0 where
  pub command : IsCheck words
  pub judged : IsJudged None old new

-- the words ask for a check, and some first bytes of its line were written
pub record BreaksLine (words : List (List ℕ)) (old new : Streams) : Type 0 where
  pub command : IsCheck words
  pub short : IsJudgedShort old new

-- the words ask for the run of the tape of a number, and the summary of its report was written
pub record SumsUp (words : List (List ℕ)) (old new : Streams) : Type 0 where
  pub number : ℕ
  pub command : IsGen number words
  pub summed : IsSummed number old.sent new.sent old.write_faults new.write_faults

-- some first bytes of it were
pub record BreaksSummary (words : List (List ℕ)) (old new : Streams) : Type 0 where
  pub number : ℕ
  pub command : IsGen number words
  pub short : IsSummedShort number old.sent new.sent old.write_faults new.write_faults

-- the statuses of what was not read whole
abbrev pub IsUnread : ℕ → Type 0
IsUnread number = (number ≡ 1) ⊎ ((number ≡ 4) ⊎ (number ≡ 6))

-- The words ask for a replay, the reading of the tape was answered with this fault, and the status is that of it: of a
-- bad byte, a limit and a fault the first in the order of the bytes.
pub record Misreads (number : ℕ) (words : List (List ℕ)) (old new : Streams) : Type 0 where
  pub mode : Mode
  pub start : Start
  pub command : IsReplay mode start words
  pub fault : Refusal TapeFault
  pub number_is : number ≡ status_number (fault_status fault)
  pub read : ReadWith fault old new

-- the words ask for a check, the taking of the configuration ended so, and the status is that of it
pub record Stops (number : ℕ) (words : List (List ℕ)) (old new : Streams) : Type 0 where
  pub command : IsCheck words
  pub ended : Ended
  pub status : Status
  pub ended_is : ended_status ended ≡ Some status
  pub number_is : number ≡ status_number status
  pub read : IsTakenUp ended old.left new.left old.read_faults new.read_faults

-- the words ask for a check, and it found a rule that is broken
pub record Rejects (words : List (List ℕ)) (old new : Streams) : Type 0 where
  pub command : IsCheck words
  pub refused : IsRefused old new

-- a sink of lines before and after: what it was sent, and how often it has failed
pub record Lines : Type 0 where
  pub before : Option (List ℕ)
  pub after : Option (List ℕ)
  pub faults_before : ℕ
  pub faults_after : ℕ

-- the line of a status was sent, or the sink failed and some first bytes of it were
pub record IsTold (lines : Lines) (status : Status) : Type 0 where
  pub answer : Sent
  pub said : IsSaid lines.before lines.after lines.faults_before lines.faults_after answer (status_line status)

-- a sink of lines that had been sent these before and after, and had failed so often
abbrev pub lines : Option (List ℕ) → Option (List ℕ) → ℕ → ℕ → Lines
lines before after faults_before faults_after = record { before = before; after = after; faults_before = faults_before; faults_after = faults_after }

-- the line of the status of this number was sent
pub record SaysStatus (number : ℕ) (lines : Lines) : Type 0 where
  pub status : Status
  pub number_is : number ≡ status_number status
  pub told : IsTold lines status

-- the bytes are no tape behind the place that the line names
pub record NamesPlace (old new : Option (List ℕ)) (lines : Lines) : Type 0 where
  pub place : ℕ
  pub bad : IsBadAt old new place
  pub told : IsTold lines (statuses.NotATape place)

-- what is left is told, and is a tape within the limits
pub record HoldsTape (left : Option (List ℕ)) : Type 0 where
  pub bytes : List ℕ
  pub items : List TapeItem
  pub left_is : left ≡ Some bytes
  pub tape : IsTapeOf bytes items
  pub size : length bytes ≤ 67108864
  pub count : length items ≤ 1000000

-- what is left is told, and is no more than a configuration may have
pub record HoldsBytes (left : Option (List ℕ)) : Type 0 where
  pub bytes : List ℕ
  pub left_is : left ≡ Some bytes
  pub size : length bytes ≤ 67108864
