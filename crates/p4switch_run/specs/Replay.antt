-- What each answer of a replay says of what was read and written.
use Rattle.std.specs.Prelude.{◌≡◌, ℕ, List, Option, Err}
use Rattle.list_types.specs.declared.memory.Refusal.{Refusal}
use Rattle.list_types.specs.declared.memory.Refusal.TheVariants as refusals
use Rattle.tape_form.specs.declared.fault.TapeFault.{TapeFault}
use Rattle.sw_edge.specs.Counts.{Rose}
use Rattle.sw_edge.specs.Told.{Keeps, Appends, AppendsPrefix}
use Rattle.p4_types.specs.declared.events.Start.{Start}
use Rattle.tape_spec.specs.declared.item.TapeItem.{TapeItem}
use Rattle.byte_lanes.specs.Filling.{IsItemLockstepReport, IsItemFreeReport}
use Rattle.tape_form.specs.TapeRead.{IsReadFrom, IsWholeTape, IsUnfinished, HidesNothing, IsBadAt, IsTooLong}
use Rattle.tape_form.specs.declared.fault.TapeFault.TheVariants as faults
use Rattle.p4switch_run.specs.declared.status.Status.{Status}
use Rattle.p4switch_run.specs.declared.status.Status.TheVariants as statuses
use Rattle.command_words.specs.declared.words.Mode.{Mode}
use Rattle.command_words.specs.declared.words.Mode.TheVariants as modes

-- the source and the sink: what is left to read, what was written, how often each has failed, and how often the source was read to its end
pub record Streams : Type 0 where
  pub left : Option (List ℕ)
  pub sent : Option (List ℕ)
  pub read_faults : ℕ
  pub write_faults : ℕ
  pub read_ends : ℕ

-- the source and the sink with this left to read and this written, which have failed so often, the source with so many ends
abbrev pub streams : Option (List ℕ) → Option (List ℕ) → ℕ → ℕ → ℕ → Streams
streams left sent read_faults write_faults read_ends = record { left = left; sent = sent; read_faults = read_faults; write_faults = write_faults; read_ends = read_ends }

-- The text is the report of a run of the tape: in lockstep of the one that follows the tape, else of one in some
-- interleaving of its lanes.
abbrev pub IsReportIn : Mode → Start → List TapeItem → List ℕ → Type 0
IsReportIn modes.Lockstep start items text = IsItemLockstepReport start items text
IsReportIn modes.Free start items text = IsItemFreeReport start items text

-- The bytes that were left are a tape, all of them were taken, and the text is its report.
pub record IsReplayed (mode : Mode) (start : Start) (old new : Option (List ℕ)) (text : List ℕ) : Type 0 where
  pub items : List TapeItem
  pub whole : IsWholeTape old new items
  pub report : IsReportIn mode start items text

-- the report was written, and neither the source nor the sink has failed
pub record IsWritten (mode : Mode) (start : Start) (old new : Streams) : Type 0 where
  pub text : List ℕ
  pub replayed : IsReplayed mode start old.left new.left text
  pub written : Appends old.sent new.sent text
  pub sound_source : new.read_faults ≡ old.read_faults
  pub sound_sink : new.write_faults ≡ old.write_faults

-- some first bytes of the report were written, since the sink failed, and the source has not
pub record IsCutShort (mode : Mode) (start : Start) (old new : Streams) : Type 0 where
  pub text : List ℕ
  pub replayed : IsReplayed mode start old.left new.left text
  pub written : AppendsPrefix old.sent new.sent text
  pub sound_source : new.read_faults ≡ old.read_faults
  pub fault : Rose old.write_faults new.write_faults

-- the reading of a tape from the source was answered so
abbrev pub ReadWith : Refusal TapeFault → Streams → Streams → Type 0
ReadWith fault old new = IsReadFrom old.left new.left old.read_faults new.read_faults (Err fault)

-- nothing was written, for this cause, and the sink has not failed
pub record Nothing (old new : Streams) (cause : Type 0) : Type 0 where
  pub kept : Keeps old.sent new.sent
  pub sound_sink : new.write_faults ≡ old.write_faults
  pub «because» : cause

-- There was no memory to read the tape, or to run one that was read whole. It hides no fault of the source and no byte too many; and
-- where the source was read to its end, no bad byte and no item too many.
pub record LacksMemory (old new : Streams) : Type 0 where
  pub unfinished : IsUnfinished old.left new.left old.read_faults new.read_faults
  pub hides_nothing : HidesNothing old.left new.left old.read_ends new.read_ends

-- What each answer says; a replay does not refuse words. A tape that is not read is answered by the first of a bad byte,
-- a limit and a fault, in the order of the bytes.
abbrev pub Answers : Mode → Start → Status → Streams → Streams → Type 0
Answers mode start statuses.Done old new = IsWritten mode start old new
Answers mode start (statuses.NotATape place) old new = Nothing old new (IsBadAt old.left new.left place × ReadWith (refusals.For (faults.Bad place)) old new)
Answers mode start statuses.WordsRefused old new = ⊥
Answers mode start statuses.NoMemory old new = Nothing old new (LacksMemory old new)
Answers mode start statuses.ReadFault old new = Nothing old new (Rose old.read_faults new.read_faults × ReadWith (refusals.For faults.Fault) old new)
Answers mode start statuses.WriteFault old new = IsCutShort mode start old new
Answers mode start statuses.TooLong old new = Nothing old new (IsTooLong old.left new.left × ReadWith (refusals.For faults.TooLong) old new)
Answers mode start statuses.NetFault old new = ⊥
Answers mode start statuses.Refused old new = ⊥
