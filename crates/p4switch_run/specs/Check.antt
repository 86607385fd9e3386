-- What each answer of the check of a configuration says of what was read and written.
use Rattle.std.specs.Prelude.{◌≡◌, ℕ, ◌≤◌, List, ◌++◌, length, Option, None, Some, codes}
use Rattle.std.specs.Fmt.{decimal}
use Rattle.p4_types.specs.declared.code.ConfigRule.{ConfigRule}
use Rattle.p4_types.specs.declared.code.ConfigRule.TheVariants as flaws
use Rattle.config_rules.specs.Flaw.{config_flaw}
use Rattle.sw_edge.specs.Counts.{Rose}
use Rattle.sw_edge.specs.Told.{Consumes, IsAtEnd, Appends, AppendsPrefix}
use Rattle.tape_form.specs.TapeRead.{EndsSoundly, EndsWithin, IsUnfinished}
use Rattle.tape_form.specs.declared.fault.Ended.{Ended}
use Rattle.tape_form.specs.declared.fault.Ended.TheVariants.{AtEnd, AtFault, AtLimit}
use Rattle.p4switch_run.specs.declared.status.Status.{Status}
use Rattle.p4switch_run.specs.declared.status.Status.TheVariants as statuses
use Rattle.p4switch_run.specs.Replay.{Streams, Nothing}

-- the line that says which rule a configuration breaks first, if it breaks one
abbrev pub verdict_line : Option ConfigRule → List ℕ
verdict_line None = codes "ok\n"
verdict_line (Some (flaws.Info rule)) = codes "refused I" ++ decimal rule ++ codes "\n"
verdict_line (Some (flaws.Program rule)) = codes "refused L" ++ decimal rule ++ codes "\n"

-- all that was left was taken, 67,108,864 bytes at most, and this is the first rule that it breaks as a configuration
pub record HasFlaw (flaw : Option ConfigRule) (old new : Option (List ℕ)) : Type 0 where
  pub taken : List ℕ
  pub consumed : Consumes old new taken
  pub at_end : IsAtEnd new
  pub size : length taken ≤ 67108864
  pub flaw_is : flaw ≡ config_flaw taken

-- the line was written, and neither the source nor the sink has failed
pub record IsJudged (flaw : Option ConfigRule) (old new : Streams) : Type 0 where
  pub has : HasFlaw flaw old.left new.left
  pub written : Appends old.sent new.sent (verdict_line flaw)
  pub sound_source : new.read_faults ≡ old.read_faults
  pub sound_sink : new.write_faults ≡ old.write_faults

-- some first bytes of it were, since the sink failed, and the source has not
pub record IsJudgedShort (old new : Streams) : Type 0 where
  pub flaw : Option ConfigRule
  pub has : HasFlaw flaw old.left new.left
  pub written : AppendsPrefix old.sent new.sent (verdict_line flaw)
  pub sound_source : new.read_faults ≡ old.read_faults
  pub fault : Rose old.write_faults new.write_faults

-- the configuration breaks a rule
pub record IsRefused (old new : Streams) : Type 0 where
  pub rule : ConfigRule
  pub judged : IsJudged (Some rule) old new

-- bytes were taken of the source, up to its end, a fault of it, or one byte more than a configuration may have
pub record IsTakenUp (ended : Ended) (old new : Option (List ℕ)) (before now : ℕ) : Type 0 where
  pub taken : List ℕ
  pub consumed : Consumes old new taken
  pub so : EndsSoundly ended new before now
  pub within : EndsWithin ended taken

-- how a check ends whose configuration was not taken up to its end
abbrev pub ended_status : Ended → Option Status
ended_status AtEnd = None
ended_status AtFault = Some statuses.ReadFault
ended_status AtLimit = Some statuses.TooLong

-- how a check ends whose line was written
abbrev pub status_of : Option ConfigRule → Status
status_of None = statuses.Done
status_of (Some rule) = statuses.Refused

-- why nothing was read whole
abbrev pub Unread : Status → Option (List ℕ) → Option (List ℕ) → ℕ → ℕ → Type 0
Unread statuses.Done old new before now = ⊥
Unread (statuses.NotATape place) old new before now = ⊥
Unread statuses.WordsRefused old new before now = ⊥
Unread statuses.NoMemory old new before now = IsUnfinished old new before now
Unread statuses.ReadFault old new before now = IsTakenUp AtFault old new before now
Unread statuses.WriteFault old new before now = ⊥
Unread statuses.TooLong old new before now = IsTakenUp AtLimit old new before now
Unread statuses.NetFault old new before now = ⊥
Unread statuses.Refused old new before now = ⊥

-- what each answer says; a check is of no tape, and does not refuse words
abbrev pub Checks : Status → Streams → Streams → Type 0
Checks statuses.Done old new = IsJudged None old new
Checks (statuses.NotATape place) old new = ⊥
Checks statuses.WordsRefused old new = ⊥
Checks statuses.NoMemory old new = Nothing old new (IsUnfinished old.left new.left old.read_faults new.read_faults)
Checks statuses.ReadFault old new = Nothing old new (IsTakenUp AtFault old.left new.left old.read_faults new.read_faults)
Checks statuses.WriteFault old new = IsJudgedShort old new
Checks statuses.TooLong old new = Nothing old new (IsTakenUp AtLimit old.left new.left old.read_faults new.read_faults)
Checks statuses.NetFault old new = ⊥
Checks statuses.Refused old new = IsRefused old new
