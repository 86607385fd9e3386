-- What each answer of a run of a made tape says of what was written (this project's profile).
use Rattle.std.specs.Prelude.{◌≡◌, ℕ, List, Option}
use Rattle.sw_edge.specs.Counts.{Rose}
use Rattle.sw_edge.specs.Told.{Keeps, Appends, AppendsPrefix}
use Rattle.run_spec.specs.Rows.{bare_start}
use Rattle.byte_lanes.specs.Filling.{IsItemLockstepReport, item_report}
use Rattle.gen_tape.specs.Generated.{generated}
use Rattle.gen_tape.specs.Summary.{summary}
use Rattle.p4switch_run.specs.declared.status.Status.{Status}
use Rattle.p4switch_run.specs.declared.status.Status.TheVariants as statuses

-- the text sums up the report of the run that follows the tape of the number, on device 1 with CPU port 255 and 16,384 rows, without a program
pub record IsSummary (number : ℕ) (text : List ℕ) : Type 0 where
  pub full : List ℕ
  pub follows : IsItemLockstepReport bare_start (generated number) full
  pub text_is : text ≡ summary (item_report bare_start (generated number) follows.report.filled follows.report.served follows.report.journal follows.report.packets)

-- it was written, and the sink has not failed
pub record IsSummed (number : ℕ) (old new : Option (List ℕ)) (before now : ℕ) : Type 0 where
  pub text : List ℕ
  pub sums : IsSummary number text
  pub written : Appends old new text
  pub sound_sink : now ≡ before

-- some first bytes of it were, since the sink failed
pub record IsSummedShort (number : ℕ) (old new : Option (List ℕ)) (before now : ℕ) : Type 0 where
  pub text : List ℕ
  pub sums : IsSummary number text
  pub written : AppendsPrefix old new text
  pub fault : Rose before now

-- nothing was, and the sink has not failed
pub record IsUnsummed (old new : Option (List ℕ)) (before now : ℕ) : Type 0 where
  pub kept : Keeps old new
  pub sound_sink : now ≡ before

-- what each answer says; there is no other
abbrev pub Sums : ℕ → Status → Option (List ℕ) → Option (List ℕ) → ℕ → ℕ → Type 0
Sums number statuses.Done old new before now = IsSummed number old new before now
Sums number (statuses.NotATape place) old new before now = ⊥
Sums number statuses.WordsRefused old new before now = ⊥
Sums number statuses.NoMemory old new before now = IsUnsummed old new before now
Sums number statuses.ReadFault old new before now = ⊥
Sums number statuses.WriteFault old new before now = IsSummedShort number old new before now
Sums number statuses.TooLong old new before now = ⊥
Sums number statuses.NetFault old new before now = ⊥
Sums number statuses.Refused old new before now = ⊥
