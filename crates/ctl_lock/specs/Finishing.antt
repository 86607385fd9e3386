-- What is left of a run once all calls are made (this project's profile).
use Rattle.std.specs.Prelude.{ℕ, ◌≤◌, List, length}
use Rattle.counter_bank.specs.Account.{Opened}
use Rattle.ctl_core.specs.Core.{Core}
use Rattle.ctl_lock.specs.Calls.{journal_of}
use Rattle.ctl_lock.specs.declared.signed.Signed.{Signed}
use Rattle.lane_work.specs.Work.{steps_told}
use Rattle.pub_snap.specs.Beginnings.{Beginning}
use Rattle.switch_spec.specs.Carrying.{made_on, steps_through}

-- a call that a worker waited for, and what was told of the published list then
pub record Meeting : Type 0 where
  pub lane : ℕ
  pub call : ℕ
  pub told : Beginning

-- the call was made, and the steps through it were told
pub record IsMet (lane call : ℕ) (entries : List Signed) (told : Beginning) : Type 0 where
  pub made : call ≤ length (made_on lane (journal_of entries))
  pub through : steps_through lane call (journal_of entries) ≤ steps_told told

-- what is left: the control behind the last call, the journal, the whole list, and the counters
pub record Closing : Type 0 where
  pub core : Core
  pub journal : List Signed
  pub told : Beginning
  pub bank : Opened
