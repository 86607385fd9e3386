-- Lanes of a run at their ends (this project's profile).
use Rattle.std.specs.Prelude.{◌≡◌, ℕ, false, List, []}
use Rattle.counter_bank.specs.Account.{BankId}
use Rattle.counter_bank.specs.Figures.{packets_of, bytes_of}
use Rattle.ctl_lock.specs.Passing.{Passing}
use Rattle.lane_work.specs.Work.{Work}
use Rattle.run_lanes.specs.Packets.{PacketPassing}
use Rattle.switch_spec.specs.Counts.{Figures}

-- the controller's lane has made all its calls, unless it found no memory
pub record HasAsked (lane : ℕ) (pass : Passing) : Type 0 where
  pub lane_is : pass.lane ≡ lane
  pub ended : pass.failed ≡ false → pass.todo ≡ []

-- the worker's lane has taken all that it was given, unless it found no memory
pub record HasTaken (lane : ℕ) (pass : PacketPassing) : Type 0 where
  pub lane_is : pass.lane ≡ lane
  pub ended : pass.failed ≡ false → pass.todo ≡ []

-- the lane counted by one part of the run's counters
pub record IsSeated (bank : BankId) (work : Work) : Type 0 where
  pub bank_is : work.seat.bank ≡ bank
  pub one_part : work.seat.parts ≡ 1

-- the figures of a slot, of a list that has two for each: packets, then bytes
abbrev pub figures_at : List ℕ → Figures
figures_at totals slot = (packets_of totals slot, bytes_of totals slot)

-- a controller's lane has made all its calls, whichever it is
abbrev pub EndsAsking : Passing → Passing → Type 0
EndsAsking before after = HasAsked before.lane after

-- a worker's lane has taken all that it was given, whichever it is
abbrev pub EndsTaking : PacketPassing → PacketPassing → Type 0
EndsTaking before after = HasTaken before.lane after
