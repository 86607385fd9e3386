-- A pass of the desk, and what a call makes of it (this project's profile).
use Rattle.std.specs.Prelude.{◌≡◌, ℕ, ◌+◌, ◌≤◌, ◌++◌, true, List, [], ◌∷◌, length, Option, Some, None}
use Rattle.ctl_core.specs.Core.{raised}
use Rattle.live_desk.specs.Callers.{events_by}
use Rattle.live_desk.specs.Locked.{IsMade}
use Rattle.live_desk.specs.Sums.{HasLooked, reads_counters}
use Rattle.snap_worker.specs.Sums.{AreSums, NotesOwn, noted_by}
use Rattle.mail_room.specs.declared.next.Next.{Next}
use Rattle.mail_room.specs.declared.next.Next.TheVariants as nexts
use Rattle.p4_types.specs.declared.calls.Call.{Call}
use Rattle.p4_types.specs.declared.calls.Reply.{Reply}
use Rattle.p4_types.specs.declared.records.Output.{Output}
use Rattle.packet_spec.specs.Meaning.{Verdict}
use Rattle.pub_snap.specs.Beginnings.{Beginning, Begins}
use Rattle.pub_snap.specs.Snapshots.{steps_in}
use Rattle.snap_worker.specs.Counting.{after_packet}
use Rattle.snap_worker.specs.Working.{Working, state_after, verdict_in}
use Rattle.switch_spec.specs.Meaning.{receiver}

-- a pass: the lane of its caller
pub record Passing : Type 0 where
  pub lane : ℕ
  -- how many calls it has made
  pub calls : ℕ
  -- the published list through its last call, with that call's events; before the first, the start alone
  pub last : Beginning
  -- what reads the counters for it: it knows what the pass has seen or learnt of the published list
  pub worker : Working
  -- what its packets made leave and nobody has taken yet, oldest first
  pub waiting : List Output

-- What a call saw of the counters: for one that reads counters the sums that the worker's seat has noted of each slot that was drawn, which are
-- at least what it has added there.
abbrev pub HasSeen : Call → ℕ → Option (List (ℕ × ℕ)) → Working → Type 0
HasSeen call slots None worker = Unit {0}
HasSeen call slots (Some figures) worker = AreSums figures (noted_by worker.seat) × NotesOwn (length figures) worker.seat × (reads_counters call ≡ true → length figures ≡ slots)

-- The pass made a call behind a published list that begins with all that it had seen or learnt, and that has no event of its caller
-- that its own calls did not make. It has then seen that list with the call's events.
pub record IsCalled (call : Call) (reply : Reply) (before after : Passing) : Type 0 where
  pub base : Beginning
  pub begins : Begins before.worker.told base
  pub own : events_by before.lane base.events ≡ events_by before.lane before.last.events
  pub figures : Option (List (ℕ × ℕ))
  pub looked : HasLooked before.worker (record after.worker { told = before.worker.told })
  pub seen : HasSeen call (state_after base).next_slot figures after.worker
  pub made : IsMade before.lane (raised before.calls 1) call figures base reply after.last
  pub told : after.worker.told ≡ after.last
  pub lane : after.lane ≡ before.lane
  pub calls : after.calls ≡ before.calls + 1
  pub waiting : after.waiting ≡ before.waiting

-- The worker of a pass ran a packet: after all that it had seen and learnt, perhaps after more, and after no fewer steps than the
-- packet before. Its seat counted what the packet hit.
pub record HasRun (port : ℕ) (packet : List ℕ) (before after : Working) (verdict : Verdict) : Type 0 where
  pub told : Begins before.told after.told
  pub meant : verdict ≡ verdict_in (state_after after.told) port packet
  pub steps : after.steps ≡ steps_in after.told.events
  pub later : before.steps ≤ after.steps
  pub receiver : after.receiver ≡ receiver (state_after after.told)
  pub counted : after.seat ≡ after_packet (length packet) verdict.hits before.seat

-- the pass ran a packet, and what leaves waits behind what waited
pub record HasRunOut (port : ℕ) (packet : List ℕ) (before after : Passing) : Type 0 where
  pub verdict : Verdict
  pub ran : HasRun port packet before.worker after.worker verdict
  pub others : after ≡ record before { worker = after.worker; waiting = before.waiting ++ verdict.outputs }

-- it ran the packet that a call made enter, if the call made one enter
abbrev pub HasFollowed : Option (List ℕ) → ℕ → Passing → Passing → Type 0
HasFollowed None port before after = after ≡ before
HasFollowed (Some packet) port before after = HasRunOut port packet before after

-- what was given is no output
abbrev pub IsNoOutput : Option Next → Type 0
IsNoOutput None = Unit {0}
IsNoOutput (Some (nexts.Message message)) = Unit {0}
IsNoOutput (Some (nexts.Output output)) = ⊥
IsNoOutput (Some nexts.Overflow) = Unit {0}

-- the pass perhaps learnt more of the published list, and nothing else of it changed
pub record HasLearnt (before after : Passing) : Type 0 where
  pub told : Begins before.worker.told after.worker.told
  pub others : after ≡ record before { worker = record before.worker { told = after.worker.told } }

-- The oldest of the outputs that wait in the pass was given; where none waits, what waits for its lane at the desk, from which it may
-- have learnt.
abbrev pub IsGiven : List Output → Option Next → Passing → Passing → Type 0
IsGiven [] next before after = IsNoOutput next × HasLearnt before after
IsGiven (output ∷ rest) next before after = (next ≡ Some (nexts.Output output)) × (after ≡ record before { waiting = rest })
