-- What one lane has done in a run, and how it goes on (this project's profile).
use Rattle.std.specs.Prelude.{◌≡◌, ℕ, ◌+◌, ◌≤◌, ◌∷◌, ◌++◌, Bool, true, false, List, [], length, Option}
use Rattle.counter_bank.specs.Account.{Account}
use Rattle.p4_types.specs.declared.records.Record.{Record}
use Rattle.p4_types.specs.declared.tape.Who.{Who}
use Rattle.packet_spec.specs.Meaning.{Verdict}
use Rattle.pub_snap.specs.Beginnings.{Beginning, Begins}
use Rattle.snap_worker.specs.Counting.{after_packet}
use Rattle.snap_worker.specs.Working.{state_after}
use Rattle.switch_spec.specs.Carrying.{Fits}
use Rattle.switch_spec.specs.History.{steps_of}
use Rattle.switch_spec.specs.Meaning.{carried, record_of}

-- a lane, by its name
pub record Work : Type 0 where
  pub who : Who
  -- what it has seen or learnt of the published list
  pub told : Beginning
  -- how often it found no snapshot to enter
  pub refusals : ℕ
  -- how many steps its last packet came after; 0 before the first
  pub steps : ℕ
  -- the records of its packets, in their order
  pub records : List Record
  -- by which it counts what they hit
  pub seat : Account

-- a lane that has run no packet
abbrev pub new_work : Who → Beginning → ℕ → Account → Work
new_work who told refusals seat = record { who = who; told = told; refusals = refusals; steps = 0; records = []; seat = seat }

-- the records with that of the last packet, which may still have to be made of its verdict
abbrev pub with_last : Who → List Record → Bool → ℕ → Option ℕ → Verdict → List Record
with_last who records false steps receiver verdict = records
with_last who records true steps receiver verdict = records ++ record_of who (length records + 1) steps receiver verdict ∷ []

-- how many steps were told
abbrev pub steps_told : Beginning → ℕ
steps_told told = length (steps_of told.events)

-- the record of the lane's next packet, if it runs after all that is told now
abbrev pub next_record : Work → Beginning → ℕ → List ℕ → Record
next_record work told port packet = carried work.who (length work.records + 1) (steps_told told) (state_after told) port packet

-- The lane ran a packet: after all that it had seen and learnt, perhaps after more, and after no fewer steps than the packet before.
pub record Ran (port : ℕ) (packet : List ℕ) (before after : Work) : Type 0 where
  pub told : Begins before.told after.told
  pub records : after.records ≡ before.records ++ next_record before after.told port packet ∷ []
  pub fits : Fits after.told.start after.told.events (record { arrival = (port, packet); outcome = next_record before after.told port packet })
  pub steps : after.steps ≡ steps_told after.told
  pub learnt : steps_told before.told ≤ after.steps
  pub later : before.steps ≤ after.steps
  pub counted : after.seat ≡ after_packet (length packet) (next_record before after.told port packet).hits before.seat
  pub who : after.who ≡ before.who
  pub refusals : after.refusals ≡ before.refusals
