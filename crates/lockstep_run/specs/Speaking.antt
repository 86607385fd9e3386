-- A run whose lanes may bring bytes, as the program keeps it while it goes on.
use Rattle.std.specs.Prelude.{◌≡◌, ℕ, ◌<◌, ◌⊎◌, Bool, false, true, List, ◌++◌, fold, map}
use Rattle.std.specs.List.{AllByRecursion}
use Rattle.p4_types.specs.declared.calls.Call.{Call}
use Rattle.p4_types.specs.declared.calls.Reply.{Reply}
use Rattle.p4_types.specs.declared.journal.Entry.{Entry}
use Rattle.p4_types.specs.declared.tape.TapeRecord.{TapeRecord}
use Rattle.mail_room.specs.declared.next.Next.{Next}
use Rattle.std.specs.Prelude.{Option, None}
use Rattle.p4rt_service.specs.Dialogues.{Runs}
use Rattle.p4rt_service.specs.Turns.{Served, piece_served}
use Rattle.run_spec.specs.Play.{Turn, call_item, items_of, play}
use Rattle.byte_lanes.specs.Filling.{Asked, exchange_of}
use Rattle.byte_lanes.specs.Lane.{LaneState, IsLane}
use Rattle.lockstep_run.specs.Session.{State, played_of, Plays, IsSession, IsAskedOf}

-- the run so far, the lane whose bytes are read, and whether memory was missing for a call that they make
pub record Speaking : Type 0 where
  pub session : State
  pub lane : ℕ
  pub is_short : Bool

-- the next turn may be played
pub record GoesOn (s : Speaking) : Type 0 where
  pub session : IsSession s.session
  pub of_controller : s.lane < 32

-- the same, unless memory was missing
abbrev pub MayGoOn : Speaking → Type 0
MayGoOn s = s.is_short ≡ false → GoesOn s

-- a call of the lane was answered so
pub record Speaks (old : Speaking) (call : Call) (reply : Reply) (new : Speaking) : Type 0 where
  pub was : old.is_short ≡ false
  pub lane_is : new.lane ≡ old.lane
  pub asked : IsAskedOf old.lane call reply old.session new.session

-- the same, or memory was missing
abbrev pub SpeaksOrNot : Speaking → Call → Reply → Speaking → Type 0
SpeaksOrNot old call reply new = (new.is_short ≡ true) ⊎ Speaks old call reply new

-- nothing waits for a lane of a tape
abbrev pub GivesNone : Speaking → ℕ → Option Next → Speaking → Type 0
GivesNone old now next new = (next ≡ None) × (new ≡ old)

-- a record was played
pub record Takes (item : TapeRecord) (old new : Speaking) : Type 0 where
  pub plays : Plays (played_of old.session) item (played_of new.session)
  pub quiet : new.is_short ≡ false
  pub goes_on : GoesOn new

-- a lane's bytes were played: each call that they make, as its record would be
pub record Brings (lane : ℕ) (piece : List ℕ) (before after : LaneState) (old new : Speaking) (served : Served) : Type 0 where
  pub asked : List Asked
  pub end : Served
  pub lane_is : IsLane after end
  pub runs : Runs (piece_served piece served) (map exchange_of asked) end
  pub turns : List Turn
  pub items_are : items_of turns ≡ map (λ one. call_item lane one.call) asked
  pub played_is : played_of new.session ≡ fold play (played_of old.session) turns
  pub own : List Entry
  pub noted : new.session.journal ≡ old.session.journal ++ own
  pub replies : map (λ entry. entry.reply) own ≡ map (λ one. one.reply) asked
  pub of_lane : AllByRecursion (λ entry. entry.lane ≡ lane) own

-- the same, however the lane served before
pub record Feeds (lane : ℕ) (piece : List ℕ) (before after : LaneState) (old new : Speaking) : Type 0 where
  pub brings : (served : Served) → IsLane before served → Brings lane piece before after old new served
  pub quiet : new.is_short ≡ false
  pub goes_on : GoesOn new
