-- A lane that brings bytes, as the program keeps it.
use Rattle.std.specs.Prelude.{◌≡◌, ℕ, List}
use Rattle.p4_types.specs.declared.calls.Call.{Call}
use Rattle.p4_types.specs.declared.calls.Reply.{Reply}
use Rattle.p4_types.specs.declared.messages.StreamMessageResponse.{StreamMessageResponse}
use Rattle.p4rt_service.specs.declared.standing.Standing.{Standing}
use Rattle.p4rt_service.specs.declared.standing.Standing.TheVariants as standings
use Rattle.p4rt_service.specs.Dialogues.{Held}
use Rattle.p4rt_service.specs.Turns.{Served, piece_served, message_served}

-- a service, and what was sent by it
pub record LaneState : Type 0 where
  pub standing : Standing
  pub sent : List ℕ

-- the link has served so, and this was sent on it
abbrev pub IsLane : LaneState → Served → Type 0
IsLane state served = (state.standing ≡ standings.Serving served.link) × (state.sent ≡ served.sent)

-- bytes are served with a pass
abbrev pub FeedsLane : {P : Type 0} → (P → Call → Reply → P → Type 0) → P → P → List ℕ → LaneState → LaneState → Type 0
FeedsLane answers old new piece before after = (served : Served) → IsLane before served → (end : Served) × IsLane after end × Held answers old new (piece_served piece served) end

-- a message is sent on the channel, if one is open
abbrev pub TellsLane : StreamMessageResponse → LaneState → LaneState → Type 0
TellsLane message before after = (served : Served) → IsLane before served → IsLane after (message_served message served)
