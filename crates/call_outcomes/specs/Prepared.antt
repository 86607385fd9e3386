-- What a call comes to, before its events are handed on.
use Rattle.std.specs.Prelude.{◌≡◌}
use Rattle.switch_spec.specs.Answer.{Answer}
use Rattle.call_outcomes.specs.declared.prepared.Prepared.{Prepared}

-- it is this answer
pub record IsPrepared (a : Answer) (p : Prepared) : Type 0 where
  pub code : p.code ≡ a.code
  pub messages : p.messages ≡ a.messages
  pub notices : p.notices ≡ a.notices
  pub events : p.events ≡ a.events
  pub packet : p.packet ≡ a.packet

-- the answer that it is
abbrev pub answer_of : Prepared → Answer
answer_of p = record { code = p.code; messages = p.messages; notices = p.notices; events = p.events; packet = p.packet }
