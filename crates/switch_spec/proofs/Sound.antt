-- What holds of an answer.
use Rattle.std.proofs.Common.{arith, ◌+◌, ◌≤◌, ◌≡◌, ℕ, false, List, ◌++◌, length, Option, Some, None, IfSome, refl}
use Rattle.p4_types.specs.declared.code.Code.{Code}
use Rattle.plane_spec.specs.Config.{Event}
use Rattle.plane_spec.specs.Legal.{Legal}
use Rattle.plane_spec.specs.Planes.{ControlState, applied}
use Rattle.switch_spec.specs.Answer.{Answer, plain}
use Rattle.switch_spec.specs.History.{is_unavailable, steps_of}

-- It is no refusal for memory, a packet that it makes enter has 9,216 bytes at most, and its events are steps that may follow, no more than a list of updates has.
pub record IsSound (c : ControlState) (a : Answer) : Type 0 where
  pub available : is_unavailable a.code ≡ false
  pub short_packet : IfSome a.packet (λ packet. length packet ≤ 9216)
  pub all_steps : length (steps_of a.events) ≡ length a.events
  pub legal : c.closed ≡ false → (rest : List Event) → Legal (applied c a.events) rest → Legal c (a.events ++ rest)
  pub still_open : c.closed ≡ false → (applied c a.events).closed ≡ false
  pub few_steps : length (steps_of a.events) ≤ 4096
  pub few_numbers : (applied c a.events).next ≤ c.next + 4096

pub plain_sound : (c : ControlState) (code : Code) (messages : List (List ℕ)) → is_unavailable code ≡ false → IsSound c (plain code messages)
plain_sound c code messages available = record {
  available = available;
  short_packet = tt;
  all_steps = refl;
  legal = λ alive rest later. later;
  still_open = λ alive. alive;
  few_steps = omega arith;
  few_numbers = omega arith;
}

-- no refusal is one for memory
abbrev pub Available : Option Code → Type 0
Available None = Unit {0}
Available (Some code) = is_unavailable code ≡ false
