-- What holds of every answer.
use Rattle.std.specs.Prelude.{◌≡◌, ℕ, false}
use Rattle.p4_types.specs.declared.calls.Call.{Call}
use Rattle.plane_spec.specs.Planes.{ControlState}
use Rattle.switch_spec.specs.Answer.{answer_to}
use Rattle.switch_spec.specs.Counts.{Figures}
use Rattle.switch_spec.specs.History.{is_unavailable}

-- no call's defined answer is UNAVAILABLE, so that a reply has it for want of memory alone
abbrev pub AnswersAreAvailable : Type 0
AnswersAreAvailable = (control : ControlState) (figures : Figures) (lane number : ℕ) (call : Call) → is_unavailable (answer_to control figures lane number call).code ≡ false
