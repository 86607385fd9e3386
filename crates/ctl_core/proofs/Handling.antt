-- What the soundness of answers says of what is handed on.
use Rattle.std.proofs.Common.{◌≡◌, ℕ, false, List, [], ap, ◌∙◌, sym, subst}
use Rattle.std.proofs.lemmas.List.{append-nil}
use Rattle.p4_types.specs.declared.calls.Call.{Call}
use Rattle.p4_types.specs.declared.code.Code.{Code}
use Rattle.plane_spec.specs.Config.{Event}
use Rattle.plane_spec.specs.Legal.{Legal}
use Rattle.plane_spec.specs.Planes.{ControlState, applied}
use Rattle.switch_spec.specs.Answer.{answer_to}
use Rattle.switch_spec.specs.Counts.{Figures}
use Rattle.switch_spec.specs.History.{is_unavailable}
use Rattle.switch_spec.proofs.Answers.{answer_to_sound}

pub may_follow : (c : ControlState) (g : Figures) (lane k : ℕ) (call : Call) (list : List Event) → c.closed ≡ false → list ≡ (answer_to c g lane k call).events → Legal c list
may_follow c g lane k call list alive is =
    subst (λ (l : List Event). Legal c l) (append-nil _ ∙ sym is) ((answer_to_sound call c g lane k).legal alive [] tt)

pub is_available : (c : ControlState) (g : Figures) (lane k : ℕ) (call : Call) (code : Code) → code ≡ (answer_to c g lane k call).code → is_unavailable code ≡ false
is_available c g lane k call code is = ap is_unavailable is ∙ (answer_to_sound call c g lane k).available

pub still_alive : (c : ControlState) (g : Figures) (lane k : ℕ) (call : Call) (list : List Event) → c.closed ≡ false → list ≡ (answer_to c g lane k call).events → (applied c list).closed ≡ false
still_alive c g lane k call list alive is = ap (λ (l : List Event). (applied c l).closed) is ∙ (answer_to_sound call c g lane k).still_open alive
