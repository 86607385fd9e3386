use Rattle.std.proofs.Common.{OnOk, ℕ, List, Option, ap, ◌∙◌, sym, subst}
use Rattle.p4_types.specs.declared.tape.Who.TheVariants.{Controller}
use Rattle.plane_spec.specs.Planes.{ControlState}
use Rattle.lockstep_run.specs.Session.{State, IsCarried, IsOut}
use Rattle.lockstep_run.proofs.session.Session.carry_out.Goals as goal

pub returns-in-Some : goal.returns-in-Some
returns-in-Some c =
    let cpu = c.cpu-cpu.ensures ∙ ap (λ (control : ControlState). control.cpu) c.image.ensures.control ∙ ap (λ (s : State). s.core.control.cpu) c.self.view_is in
    let P : ℕ → List ℕ → Type 0 = λ port packet. OnOk c.carry.result (IsCarried (Controller c.args.lane) port packet c.args.self.now c.carry.new.self) in
    let Q : Option (List ℕ) → Type 0 = λ o. OnOk c.carry.result (IsOut c.args.lane o c.args.self.now c.carry.new.self) in
    subst Q (sym c.in-Some.is) (subst (λ port. P port c.in-Some.packet) cpu (subst (P c.cpu-cpu.result) c.as_slice.ensures c.carry.ensures))
