use Rattle.std.proofs.Common.{◌≡◌, Option, sym, ap, ◌∙◌, subst}
use Rattle.std.specs.Option.{option_map}
use Rattle.role_arbiter.specs.Arbitration.{is_refused}
use Rattle.role_arbiter.specs.declared.sessions.NamedRole.{NamedRole}
use Rattle.role_arbiter.specs.Laws.{IsSound}
use Rattle.role_arbiter.specs.Placing.{IsPlaced}
use Rattle.role_arbiter.specs.State.{RolesState}
use Rattle.role_arbiter.specs.Telling.{told_at_arbitration}
use Rattle.role_arbiter.specs.Undo.{RolesVersions, back}
use Rattle.role_arbiter.proofs.ByPlaces.{session_placed, role_placed}
use Rattle.role_arbiter.proofs.Soundness.{entered}
use Rattle.role_arbiter.proofs.Undoing.{back_entered}
use Rattle.role_arbiter.specs.declared.undo.Step.TheVariants as steps
use Rattle.role_arbiter.proofs.undo.UndoRoles.enter.Goals as goal

-- the places are those in the roles as they were
placed : (c : goal.After-enter) → IsPlaced c.self.inside.roles c.args.new
placed c = subst (λ (versions : RolesVersions). IsPlaced versions.now c.args.new) (sym c.self.view_is) c.requires.placed

-- what the step gives back
back_is : (c : goal.After-enter) → back (steps.Entered c.args.new.session.caller c.args.new.session.role c.session_at.result c.received_at.result) c.enter.new.self ≡ c.self.inside.roles
back_is c =
    let state = c.self.inside.roles in
    let new = c.args.new.session in
    back_entered state c.enter.new.self new c.session_at.result c.received_at.result
    (c.session_at.ensures ∙ session_placed state.sessions new.caller c.args.new.place (placed c).place)
    (c.received_at.ensures ∙ ap (λ (o : Option NamedRole). option_map (λ known. known.greatest) o) (role_placed state.named new.role c.args.new.known (placed c).known))
    c.enter.ensures.step

pub invariant_of-self : goal.invariant_of-self
invariant_of-self c =
    (rw c.enter.ensures.step (entered _ _ c.self.invariant.0 (ap (λ (versions : RolesVersions). is_refused versions.now c.args.new.session) c.self.view_is ∙ c.requires.accepted)), subst (λ (state : RolesState). IsSound state) (sym (back_is c)) c.self.invariant.0)

pub returns-clause-before : goal.returns-clause-before
returns-clause-before c = back_is c ∙ ap (λ (versions : RolesVersions). versions.now) c.self.view_is ∙ sym c.requires.settled

pub returns-clause-told : goal.returns-clause-told
returns-clause-told c = c.enter.ensures.told ∙ ap (λ (versions : RolesVersions). told_at_arbitration versions.now c.args.new.session) c.self.view_is
