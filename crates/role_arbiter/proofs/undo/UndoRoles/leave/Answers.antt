use Rattle.std.proofs.Common.{◌≡◌, refl, sym, ap, ◌∙◌, subst}
use Rattle.role_arbiter.specs.Arbitration.{left}
use Rattle.role_arbiter.specs.Laws.{IsSound}
use Rattle.role_arbiter.specs.State.{RolesState}
use Rattle.role_arbiter.specs.Undo.{RolesVersions, back}
use Rattle.role_arbiter.proofs.Soundness as soundness
use Rattle.role_arbiter.proofs.Undoing.{back_left, back_unchanged}
use Rattle.role_arbiter.proofs.undo.UndoRoles.leave.Goals as goal
use Rattle.role_arbiter.proofs.undo.UndoRoles.leave.Goals.{in-None, in-Some}

-- the roles after the end of the session
left_is : (c : goal.After-leave) → c.leave.new.self ≡ left c.self.inside.roles c.args.caller
left_is c =
    let kept : c.match-session.self-inside.roles ≡ c.self.inside.roles = elim c.match-session.branch [ in-None w ↦ rw w.self-inside-is refl | in-Some w ↦ rw w.self-inside-is refl ] in
    c.leave.ensures.step ∙ ap (λ (state : RolesState). left state c.args.caller) kept

-- what the step gives back
back_is : (c : goal.After-leave) → back c.match-session.self c.leave.new.self ≡ c.self.inside.roles
back_is c =
    elim c.match-session.branch [
      | in-None w ↦ back_unchanged c.self.inside.roles c.leave.new.self c.args.caller c.match-session.self w.in-None.ensures w.self-is (left_is c)
      | in-Some w ↦ back_left c.self.inside.roles c.leave.new.self c.args.caller w.in-Some.session.now w.copied.result c.match-session.self c.self.invariant.0 w.in-Some.ensures w.copied.ensures w.self-is (left_is c)
    ]

pub invariant_of-self : goal.invariant_of-self
invariant_of-self c = (rw (left_is c) (soundness.leave _ c.args.caller c.self.invariant.0), subst (λ (state : RolesState). IsSound state) (sym (back_is c)) c.self.invariant.0)

pub returns-clause-before : goal.returns-clause-before
returns-clause-before c = back_is c ∙ ap (λ (versions : RolesVersions). versions.now) c.self.view_is ∙ sym c.requires.settled
