use Rattle.std.proofs.Common.{rules, ap, ◌∙◌}
use Rattle.role_arbiter.specs.Arbitration.{is_refused}
use Rattle.role_arbiter.specs.State.{RolesState}
use Rattle.role_arbiter.proofs.Entering.{told_placed}
use Rattle.role_arbiter.proofs.Soundness.{entered}
use Rattle.role_arbiter.proofs.arbiter.Roles.enter.Goals as goal

pub returns-clause-told : goal.returns-clause-told
returns-clause-told c =
    told_placed c.args.self.now c.args.new.session c.copied-new.result c.deref-3.result.now c.deref-4.result.now _ _ c.args.new.known c.greatest_of-greatest.result c.receive-greatest.result c.differs-others.result _
    (search rules) (search rules) (search rules) (search rules) (search rules) (search rules) (search rules) c.primary_with-after.ensures c.differs-others.ensures c.with_others.ensures

pub invariant_of-self : goal.invariant_of-self
invariant_of-self c =
    (rw (c.put.ensures.items, c.receive-greatest.ensures.items) (entered _ _ c.self.invariant.0 (ap (λ (state : RolesState). is_refused state c.args.new.session) c.self.view_is ∙ c.requires.accepted)), c.put.ensures.room, c.receive-greatest.ensures.room)
