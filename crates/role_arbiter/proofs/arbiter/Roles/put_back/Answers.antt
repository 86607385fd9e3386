use Rattle.std.proofs.Common.{length, ap, arith}
use Rattle.role_arbiter.specs.State.{RolesState}
use Rattle.role_arbiter.proofs.Soundness.{length_inserted}
use Rattle.role_arbiter.proofs.arbiter.Roles.put_back.Goals as goal

pub insert-requires-clause-few : goal.insert-requires-clause-few
insert-requires-clause-few c =
    let few = c.requires.sound.few_sessions in
    omega (arith, length_inserted c.args.self.now.sessions c.args.session, ap (λ (state : RolesState). length state.sessions) c.self.view_is)
