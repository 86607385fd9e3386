use Rattle.std.proofs.Common.{arith}
use Rattle.role_arbiter.proofs.Soundness.{leave}
use Rattle.role_arbiter.proofs.arbiter.Roles.leave.Goals as goal

pub invariant_of-self : goal.invariant_of-self
invariant_of-self c = (rw c.remove.ensures.items (leave _ c.args.caller c.self.invariant.0), omega arith, omega arith)
