use Rattle.std.proofs.Common.{rules}
use Rattle.std.proofs.lemmas.Result.{err_from_is_err_and}
use Rattle.wire_fields.proofs.Varints.{varint_shorter}
use Rattle.wire_messages.proofs.Packed.{first_here, packed_start, packed_fault, packed_range, packed_next, packed_end}
use Rattle.wire_messages.proofs.steps.push_packed.Goals as goal

pub loop-left-init : goal.loop-left-init
loop-left-init c = (packed_start _ _, λ asked. asked)

pub returns-in_default-clause-exact : goal.returns-in_default-clause-exact
returns-in_default-clause-exact c = packed_fault _ _ _ _ c.loop-left.invariant.0 (search rules) c.in_default.ensures

pub returns-in_err-uint32-clause-exact : goal.returns-in_err-uint32-clause-exact
returns-in_err-uint32-clause-exact c =
    let p = err_from_is_err_and c.from_residual.result c.from_residual.ensures.1 in
    rw (p.1, p.2) (packed_range _ _ _ _ _ c.loop-left.invariant.0 (search rules) c.in-Ok.ensures c.in_err-uint32.ensures)

pub loop-left-smaller : goal.loop-left-smaller
loop-left-smaller c = varint_shorter _ _ _ c.in-Ok.ensures

pub loop-left-preserved : goal.loop-left-preserved
loop-left-preserved c = (
  rw c.in_ok-push.ensures.items (packed_next _ _ _ _ _ _ c.loop-left.invariant.0 (search rules) c.in-Ok.ensures (varint_shorter _ _ _ c.in-Ok.ensures) c.in_ok-uint32.ensures),
  λ _. c.loop-left.invariant.1 (first_here _ _ _ _ c.in-Ok.ensures c.in_ok-uint32.ensures),
)

pub returns-in_err-push-clause-memory : goal.returns-in_err-push-clause-memory
returns-in_err-push-clause-memory c = λ _. c.loop-left.invariant.1 (first_here _ _ _ _ c.in-Ok.ensures c.in_ok-uint32.ensures)

pub returns-clause-exact : goal.returns-clause-exact
returns-clause-exact c = packed_end _ _ _ c.loop-left.invariant.0 (search rules)
