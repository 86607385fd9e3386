use Rattle.std.proofs.Common.{◌≡◌, take, fold, length, ap, ◌∙◌, arith}
use Rattle.std.proofs.Math.Seq.{take-length}
use Rattle.program_spec.specs.Actions.{action_done, primitive_done}
use Rattle.act_exec.specs.Marks.{effects}
use Rattle.act_exec.proofs.running.run_primitives.Goals as goal

pub returns-clause-done : goal.returns-clause-done
unfolding action_done
returns-clause-done c =
    let primitives = c.args.action.now.primitives in
    let all : c.loop-primitive.primitive-index ≡ length primitives = omega (arith, ap length c.as_slice-primitive-items.ensures) in
    c.loop-primitive.invariant.done
    ∙ ap (fold (primitive_done c.args.program.now c.args.args.now) (effects c.args.store.now c.args.marks.now)) (ap (λ n. take n primitives) all ∙ take-length primitives)
