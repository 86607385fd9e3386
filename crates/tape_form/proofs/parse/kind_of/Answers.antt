use Rattle.std.proofs.Common.{ℕ, Err, ap, ◌∙◌, arith, suc, length, ◌+◌, ◌≡◌, ◌<◌}
use Rattle.tape_form.specs.Calls.{lanes_of}
use Rattle.tape_form.proofs.Callers.{past_kind}
use Rattle.tape_form.proofs.parse.kind_of.Goals as goal

pub returns-in_default-clause-bad : goal.returns-in_default-clause-bad
returns-in_default-clause-bad c =
    let gt : 5 < c.args.first = omega (arith, c.in_default) in
    let one : suc (length c.args.rest.now) ≡ length c.args.rest.now + 1 = omega arith in
    past_kind (lanes_of c.args.lanes.now) c.args.first c.args.rest.now gt ∙ ap (λ (n : ℕ). Err n) one
