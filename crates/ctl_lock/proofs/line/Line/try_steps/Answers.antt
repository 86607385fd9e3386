use Rattle.std.proofs.Common.{◌∙◌, ap, List, Option, drop}
use Rattle.std.specs.List.{filter_map}
use Rattle.std.proofs.lemmas.List.{take_rest}
use Rattle.p4_types.specs.declared.journal.Step.{Step}
use Rattle.pub_snap.specs.Snapshots.{Feed, all_of}
use Rattle.switch_spec.specs.History.{step_of}
use Rattle.run_press.specs.Kinds.{steps_in}
use Rattle.run_press.proofs.StepsBehind.{behind, if_ok_as}
use Rattle.ctl_lock.proofs.line.Line.try_steps.Goals as goal

pub returns-clause-steps : goal.returns-clause-steps
returns-clause-steps g c =
    if_ok_as c.steps_in.result _ _
    (ap steps_in (take_rest c.deref.result.now c.args.before) ∙ ap (λ (kinds : List (Option Step)). steps_in (drop c.args.before kinds)) (c.deref.ensures.value ∙ c.self.invariant.2) ∙ behind step_of c.args.before (all_of c.self.inside.publisher)
    ∙ ap (λ (feed : Feed). filter_map step_of (drop c.args.before (all_of feed))) c.self.view_is)
    c.steps_in.ensures
