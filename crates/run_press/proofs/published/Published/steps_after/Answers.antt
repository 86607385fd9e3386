use Rattle.std.proofs.Common.{◌∙◌, ap, List, Option, drop}
use Rattle.std.specs.List.{filter_map}
use Rattle.std.proofs.lemmas.List.{take_rest}
use Rattle.p4_types.specs.declared.journal.Step.{Step}
use Rattle.switch_spec.specs.History.{step_of}
use Rattle.run_press.specs.Given.{Given}
use Rattle.run_press.specs.Kinds.{steps_in}
use Rattle.run_press.proofs.StepsBehind.{behind, if_ok_as}
use Rattle.run_press.proofs.published.Published.steps_after.Goals as goal

pub returns : goal.returns
returns c =
    if_ok_as c.steps_in.result _ _
    (ap steps_in (take_rest c.deref.result.now c.args.before) ∙ ap (λ (kinds : List (Option Step)). steps_in (drop c.args.before kinds)) (c.deref.ensures.value ∙ c.self.invariant.1) ∙ behind step_of c.args.before c.self.inside.begun.log
    ∙ ap (λ (given : Given). filter_map step_of (drop c.args.before given.events)) c.self.view_is)
    c.steps_in.ensures
