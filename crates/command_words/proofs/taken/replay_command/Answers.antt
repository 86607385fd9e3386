use Rattle.std.proofs.Common.{◌∙◌, ap}
use Rattle.std.proofs.lemmas.Result.{IfOk-weaker}
use Rattle.clap.specs.Simple.{app_of_fields}
use Rattle.command_words.proofs.Commands.{nameless, one_more, quiet}
use Rattle.command_words.proofs.taken.replay_command.Goals as goal

pub returns : goal.returns
returns c =
    let start = ap app_of_fields c.disable_help_flag.ensures ∙ ap quiet (ap app_of_fields c.no_binary_name.ensures ∙ ap nameless c.new.ensures.app) in
    let lockstep = one_more _ _ _ _ _ c.in_ok-arg.ensures start c.flag.ensures.rule c.flag.ensures.local in
    let bridge = one_more _ _ _ _ _ c.in_ok-arg-2.ensures lockstep c.flag-2.ensures.rule c.flag-2.ensures.local in
    let device = one_more _ _ _ _ _ c.in_ok-arg-3.ensures bridge c.option.ensures.rule c.option.ensures.local in
    let cpu = one_more _ _ _ _ _ c.in_ok-arg-4.ensures device c.option-2.ensures.rule c.option-2.ensures.local in
    IfOk-weaker c.arg-5.result _ _ (λ command adds. one_more _ _ _ _ _ adds cpu c.option-3.ensures.rule c.option-3.ensures.local) c.arg-5.ensures
