use Rattle.std.proofs.Common.{◌∙◌, ap}
use Rattle.std.proofs.lemmas.Result.{IfOk-weaker}
use Rattle.clap.specs.Simple.{app_of_fields}
use Rattle.command_words.proofs.Commands.{nameless, one_more, quiet}
use Rattle.command_words.proofs.taken.serve_command.Goals as goal

pub returns : goal.returns
returns c =
    let start = ap app_of_fields c.disable_help_flag.ensures ∙ ap quiet (ap app_of_fields c.no_binary_name.ensures ∙ ap nameless c.new.ensures.app) in
    let device = one_more _ _ _ _ _ c.in_ok-arg.ensures start c.option.ensures.rule c.option.ensures.local in
    let cpu = one_more _ _ _ _ _ c.in_ok-arg-2.ensures device c.option-2.ensures.rule c.option-2.ensures.local in
    let rows = one_more _ _ _ _ _ c.in_ok-arg-3.ensures cpu c.option-3.ensures.rule c.option-3.ensures.local in
    let port = one_more _ _ _ _ _ c.in_ok-arg-4.ensures rows c.option-4.ensures.rule c.option-4.ensures.local in
    let packets = one_more _ _ _ _ _ c.in_ok-arg-5.ensures port c.option-5.ensures.rule c.option-5.ensures.local in
    IfOk-weaker c.arg-6.result _ _ (λ command adds. one_more _ _ _ _ _ adds packets c.option-6.ensures.rule c.option-6.ensures.local) c.arg-6.ensures
