use Rattle.std.proofs.Common.{rules, ◌∙◌, ap}
use Rattle.std.proofs.lemmas.Result.{IfOk-weaker}
use Rattle.clap.specs.Simple.{app_of_fields}
use Rattle.command_words.proofs.Commands.{nameless, one_more, quiet}
use Rattle.command_words.proofs.taken.gen_command.Goals as goal

pub returns : goal.returns
returns c =
    let start = ap app_of_fields c.disable_help_flag.ensures ∙ ap quiet (ap app_of_fields c.no_binary_name.ensures ∙ ap nameless c.new.ensures.app) in
    IfOk-weaker c.arg.result _ _ (λ command adds. one_more _ _ _ _ _ adds start (search rules) (search rules)) c.arg.ensures
