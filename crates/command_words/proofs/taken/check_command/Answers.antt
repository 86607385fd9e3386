use Rattle.std.proofs.Common.{◌∙◌, ap}
use Rattle.clap.specs.Simple.{app_of_fields}
use Rattle.command_words.proofs.Commands.{nameless, quiet}
use Rattle.command_words.proofs.taken.check_command.Goals as goal

pub returns : goal.returns
returns c =
    ap app_of_fields c.disable_help_flag.ensures ∙ ap quiet (ap app_of_fields c.no_binary_name.ensures ∙ ap nameless c.new.ensures.app)
