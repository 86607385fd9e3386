-- The commands, as they are built of their arguments.
use Rattle.std.proofs.Common.{◌≡◌, ◌∙◌, true, ap, ap₂}
use Rattle.clap.specs.Built.{AddsArg}
use Rattle.clap.specs.Simple.{App, Shape, app_of, on_top, with_rule}
use Rattle.clap.specs.Walk.{Rule, rule_of}
use Rattle.clap.specs.declared.builder.command.Command.{Command}
use Rattle.clap.specs.declared.builder.arg.Arg.{Arg}

-- a command whose words are those behind its name
abbrev pub nameless : App → App
nameless = on_top (λ (s : Shape). record s { no_binary_name = true })

-- a command without the flag that asks for help
abbrev pub quiet : App → App
quiet = on_top (λ (s : Shape). record s { disable_help_flag = true })

-- a command with an argument more
pub one_more : (app : App) (rule : Rule) (old new : Command) (arg : Arg) → AddsArg old arg new → app_of old ≡ app → rule_of arg ≡ rule → arg.global ≡ Rattle.std.proofs.Common.false
    → app_of new ≡ with_rule app rule
one_more app rule old new arg adds is same local = adds.shape local ∙ ap₂ with_rule is same
