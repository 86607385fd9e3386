use Rattle.std.proofs.Common.{◌∙◌, sym}
use Rattle.command_words.proofs.Values.{same_settings}
use Rattle.command_words.proofs.taken.serve_settings.Goals as goal

pub returns : goal.returns
returns c = λ s g. same_settings _ s (sym g.lockstep) (sym g.bridge) (c.number_of_argument.ensures.number ∙ g.start.device) (c.small_number.ensures ∙ g.start.cpu)
    (c.rows.ensures ∙ g.start.rows) (c.small_number-2.ensures ∙ g.port) (c.small_number-3.ensures ∙ g.packets) (c.small_number-4.ensures ∙ g.workers)
