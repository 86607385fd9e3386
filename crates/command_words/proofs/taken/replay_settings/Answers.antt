use Rattle.std.proofs.Common.{◌∙◌, sym}
use Rattle.command_words.proofs.Values.{same_settings}
use Rattle.command_words.proofs.taken.replay_settings.Goals as goal

pub returns : goal.returns
returns c = λ s g. same_settings _ s (c.is_given.ensures s.lockstep g.lockstep) (c.is_given-2.ensures s.bridge g.bridge)
    (c.number_of_argument.ensures.number ∙ g.start.device) (c.small_number.ensures ∙ g.start.cpu) (c.rows.ensures ∙ g.start.rows) (sym g.port) (sym g.packets) (sym g.workers)
