use Rattle.std.proofs.Common.{length}
use Rattle.command_words.proofs.words.+settings_from.Given as goal

abbrev pub decreases-settings_from : goal.decreases-settings_from
decreases-settings_from l = length l.words.now
