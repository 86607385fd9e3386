use Rattle.std.proofs.Common.{length}
use Rattle.entity_messages.proofs.entries.+place_params.Given as goal

abbrev pub decreases-place_params : goal.decreases-place_params
decreases-place_params l = length l.params.now
