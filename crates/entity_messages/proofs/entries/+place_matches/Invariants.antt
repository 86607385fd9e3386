use Rattle.std.proofs.Common.{length}
use Rattle.entity_messages.proofs.entries.+place_matches.Given as goal

abbrev pub decreases-place_matches : goal.decreases-place_matches
decreases-place_matches l = length l.fields.now
