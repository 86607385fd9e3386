use Rattle.std.proofs.Common.{length}
use Rattle.match_index.proofs.cuts.+key_print_from.Given as goal

abbrev pub decreases-key_print_from : goal.decreases-key_print_from
decreases-key_print_from l = length l.cuts.now
