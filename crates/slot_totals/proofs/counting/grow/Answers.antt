use Rattle.std.proofs.Common.{arith}
use Rattle.slot_totals.proofs.Counted.{grown_figures}
use Rattle.slot_totals.proofs.counting.grow.Goals as goal

pub returns-in_ok-resize-clause-figures : goal.returns-in_ok-resize-clause-figures
returns-in_ok-resize-clause-figures c at = grown_figures _ _ _ _ c.in_ok-resize.ensures.items (omega arith) at
