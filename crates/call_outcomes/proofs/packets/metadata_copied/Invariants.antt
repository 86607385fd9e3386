use Rattle.std.proofs.Common.{◌≡◌, ◌++◌, drop}
use Rattle.call_outcomes.proofs.packets.metadata_copied.Given as goal

abbrev pub invariant-loop-given : goal.invariant-loop-given
invariant-loop-given l = l.copy ++ drop l.given-index l.metadata ≡ l.metadata
