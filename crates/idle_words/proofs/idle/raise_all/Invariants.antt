use Rattle.std.proofs.Common.{◌≡◌, take}
use Rattle.idle_words.specs.Scan.{raised_by}
use Rattle.idle_words.proofs.idle.raise_all.Given as goal

abbrev pub invariant-loop-mark : goal.invariant-loop-mark
invariant-loop-mark l = l.untold ≡ raised_by l.initial.untold (take l.mark-index l.marks)
