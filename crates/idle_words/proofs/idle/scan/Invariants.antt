use Rattle.std.proofs.Common.{take}
use Rattle.idle_words.specs.Scan.{Scanned}
use Rattle.idle_words.proofs.idle.scan.Given as goal

abbrev pub invariant-loop-entry : goal.invariant-loop-entry
invariant-loop-entry l = Scanned l.now l.untold (take l.entry-index l.entries) l.initial.seat l.seat l.found.names l.found.marks l.found.next
