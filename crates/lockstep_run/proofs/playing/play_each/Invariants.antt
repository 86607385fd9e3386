use Rattle.std.proofs.Common.{take}
use Rattle.lockstep_run.specs.Playing.{HasPlayed}
use Rattle.lockstep_run.proofs.playing.play_each.Given as goal

abbrev pub invariant-loop-item : goal.invariant-loop-item
invariant-loop-item l = HasPlayed l.fn.start (take l.item-index l.items) l.lanes l.speaker
