use Rattle.std.proofs.Common.{◌<◌, ◌+◌, All}
use Rattle.speed.proofs.routes.fill.Given as goal

abbrev pub invariant-loop-number : goal.invariant-loop-number
invariant-loop-number l = All (λ entry. entry.seq < 1 + l.number) l.plane.now.entries × All (λ entry. entry.seq < 1 + l.number) l.plane.before.entries
