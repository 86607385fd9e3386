use Rattle.std.proofs.Common.{◌≡◌, ◌++◌, length, drop}
use Rattle.run_press.proofs.published.with_all.Given as goal

abbrev pub invariant-loop-event : goal.invariant-loop-event
invariant-loop-event l = (l.more.book ≡ l.begun.book) × (l.count ≡ length l.more.log) × (l.more.log ++ drop l.event-index l.events ≡ l.begun.log ++ l.events)
