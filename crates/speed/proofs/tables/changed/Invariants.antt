use Rattle.std.proofs.Common.{◌≡◌}
use Rattle.speed.proofs.tables.changed.Given as goal

abbrev pub invariant-loop : goal.invariant-loop
invariant-loop l = (l.store.entries ≡ l.initial.store.entries) × (l.store.before ≡ l.initial.store.before)
