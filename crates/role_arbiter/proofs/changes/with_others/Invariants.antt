use Rattle.std.proofs.Common.{◌≡◌, ◌≤◌, length, take}
use Rattle.role_arbiter.specs.Telling.{with_others}
use Rattle.role_arbiter.proofs.changes.with_others.Given as goal

abbrev pub invariant-loop-session : goal.invariant-loop-session
invariant-loop-session l = (l.told ≡ with_others l.others l.new (take l.session-index l.sessions)) × (length l.told ≤ l.session-index)
