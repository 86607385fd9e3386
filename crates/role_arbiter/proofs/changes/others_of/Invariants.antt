use Rattle.std.proofs.Common.{◌≡◌, ◌≤◌, length, take}
use Rattle.role_arbiter.specs.Telling.{others_of}
use Rattle.role_arbiter.proofs.changes.others_of.Given as goal

abbrev pub invariant-loop-session : goal.invariant-loop-session
invariant-loop-session l = (l.told ≡ others_of l.caller l.role (take l.session-index l.sessions)) × (length l.told ≤ l.session-index)
