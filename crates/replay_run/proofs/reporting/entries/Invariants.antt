use Rattle.std.proofs.Common.{◌≡◌, ◌++◌, map}
use Rattle.std.specs.Vec.Iter.{into_iter_items}
use Rattle.replay_run.proofs.reporting.entries.Given as goal

abbrev pub invariant-loop-signed : goal.invariant-loop-signed
invariant-loop-signed l =
    (l.entries ≡ map (λ signed. signed.entry) l.yielded)
    × (l.yielded ++ into_iter_items l.signed-iterator ≡ l.fn.journal.items)
