use Rattle.std.proofs.Common.{◌≡◌, ◌<◌, ◌≤◌, ℕ, true, false}
use Rattle.bm_rules.specs.Peeling.{peeled_count, NoLong, IsStuck}
use Rattle.bm_rules.proofs.graphs.peel_each.Given as goal

abbrev pub invariant-loop-node : goal.invariant-loop-node
invariant-loop-node l =
    (NoLong l.edges l.initial.peeled → NoLong l.edges l.peeled) × (peeled_count l.initial.peeled ≤ peeled_count l.peeled)
    × (l.progress ≡ true → peeled_count l.initial.peeled < peeled_count l.peeled)
    × (l.progress ≡ false → (i : ℕ) → i < l.node → IsStuck l.edges l.peeled i)
