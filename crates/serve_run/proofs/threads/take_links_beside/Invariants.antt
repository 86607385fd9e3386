use Rattle.std.proofs.Common.{◌≡◌}
use Rattle.serve_run.proofs.threads.take_links_beside.Given as goal

abbrev pub invariant-loop-worker : goal.invariant-loop-worker
invariant-loop-worker g l = (g.N.Net.ends l.net ≡ g.N.Net.ends l.fn.net) × (g.N.Net.faults l.net ≡ g.N.Net.faults l.fn.net)
