use Rattle.std.proofs.Common.{◌≡◌, ◌++◌, map}
use Rattle.run_spec.specs.Text.{count_up}
use Rattle.gen_tape.specs.Generated.{inserting}
use Rattle.gen_tape.proofs.load.push_routes.Given as goal

abbrev pub invariant-loop-i : goal.invariant-loop-i
invariant-loop-i l = l.items.items ≡ l.initial.items.items ++ map inserting (count_up 0 l.i)
