use Rattle.std.proofs.Common.{◌≡◌, ◌++◌, map}
use Rattle.run_spec.specs.Text.{count_up}
use Rattle.gen_tape.specs.Generated.{sending}
use Rattle.gen_tape.proofs.load.push_packets.Given as goal

abbrev pub invariant-loop-j : goal.invariant-loop-j
invariant-loop-j l = l.items.items ≡ l.initial.items.items ++ map (sending l.number) (count_up 0 l.j)
