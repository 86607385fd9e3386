use Rattle.std.proofs.Common.{◌≡◌, vec_len}
use Rattle.sw_edge.proofs.memory_ports.blanks.Given as goal

abbrev pub invariant-loop : goal.invariant-loop
invariant-loop l = vec_len l.blanks ≡ l.counter
