use Rattle.std.proofs.Common.{◌≤◌, length, take}
use Rattle.std.specs.Io.KnownBytes.{Appends}
use Rattle.sw_edge.specs.Real.{Took}
use Rattle.sw_edge.proofs.real.write_some.Given as goal

abbrev pub invariant-loop : goal.invariant-loop
invariant-loop g l = record {
  within : l.done ≤ length l.bytes;
  written : Appends (g.W.Writer.contents l.initial.writer) (g.W.Writer.contents l.writer) (take l.done l.bytes);
  took : Took g.W.Writer.answers l.counter l.done l.initial.writer l.writer;
}
