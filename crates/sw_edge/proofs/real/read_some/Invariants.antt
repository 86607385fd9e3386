use Rattle.std.specs.Io.KnownBytes.{Keeps}
use Rattle.sw_edge.specs.Real.{CutShort}
use Rattle.sw_edge.proofs.real.read_some.Given as goal

abbrev pub invariant-loop : goal.invariant-loop
invariant-loop g l = record {
  kept : Keeps (g.R.Reader.remaining l.initial.reader) (g.R.Reader.remaining l.reader);
  cut : CutShort g.R.Reader.answers l.counter l.initial.reader l.reader;
}
