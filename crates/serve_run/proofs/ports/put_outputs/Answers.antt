use Rattle.std.proofs.Common.{◌∙◌}
use Rattle.serve_run.proofs.Outputs.{put_failed, put_one}
use Rattle.sw_edge.proofs.ToldLaws.{Keeps-trans}
use Rattle.serve_run.proofs.ports.put_outputs.Goals as goal

pub returns-in-Failed-clause-some : goal.returns-in-Failed-clause-some
returns-in-Failed-clause-some g c =
    put_failed (g.P.Ports.sent c.args.ports.now) (g.P.Ports.sent c.loop-place.ports) (g.P.Ports.sent c.put.new.self) c.args.verdict.now c.loop-place.place c.in-Some.port c.in-Some.bytes.now c.loop-place.invariant.put
    c.in-Some.ensures c.in-Failed.ensures.puts

pub loop-place-preserved : goal.loop-place-preserved
loop-place-preserved g c = record {
  put = put_one (g.P.Ports.sent c.args.ports.now) (g.P.Ports.sent c.loop-place.ports) (g.P.Ports.sent c.put.new.self) c.args.verdict.now c.loop-place.place c.in-Some.port c.in-Some.bytes.now c.loop-place.invariant.put
      c.in-Some.ensures c.in-All.ensures.puts;
  left = Keeps-trans (g.P.Ports.left c.args.ports.now) (g.P.Ports.left c.loop-place.ports) (g.P.Ports.left c.put.new.self) c.loop-place.invariant.left c.in-All.ensures.keeps_left;
  faults = c.in-All.ensures.no_fault (λ e. absurd cc) ∙ c.loop-place.invariant.faults;
  quiets = c.in-All.ensures.quiet ∙ c.loop-place.invariant.quiets;
  ends = c.in-All.ensures.end ∙ c.loop-place.invariant.ends;
}
