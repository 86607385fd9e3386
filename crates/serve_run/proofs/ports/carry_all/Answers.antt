use Rattle.std.proofs.Common.{None, Some, refl, ◌∙◌, arith}
use Rattle.sw_edge.proofs.ToldLaws.{Keeps-refl}
use Rattle.serve_run.proofs.Carrying.{carried_on, none_carried}
use Rattle.serve_run.proofs.ports.carry_all.Goals as goal

pub loop-init : goal.loop-init
loop-init g c = record {
  room = omega arith;
  carried = none_carried None (g.P.Ports.left c.args.ports.now) (g.P.Ports.left c.args.ports.now) (g.P.Ports.sent c.args.ports.now) (g.P.Ports.sent c.args.ports.now) c.args.worker.now c.args.worker.now
      (Keeps-refl (g.P.Ports.left c.args.ports.now)) (Keeps-refl (g.P.Ports.sent c.args.ports.now)) refl;
  faults = refl;
  ends = refl;
  yeses = refl;
}

pub loop-preserved : goal.loop-preserved
loop-preserved g c = record {
  room = omega (arith, c.carry_next.ensures.room, c.loop.invariant.room);
  carried = carried_on None (g.P.Ports.left c.args.ports.now) (g.P.Ports.left c.loop.ports) (g.P.Ports.left c.carry_next.new.ports) (g.P.Ports.sent c.args.ports.now) (g.P.Ports.sent c.loop.ports) (g.P.Ports.sent c.carry_next.new.ports)
      c.args.worker.now c.loop.worker c.carry_next.new.worker c.loop.invariant.carried c.in-None-carry_next.ensures.carried;
  faults = c.in-None-carry_next.ensures.no_fault (λ e. absurd cc) ∙ c.loop.invariant.faults;
  ends = c.in-None-carry_next.ensures.no_end (λ e. absurd cc) ∙ c.loop.invariant.ends;
  yeses = c.in-None-carry_next.ensures.not_stopped (λ e. absurd cc) ∙ c.loop.invariant.yeses;
}

pub returns-in-Some-carry_next-clause-carried : goal.returns-in-Some-carry_next-clause-carried
returns-in-Some-carry_next-clause-carried g c =
    carried_on (Some c.in-Some-carry_next.end) (g.P.Ports.left c.args.ports.now) (g.P.Ports.left c.loop.ports) (g.P.Ports.left c.carry_next.new.ports) (g.P.Ports.sent c.args.ports.now) (g.P.Ports.sent c.loop.ports) (g.P.Ports.sent c.carry_next.new.ports)
    c.args.worker.now c.loop.worker c.carry_next.new.worker c.loop.invariant.carried c.in-Some-carry_next.ensures.carried
