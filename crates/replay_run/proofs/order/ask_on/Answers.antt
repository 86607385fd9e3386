use Rattle.std.proofs.Common.{◌≡◌, ◌∙◌, ◌-◌, ap, arith}
use Rattle.ctl_lock.specs.Passing.{Passing}
use Rattle.replay_run.proofs.Lanes.{as_many, lane_kept}
use Rattle.replay_run.proofs.order.ask_on.Goals as goal
use Rattle.replay_run.specs.Opening.{IsAsker}

pub returns : goal.returns
returns g c = record {
  lanes = lane_kept (λ (p : Passing). p.lane) 32 (31 - c.args.lane) c.args.passes.now.items c.replace_with.new.dest _ (omega (arith, c.requires.lane)) c.requires.lanes
      (c.replace_with.ensures ∙ ap (λ (p : Passing). p.lane) c.index_mut.ensures.value);
}

pub index_mut-requires : goal.index_mut-requires
index_mut-requires g c = omega (arith, as_many IsAsker 32 c.args.passes.now.items c.requires.lanes, c.args.passes.now.ok.0, c.requires.lane)
