use Rattle.std.proofs.Common.{◌≡◌, ◌∙◌, ◌-◌, ap, arith}
use Rattle.run_lanes.specs.Packets.{PacketPassing}
use Rattle.replay_run.proofs.Lanes.{as_many, lane_kept}
use Rattle.replay_run.proofs.order.take_on.Goals as goal
use Rattle.replay_run.specs.Opening.{IsTaker}

pub returns : goal.returns
returns g c = record {
  lanes = lane_kept (λ (p : PacketPassing). p.lane) 16 (15 - c.args.lane) c.args.passes.now.items c.replace_with.new.dest _ (omega (arith, c.requires.lane)) c.requires.lanes
      (c.replace_with.ensures ∙ ap (λ (p : PacketPassing). p.lane) c.index_mut.ensures.value);
}

pub index_mut-requires : goal.index_mut-requires
index_mut-requires g c = omega (arith, as_many IsTaker 16 c.args.passes.now.items c.requires.lanes, c.args.passes.now.ok.0, c.requires.lane)
