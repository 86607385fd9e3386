use Rattle.std.proofs.Common.{◌≡◌, ◌-◌, suc, IfSome}
use Rattle.bm_pipeline.specs.Places.{node_count}
use Rattle.bm_pipeline.specs.Validity.{IsNode}
use Rattle.packet_spec.specs.Walking.{walk_from}
use Rattle.pkt_codec.specs.Room.{AreAsLarge}
use Rattle.pkt_walk.specs.Turns.{walk_at}
use Rattle.pkt_worker.proofs.walk.walk.Given as goal

abbrev pub invariant-loop : goal.invariant-loop
invariant-loop l = record {
  walked : walk_from l.plane.now (suc (node_count l.plane.now.config.program) - l.counter) l.next (walk_at l.store l.marks l.out.hits)
      ≡ walk_from l.plane.now (suc (node_count l.plane.now.config.program)) l.fn.start (walk_at l.initial.store l.initial.marks l.initial.out.hits);
  next : IfSome l.next (IsNode l.plane.now.config.program);
  others : l.out ≡ record l.initial.out { hits = l.out.hits };
  as_large : AreAsLarge l.initial.store l.store;
}
