use Rattle.std.proofs.Common.{ap, length, arith}
use Rattle.packet_spec.specs.Walking.{Turn}
use Rattle.pkt_worker.proofs.walk.step.Goals as goal

pub hit_all-requires-clause-room : goal.hit_all-requires-clause-room
hit_all-requires-clause-room c = omega (arith, ap (λ (turn : Turn). length turn.walk.hits) (c.run_node-turn.ensures.turned c.args.out.now.hits), c.requires.hits)
