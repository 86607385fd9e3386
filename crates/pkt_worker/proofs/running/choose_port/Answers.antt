use Rattle.std.proofs.Common.{◌∙◌}
use Rattle.canon_bytes.specs.Bits.{bits}
use Rattle.pkt_walk.specs.Turns.{walk_at}
use Rattle.pkt_worker.proofs.Chosen.{not_dropped}
use Rattle.pkt_worker.proofs.running.choose_port.Goals as goal

pub returns : goal.returns
returns c =
    c.through_egress.ensures.left
    ∙ not_dropped c.args.plane.now.now c.args.cpu c.egress_spec.result (bits c.args.rest.now) c.args.out.now.sample (walk_at c.args.store.now c.args.marks.now c.args.out.now.hits) c.egress_spec.ensures
    c.if-egress_spec-eq-DROP_PORT.false
