use Rattle.std.proofs.Common.{◌∙◌, ap, suc, length, Option, None, arith}
use Rattle.act_exec.specs.Marks.{Marked}
use Rattle.bm_expr.specs.Store.{Contents}
use Rattle.bm_pipeline.specs.declared.tables.Node.{Node}
use Rattle.bm_pipeline.specs.Places.{node_count}
use Rattle.canon_bytes.specs.Bits.{bits}
use Rattle.p4_types.specs.declared.records.Sample.{Sample}
use Rattle.packet_spec.specs.Meaning.{Verdict, left}
use Rattle.packet_spec.specs.Walking.{Walk, walk_from}
use Rattle.pkt_walk.specs.Turns.{walk_at}
use Rattle.pkt_worker.proofs.Chosen.{left_keeps, goes_through}
use Rattle.pkt_worker.proofs.running.through_egress.Goals as goal

pub returns-clause-left : goal.returns-clause-left
returns-clause-left c =
    let plane = c.args.plane.now.now in
    let n = suc (node_count plane.config.program) in
    let rest = bits c.args.rest.now in
    let hits = c.args.out.now.hits in
    let port = c.egress_spec-port.result in
    let egress : Walk = walk_at c.walk.new.store c.walk.new.marks c.walk.new.out.hits in
    let through =
    c.walk.ensures.walked
    ∙ ap (λ (start : Option Node). walk_from plane n start (walk_at c.enter_egress.new.store c.clear.new.self hits)) c.egress_of.ensures.start
    ∙ ap (λ (marks : Marked). walk_from plane n plane.config.program.egress (walk_at c.enter_egress.new.store marks hits)) c.clear.ensures
    ∙ ap (λ (store : Contents). walk_from plane n plane.config.program.egress (record { store = store; learned = None; hits = hits })) c.enter_egress.ensures.entered in
    c.leave.ensures.left c.walk.new.marks.learned
    ∙ ap (λ (sample : Option Sample). left plane c.args.cpu port rest sample egress) (ap (λ (v : Verdict). v.sample) c.walk.ensures.others)
    ∙ goes_through plane c.args.cpu port rest c.args.out.now.sample c.args.store.now hits egress c.egress_spec-port.ensures through

pub returns-clause-hits : goal.returns-clause-hits
returns-clause-hits c =
    let egress : Walk = walk_at c.walk.new.store c.walk.new.marks c.walk.new.out.hits in
    omega (
      arith,
      ap (λ (v : Verdict). length v.hits) (c.leave.ensures.left c.walk.new.marks.learned),
      ap length (left_keeps c.args.plane.now.now c.args.cpu c.egress_spec-port.result (bits c.args.rest.now) c.walk.new.out.sample egress).hits_are,
      c.walk.ensures.hits,
    )
