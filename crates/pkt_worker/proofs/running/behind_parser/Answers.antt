use Rattle.std.proofs.Common.{◌∙◌, ap, suc, List, Option, None}
use Rattle.act_exec.specs.Marks.{Marked}
use Rattle.bm_expr.specs.Store.{Contents}
use Rattle.bm_pipeline.specs.declared.tables.Node.{Node}
use Rattle.bm_pipeline.specs.Places.{node_count}
use Rattle.canon_bytes.specs.Bits.{bits}
use Rattle.p4_types.specs.declared.records.HitMark.{HitMark}
use Rattle.packet_spec.specs.Walking.{Walk, walk_from}
use Rattle.pkt_walk.specs.Turns.{walk_at}
use Rattle.program_spec.specs.Checksums.{sums_verified}
use Rattle.bm_pipeline.specs.declared.program.Program.{Program}
use Rattle.plane_spec.specs.Config.{Config}
use Rattle.pkt_worker.proofs.Chosen.{goes_in}
use Rattle.pkt_worker.proofs.running.behind_parser.Goals as goal

pub returns : goal.returns
returns c = λ parsed store_is rest_is.
    let plane = c.args.plane.now.now in
    let n = suc (node_count plane.config.program) in
    let ingress = plane.config.program.ingress in
    let walk : Walk = walk_at c.walk.new.store c.walk.new.marks c.walk.new.out.hits in
    let through =
    c.walk.ensures.walked
    ∙ ap (λ (start : Option Node). walk_from plane n start (walk_at c.verify_sums.new.store c.clear.new.self c.args.out.now.hits)) c.ingress_of.ensures.start
    ∙ ap (λ (marks : Marked). walk_from plane n ingress (walk_at c.verify_sums.new.store marks c.args.out.now.hits)) c.clear.ensures
    ∙ ap (λ (store : Contents). walk_from plane n ingress (record { store = store; learned = None; hits = c.args.out.now.hits })) c.verify_sums.ensures.done
    ∙ ap (λ (program : Program). walk_from plane n ingress (record { store = sums_verified program c.args.store.now; learned = None; hits = c.args.out.now.hits })) (c.pipeline.ensures ∙ ap (λ (config : Config). config.program) c.config.ensures)
    ∙ ap (λ (hits : List HitMark). walk_from plane n ingress (record { store = sums_verified plane.config.program c.args.store.now; learned = None; hits = hits })) c.requires.hits in
    c.behind_ingress.ensures ∙ goes_in plane c.args.cpu parsed c.args.store.now (bits c.args.rest.now) walk store_is rest_is through
