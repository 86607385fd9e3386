use Rattle.std.proofs.Common.{◌∙◌, ◌-◌, suc, ap, sym, subst, Option, arith}
use Rattle.std.specs.Prelude.{IfSome}
use Rattle.bm_pipeline.specs.declared.tables.Node.{Node}
use Rattle.bm_pipeline.specs.Places.{node_count}
use Rattle.bm_pipeline.specs.Validity.{IsNode}
use Rattle.packet_spec.specs.Meaning.{Verdict}
use Rattle.packet_spec.specs.Walking.{Walk, Turn, walk_from}
use Rattle.pkt_walk.specs.Turns.{walk_at}
use Rattle.pkt_worker.proofs.NextNodes.{next_own}
use Rattle.pkt_worker.proofs.Walks.{room_for, goes_on, hits_so_far}
use Rattle.pkt_worker.proofs.walk.walk.Goals as goal

pub returns-in_default-clause-hits : goal.returns-in_default-clause-hits
returns-in_default-clause-hits c =
    let plane = c.args.plane.now.now in
    let first : Walk = walk_at c.args.store.now c.args.marks.now c.args.out.now.hits in
    let at : Walk = walk_at c.loop.store c.loop.marks c.loop.out.hits in
    hits_so_far plane c.node_bound-end.ensures.valid c.args.start c.loop.next first at (suc (node_count plane.config.program) - c.loop.counter) c.loop.invariant.walked

pub returns-clause-hits : goal.returns-clause-hits
returns-clause-hits c =
    let plane = c.args.plane.now.now in
    let first : Walk = walk_at c.args.store.now c.args.marks.now c.args.out.now.hits in
    let at : Walk = walk_at c.loop.store c.loop.marks c.loop.out.hits in
    hits_so_far plane c.node_bound-end.ensures.valid c.args.start c.loop.next first at (suc (node_count plane.config.program) - c.loop.counter) c.loop.invariant.walked

pub step-next-requires-clause-hits : goal.step-next-requires-clause-hits
step-next-requires-clause-hits c =
    let plane = c.args.plane.now.now in
    let first : Walk = walk_at c.args.store.now c.args.marks.now c.args.out.now.hits in
    let at : Walk = walk_at c.loop.store c.loop.marks c.loop.out.hits in
    let so_far = ap (λ (next : Option Node). walk_from plane (suc (node_count plane.config.program) - c.loop.counter) next at) (sym c.in-Some.is) ∙ c.loop.invariant.walked in
    omega (arith, room_for plane c.node_bound-end.ensures.valid c.args.start first at c.loop.counter c.in-Some.node (omega arith) so_far, c.requires.hits)

pub loop-preserved : goal.loop-preserved
loop-preserved c =
    let plane = c.args.plane.now.now in
    let n = suc (node_count plane.config.program) in
    let l = c.loop in
    let node = c.in-Some.node in
    let first : Walk = walk_at c.args.store.now c.args.marks.now c.args.out.now.hits in
    let at : Walk = walk_at l.store l.marks l.out.hits in
    let after : Walk = walk_at c.step-next.new.store c.step-next.new.marks c.step-next.new.out.hits in
    let so_far = ap (λ (next : Option Node). walk_from plane (n - l.counter) next at) (sym c.in-Some.is) ∙ l.invariant.walked in
    record {
      walked = goes_on plane (walk_from plane n c.args.start first) n l.counter node at after c.step-next.result (omega arith) so_far c.step-next.ensures.done;
      next =
          subst (λ (next : Option Node). IfSome next (IsNode plane.config.program)) (ap (λ (turn : Turn). turn.next) c.step-next.ensures.done)
          (next_own plane c.node_bound-end.ensures.valid node at);
      others = c.step-next.ensures.others ∙ ap (λ (v : Verdict). record v { hits = c.step-next.new.out.hits }) l.invariant.others;
      as_large = record {
        fields = c.step-next.ensures.as_large.fields ∙ l.invariant.as_large.fields;
        headers = c.step-next.ensures.as_large.headers ∙ l.invariant.as_large.headers;
      };
    }
