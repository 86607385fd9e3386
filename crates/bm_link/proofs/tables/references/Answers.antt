use Rattle.std.proofs.Common.{arith}
use Rattle.p4info_model.specs.Lookups.{action_at}
use Rattle.link_spec.specs.Tables.{has_name}
use Rattle.bm_link.proofs.Pushes.{found_more}
use Rattle.bm_link.proofs.tables.references.Goals as goal

pub loop-reference-preserved : goal.loop-reference-preserved
loop-reference-preserved c =
    λ q. found_more (λ reference. has_name q (action_at c.args.info.now reference.id)) (λ reference. reference.id) c.args.references.now c.loop-reference.reference-index _ _ _ (omega arith)
    (c.loop-reference.invariant q) (c.in_ok-add_reference.ensures q)
