use Rattle.info_rules.proofs.Joined.{put_next}
use Rattle.info_rules.proofs.pairs.put.Goals as goal

pub loop-pair-preserved : goal.loop-pair-preserved
loop-pair-preserved c = put_next _ _ _ _ _ _ c.loop-pair-test.true c.loop-pair.invariant c.in_ok-insert.ensures.keys
