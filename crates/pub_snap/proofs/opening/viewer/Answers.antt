use Rattle.pub_snap.proofs.Seeing.{forks, merges}
use Rattle.pub_snap.proofs.opening.viewer.Goals as goal

pub tell-requires : goal.tell-requires
tell-requires g c = forks _ _

pub learn-requires-clause-rule : goal.learn-requires-clause-rule
learn-requires-clause-rule g c = merges _ _ _ _
