use Rattle.pub_snap.proofs.Seeing.{looks}
use Rattle.pub_snap.proofs.viewer.Viewer.enter.Goals as goal

pub enter_as-requires : goal.enter_as-requires
enter_as-requires c = looks _ _
