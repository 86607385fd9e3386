use Rattle.pub_snap.proofs.Seeing.{admits}
use Rattle.pub_snap.proofs.opening.reader.Goals as goal

pub reader-requires : goal.reader-requires
reader-requires g c = admits
