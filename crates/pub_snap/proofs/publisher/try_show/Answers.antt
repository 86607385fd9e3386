use Rattle.std.proofs.Common.{sym, subst}
use Rattle.pub_snap.specs.Beginnings.{Begins}
use Rattle.pub_snap.specs.Snapshots.{Snapshot, IsAfter}
use Rattle.pub_snap.proofs.Seeing.{sees}
use Rattle.pub_snap.proofs.publisher.try_show.Goals as goal

pub publish_as-requires : goal.publish_as-requires
publish_as-requires g c next is =
    sees _ _ _ next (subst (λ (s : Snapshot). IsAfter s.image s.told) (sym is) c.requires.after)
    (subst (λ (s : Snapshot). Begins c.args.writer.desk.shown.value.told s.told) (sym is) c.requires.begins)
