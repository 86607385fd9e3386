use Rattle.std.proofs.Common.{sym}
use Rattle.plane_spec.proofs.FewReplicas.{cause_limits}
use Rattle.write_rules.proofs.multicast.multicast.Goals as goal

pub multicast_change-requires : goal.multicast_change-requires
multicast_change-requires c = λ brought. cause_limits _ c.args.kind c.args.entry.now (sym c.in-None.ensures) brought
