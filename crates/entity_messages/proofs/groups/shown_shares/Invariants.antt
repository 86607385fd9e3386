use Rattle.std.proofs.Common.{◌≡◌, ◌++◌, drop, map}
use Rattle.plane_spec.specs.Shown.{shown_share}
use Rattle.entity_messages.proofs.groups.shown_shares.Given as goal

abbrev pub invariant-loop-share : goal.invariant-loop-share
invariant-loop-share l = l.members ++ map shown_share (drop l.share-index l.shares) ≡ map shown_share l.shares
