use Rattle.std.proofs.Common.{◌≡◌, map, take}
use Rattle.switch_spec.specs.Notices.{standing_notice}
use Rattle.call_outcomes.proofs.notices.standing_notices.Given as goal

abbrev pub invariant-loop-lane : goal.invariant-loop-lane
invariant-loop-lane l = l.list ≡ map (standing_notice l.device l.roles l.role) (take l.lane-index l.lanes)
