use Rattle.std.proofs.Common.{◌≡◌, ◌++◌, drop, filter}
use Rattle.plane_read.specs.Answered.{answered_multicast}
use Rattle.switch_spec.specs.Reading.{is_asked_id}
use Rattle.plane_read.proofs.multicast.push_each.Given as goal

abbrev pub invariant-loop-group : goal.invariant-loop-group
invariant-loop-group l =
    l.answer ++ answered_multicast (filter (λ group. is_asked_id l.asked group.id) (drop l.group-index l.groups))
    ≡ l.initial.answer ++ answered_multicast (filter (λ group. is_asked_id l.asked group.id) l.groups)
