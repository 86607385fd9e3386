use Rattle.std.proofs.Common.{◌≡◌, ◌+◌, ◌-◌}
use Rattle.sw_edge.specs.Memory.{after_calls, unpicked}
use Rattle.sw_edge.proofs.count.Picks.call_until.Given as goal

abbrev pub invariant-loop-before : goal.invariant-loop-before
invariant-loop-before l = record {
  counted : l.self ≡ after_calls l.before l.initial.self;
  left : unpicked l.most l.initial.self ≡ l.before + unpicked (l.most - l.before) l.self;
}
