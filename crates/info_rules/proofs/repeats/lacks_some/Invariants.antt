use Rattle.std.proofs.Common.{◌≡◌, take, false}
use Rattle.std.specs.Ordering.{eq_by_cmp}
use Rattle.info_rules.specs.Rules.{lacks_some}
use Rattle.info_rules.proofs.repeats.lacks_some.Given as goal

abbrev pub invariant-loop-part : goal.invariant-loop-part
invariant-loop-part g l = lacks_some (eq_by_cmp g.T.Ord.cmp) l.whole (take l.part-index l.parts) ≡ false
