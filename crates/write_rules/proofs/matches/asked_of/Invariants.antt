use Rattle.std.proofs.Common.{◌≡◌, drop}
use Rattle.plane_spec.specs.UpdateRules.{asked_of}
use Rattle.write_rules.proofs.matches.asked_of.Given as goal

abbrev pub invariant-loop-asked : goal.invariant-loop-asked
invariant-loop-asked l = asked_of l.id (drop l.asked-index l.matches) ≡ asked_of l.id l.matches
