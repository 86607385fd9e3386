use Rattle.std.proofs.Common.{◌≡◌, drop}
use Rattle.plane_spec.specs.UpdateRules.{all_zero}
use Rattle.write_rules.proofs.matches.all_zero.Given as goal

abbrev pub invariant-loop-byte : goal.invariant-loop-byte
invariant-loop-byte l = all_zero (drop l.byte-index l.bytes) ≡ all_zero l.bytes
