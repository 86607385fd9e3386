use Rattle.std.proofs.Common.{◌≡◌, ◌+◌, take, sum_by}
use Rattle.bm_rules.specs.Fields.{part_bytes}
use Rattle.bm_rules.proofs.keys.key_exceeds.Given as goal

abbrev pub invariant-loop-field : goal.invariant-loop-field
invariant-loop-field l = l.room + sum_by (part_bytes l.scope.raw.now) (take l.field-index l.fields) ≡ 16
