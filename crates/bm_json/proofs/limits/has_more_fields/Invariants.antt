use Rattle.std.proofs.Common.{◌≡◌, ◌+◌, take, sum_by}
use Rattle.bm_json.specs.Limits.{fields_of}
use Rattle.bm_json.proofs.limits.has_more_fields.Given as goal

abbrev pub invariant-loop-header : goal.invariant-loop-header
invariant-loop-header l = l.room + sum_by (fields_of l.scope.raw.now.header_types) (take l.header-index l.headers) ≡ l.most
