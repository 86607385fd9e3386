use Rattle.std.proofs.Common.{◌≡◌, take}
use Rattle.link_spec.specs.Fields.{headers_from}
use Rattle.bm_link.proofs.headers.headers_of.Given as goal

abbrev pub invariant-loop-place : goal.invariant-loop-place
invariant-loop-place l = l.headers ≡ headers_from l.fields.raw.now 0 0 (take l.place l.fields.raw.now.headers)
