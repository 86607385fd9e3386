use Rattle.std.proofs.Common.{◌≡◌, ◌++◌, drop, Some}
use Rattle.list_types.specs.Options.{◌>>=◌}
use Rattle.bm_records.specs.Firsts.{numbered}
use Rattle.bm_records.specs.Members.{members_at}
use Rattle.bm_records.specs.Pipelines.{each_next}
use Rattle.bm_records.proofs.pipelines.each_next.Given as goal

abbrev pub invariant-loop-name : goal.invariant-loop-name
invariant-loop-name l = (each_next (members_at l.members.1 (numbered (drop l.name-index l.found))) >>= λ rest. Some (l.nexts ++ rest)) ≡ each_next (members_at l.members.1 (numbered l.found))
