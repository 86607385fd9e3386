use Rattle.std.proofs.Common.{◌≡◌, take, None}
use Rattle.match_index.specs.Scan.{first_named}
use Rattle.match_index.proofs.scan.first_named.Given as goal

abbrev pub invariant-loop-seq : goal.invariant-loop-seq
invariant-loop-seq l = first_named l.name l.entries (take l.seq-index l.seqs) ≡ None
