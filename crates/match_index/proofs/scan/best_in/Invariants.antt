use Rattle.std.proofs.Common.{◌≡◌, take}
use Rattle.std.specs.Option.{option_map}
use Rattle.match_index.specs.Scan.{best_in}
use Rattle.match_index.proofs.scan.best_in.Given as goal

abbrev pub invariant-loop-seq : goal.invariant-loop-seq
invariant-loop-seq l = option_map (λ entry. entry.now) l.found ≡ best_in l.table l.key l.entries (option_map (λ entry. entry.now) l.fn.so_far) (take l.seq-index l.seqs)
