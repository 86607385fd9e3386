use Rattle.std.proofs.Common.{◌≡◌, true, false, is_some, rules, arith}
use Rattle.match_index.proofs.Named.{walk_ends, walk_goes_on}
use Rattle.match_index.proofs.scan.first_named.Goals as goal

pub returns-then-is_some : goal.returns-then-is_some
returns-then-is_some c =
    let some : is_some c.named_at-found.result ≡ true = search rules in
    walk_ends (λ entry. entry.now) c.named_at-found.result c.args.name.now c.args.entries.now c.args.seqs.now c.loop-seq.seq-index 0 (omega arith) c.loop-seq.invariant some c.named_at-found.ensures

pub loop-seq-preserved : goal.loop-seq-preserved
loop-seq-preserved c =
    let none : is_some c.named_at-found.result ≡ false = search rules in
    walk_goes_on (λ entry. entry.now) c.named_at-found.result c.args.name.now c.args.entries.now c.args.seqs.now c.loop-seq.seq-index 0 (omega arith) c.loop-seq.invariant none c.named_at-found.ensures
