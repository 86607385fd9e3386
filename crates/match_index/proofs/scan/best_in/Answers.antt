use Rattle.std.proofs.Common.{Option, get_or, sym, ap, ◌∙◌, arith}
use Rattle.std.specs.Option.{option_map}
use Rattle.std.proofs.lemmas.List.Sums.{fold_more}
use Rattle.p4_types.specs.declared.table.Entry.{Entry}
use Rattle.match_index.specs.Scan.{better_at}
use Rattle.match_index.proofs.scan.best_in.Goals as goal

pub loop-seq-preserved : goal.loop-seq-preserved
loop-seq-preserved c =
    c.better_at-found.ensures
    ∙ ap (λ (so_far : Option Entry). better_at c.args.table c.args.key.now c.args.entries.now so_far (get_or c.args.seqs.now c.loop-seq.seq-index 0)) c.loop-seq.invariant
    ∙ sym (fold_more (better_at c.args.table c.args.key.now c.args.entries.now) (option_map (λ entry. entry.now) c.args.so_far) c.args.seqs.now c.loop-seq.seq-index 0 (omega arith))
