use Rattle.std.proofs.Common.{rules, ap, ◌∙◌}
use Rattle.std.proofs.lemmas.Fn.{dedup_same}
use Rattle.std.proofs.lemmas.List.Sorted.{IsPermutation-map}
use Rattle.bm_records.specs.Firsts.{numbered}
use Rattle.bm_records.proofs.FirstOfName.{Borrowed, have_one_name, firsts-IsPermutation, dedup_is_firsts}
use Rattle.bm_records.proofs.pipelines.keep_firsts.Goals as goal

pub returns : goal.returns
returns c =
    let sorted = c.sort_unstable.new.self.items in
    let kept = dedup_same _ have_one_name _ (λ x y b f' x' y' k. search rules) sorted c.dedup_by.new.self.items c.dedup_by.ensures.filtered in
    ap numbered kept ∙ dedup_is_firsts sorted c.sort_unstable.ensures.sorted
    ∙ firsts-IsPermutation (numbered c.args.pairs.now.items) (numbered sorted) (IsPermutation-map (λ (p : Borrowed). (p.0.now, p.1)) c.args.pairs.now.items sorted c.sort_unstable.ensures.permutation)
