use Rattle.std.proofs.Common.{ℕ, ◌==◌, not, List, filter, ap, ◌∙◌, rules}
use Rattle.arrayvec.proofs.ArrayVecLemmas.{filter-from_retain}
use Rattle.match_index.proofs.seqs.Seqs.remove.Goals as goal

pub returns : goal.returns
returns c =
    filter-from_retain _ (λ (other : ℕ). not (other == c.args.seq)) _ (λ x b f' y called. search rules) c.self.inside.items.items _ c.retain.ensures.filtered
    ∙ ap (λ (xs : List ℕ). filter (λ other. not (other == c.args.seq)) xs) c.self.view_is
