use Rattle.std.proofs.Common.{◌≡◌, ℕ, List, ap, ◌∙◌, rules}
use Rattle.match_index.specs.Scan.{first_named}
use Rattle.match_index.specs.Shapes.{numbers_of}
use Rattle.match_index.proofs.Named.{found_by_name}
use Rattle.match_index.proofs.index.MatchIndex.find.Goals as goal

pub returns : goal.returns
returns c =
    let seqs : c.numbers_of-seqs.result.now ≡ numbers_of c.args.self.now.shapes.items c.args.name.now.tests = search rules in
    c.first_named.ensures ∙ ap (λ (ns : List ℕ). first_named c.args.name.now c.args.entries.now ns) seqs ∙ found_by_name c.args.name.now c.args.entries.now c.args.self.now.shapes.items c.requires.order c.requires.covered
