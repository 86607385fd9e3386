use Rattle.std.proofs.Common.{ap, ◌∙◌}
use Rattle.name_index.specs.Names.{place_of}
use Rattle.name_index.proofs.lookup.Index.place.Goals as goal

pub returns-clause-place : goal.returns-clause-place
returns-clause-place g c = c.place_at.ensures.place ∙ ap (λ name. place_of g.T.Labelled.label name c.args.self.now) c.as_str.ensures
