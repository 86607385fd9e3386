use Rattle.std.proofs.Common.{ap, ◌∙◌}
use Rattle.name_index.specs.Names.{named}
use Rattle.name_index.proofs.lookup.Index.named.Goals as goal

pub returns : goal.returns
returns g c = c.named_at.ensures ∙ ap (λ name. named g.T.Labelled.label name c.args.self.now) c.as_str.ensures
