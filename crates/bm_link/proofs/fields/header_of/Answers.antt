use Rattle.std.proofs.Common.{ap, ◌∙◌}
use Rattle.link_spec.specs.Fields.{header_at}
use Rattle.bm_link.proofs.fields.header_of.Goals as goal

pub returns : goal.returns
returns c = c.header_at.ensures.place ∙ ap (header_at c.args.fields.now.raw.now) c.as_str.ensures
