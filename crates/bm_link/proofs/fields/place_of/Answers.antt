use Rattle.std.proofs.Common.{ap, ◌∙◌}
use Rattle.link_spec.specs.Fields.{header_place}
use Rattle.bm_link.proofs.fields.place_of.Goals as goal

pub returns : goal.returns
returns c = c.header_place.ensures ∙ ap (header_place c.args.fields.now.raw.now) c.as_str.ensures
