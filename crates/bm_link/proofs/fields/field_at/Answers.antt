use Rattle.std.proofs.Common.{ap₂, ◌∙◌}
use Rattle.link_spec.specs.Fields.{field_by}
use Rattle.bm_link.proofs.fields.field_at.Goals as goal

pub returns : goal.returns
returns c = c.field_by.ensures ∙ ap₂ (field_by c.args.fields.now.raw.now) c.as_str.ensures c.as_str-2.ensures
