use Rattle.std.proofs.Common.{ap, sym, ◌∙◌}
use Rattle.link_spec.specs.Objects.{primitive_of}
use Rattle.bm_link.proofs.objects.RawPrimitiveLinkPrimitive.link.Goals as goal

pub returns-in-AssignHeader : goal.returns-in-AssignHeader
returns-in-AssignHeader c = c.assign_header.ensures ∙ sym (ap (primitive_of c.args.scope.now.fields.raw.now c.args.scope.now.info.now) c.in-AssignHeader.is)
