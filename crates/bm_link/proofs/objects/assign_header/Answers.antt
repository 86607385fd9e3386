use Rattle.std.proofs.Common.{ap₂}
use Rattle.bm_pipeline.specs.declared.actions.Primitive.TheVariants as primitives
use Rattle.bm_link.proofs.objects.assign_header.Goals as goal

pub returns : goal.returns
returns c = ap₂ (λ to from. primitives.AssignHeader to from) c.header_place-to.ensures c.header_place-from.ensures
