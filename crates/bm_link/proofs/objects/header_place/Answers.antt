use Rattle.std.proofs.Common.{[], ap, sym, ◌∙◌}
use Rattle.link_spec.specs.Fields.{header_place, of_part}
use Rattle.bm_link.proofs.objects.header_place.Goals as goal

pub returns-in-Served : goal.returns-in-Served
returns-in-Served c = c.place_of.ensures ∙ sym (ap (λ header. header_place c.args.fields.now.raw.now (of_part [] (λ name. name) header)) c.in-Served.is)

pub returns-in-LeftOut : goal.returns-in-LeftOut
returns-in-LeftOut c = c.header_place.ensures ∙ sym (ap (λ header. header_place c.args.fields.now.raw.now (of_part [] (λ name. name) header)) c.in-LeftOut.is)
