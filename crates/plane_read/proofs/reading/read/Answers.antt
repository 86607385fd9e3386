use Rattle.std.proofs.Common.{map, ap, ◌∙◌, sym}
use Rattle.p4_types.specs.declared.info.Info.{Info}
use Rattle.switch_spec.specs.Reading.{entity_refusal, first_of, read_unless}
use Rattle.plane_read.proofs.reading.read.Goals as goal

pub returns-in-Some : goal.returns-in-Some
returns-in-Some g c =
    let info_is = c.info.ensures ∙ ap (λ config. config.info) c.config.ensures in
    let code_is = sym c.in-Some.is ∙ c.refusal.ensures ∙ ap (λ (info : Info). first_of (map (entity_refusal info) c.args.entities.now)) info_is in
    ap (λ o. read_unless o (g.C.Counts.figures c.args.counts.now) c.args.plane.now.now c.args.entities.now) code_is
