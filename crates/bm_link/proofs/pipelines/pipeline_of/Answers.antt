use Rattle.std.proofs.Common.{sym, subst}
use Rattle.bm_pipeline.specs.Validity.{IsValid}
use Rattle.link_spec.proofs.Valid.{is_valid}
use Rattle.bm_link.proofs.pipelines.pipeline_of.Goals as goal

pub new-requires : goal.new-requires
new-requires c = subst IsValid (sym c.in_ok-program.ensures) (is_valid c.args.raw.now c.args.info.now c.requires.sound c.requires.within c.requires.agrees)
