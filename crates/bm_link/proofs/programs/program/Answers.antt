use Rattle.std.proofs.Common.{◌≡◌, IfOk, subst}
use Rattle.link_spec.specs.Linked.{program_of}
use Rattle.bm_link.proofs.programs.program.Goals as goal

pub returns : goal.returns
returns c =
    subst (λ raw. IfOk c.program_in.result (λ p. p ≡ program_of raw c.args.info.now)) c.in_ok-scope.ensures.program
    (subst (λ info. IfOk c.program_in.result (λ p. p ≡ program_of c.in_ok-scope.scope.fields.raw.now info)) c.in_ok-scope.ensures.info c.program_in.ensures)
