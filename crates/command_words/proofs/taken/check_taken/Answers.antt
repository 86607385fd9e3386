use Rattle.std.proofs.Common.{◌∙◌, ap, map}
use Rattle.std.proofs.lemmas.Result.{IfErr-weaker}
use Rattle.clap.specs.Simple.{App}
use Rattle.clap.specs.Takes.{takes}
use Rattle.command_words.proofs.Singles.{check_takes}
use Rattle.command_words.proofs.taken.check_taken.Goals as goal

pub returns : goal.returns
returns c =
    let parse = c.try_get_matches_from in
    let words = map (λ word. word.now) c.args.words.now in
    record { memory = IfErr-weaker parse.result _ _ (λ e h. h (ap (λ (a : App). takes a words) c.check_command.ensures ∙ check_takes words c.requires)) parse.ensures.passes }
