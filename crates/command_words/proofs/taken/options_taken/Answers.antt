use Rattle.std.proofs.Common.{◌∙◌, ap, sym, subst, map}
use Rattle.std.proofs.lemmas.Result.{IfErr-weaker, IfOk-weaker}
use Rattle.clap.specs.Simple.{App, is_simple, matches_of}
use Rattle.clap.specs.Takes.{takes}
use Rattle.command_words.specs.Taken.{Gives}
use Rattle.command_words.proofs.Matched.{given_matches, simple, takes_settings}
use Rattle.command_words.proofs.taken.options_taken.Goals as goal

pub returns : goal.returns
returns c =
    let parse = c.try_get_matches_from in
    let app = c.in_ok-options_command.ensures in
    let verb = c.args.verb in
    let words = map (λ word. word.now) c.args.words.now in
    record {
      matches = IfOk-weaker parse.result _ _ (λ m h s e. subst (Gives verb s) (sym ((h (ap is_simple app ∙ simple verb)).0 ∙ ap (λ (a : App). matches_of a words) app)) (given_matches verb s words e)) parse.ensures.matches;
      memory = IfErr-weaker parse.result _ _ (λ e h. h (ap (λ (a : App). takes a words) app ∙ takes_settings verb words c.requires)) parse.ensures.passes;
    }
