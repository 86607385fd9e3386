use Rattle.std.proofs.Common.{◌∙◌, ap, sym, map, codes, List}
use Rattle.std.proofs.lemmas.Result.{IfErr-weaker, IfOk-weaker}
use Rattle.std.specs.Option.{option_map}
use Rattle.clap.specs.Simple.{App, is_simple, matches_of}
use Rattle.clap.specs.Takes.{takes}
use Rattle.clap.specs.Walk.{Row}
use Rattle.command_words.specs.declared.words.Command.TheVariants as commands
use Rattle.command_words.specs.Taken.{number_at}
use Rattle.command_words.proofs.Singles.{gen_matches, gen_simple, gen_takes}
use Rattle.command_words.proofs.taken.gen_taken.Goals as goal

pub returns : goal.returns
returns c =
    let parse = c.try_get_matches_from in
    let app = c.in_ok-gen_command.ensures in
    let words = map (λ word. word.now) c.args.words.now in
    record {
      matches = IfOk-weaker parse.result _ _ (λ m h. gen_matches words c.requires
          ∙ ap (λ (lines : List Row). option_map commands.Gen (number_at (codes "number") 1 64 lines)) (sym ((h (ap is_simple app ∙ gen_simple)).0 ∙ ap (λ (a : App). matches_of a words) app))) parse.ensures.matches;
      memory = IfErr-weaker parse.result _ _ (λ e h. h (ap (λ (a : App). takes a words) app ∙ gen_takes words c.requires)) parse.ensures.passes;
    }
