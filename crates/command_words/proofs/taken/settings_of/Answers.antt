use Rattle.std.proofs.Common.{map, subst}
use Rattle.clap.specs.Matches.{found_of}
use Rattle.clap.specs.Walk.{rows_of}
use Rattle.command_words.specs.Taken.{Gives}
use Rattle.command_words.proofs.Matched.{only_settings}
use Rattle.command_words.proofs.taken.settings_of.Goals as goal

pub returns-in-Replay : goal.returns-in-Replay
returns-in-Replay c = only_settings c.args.verb (map (λ word. word.now) c.args.words.now) c.replay_settings.result c.requires
    (λ t e. c.replay_settings.ensures t (subst (λ v. Gives v t (rows_of (found_of c.in-Ok.matches))) c.in-Replay.is (c.in-Ok.ensures.matches t e)))

pub returns : goal.returns
returns c = only_settings c.args.verb (map (λ word. word.now) c.args.words.now) c.serve_settings.result c.requires
    (λ t e. c.serve_settings.ensures t (subst (λ v. Gives v t (rows_of (found_of c.in-Ok.matches))) c.in-Serve.is (c.in-Ok.ensures.matches t e)))
