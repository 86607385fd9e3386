use Rattle.std.proofs.Common.{◌∙◌}
use Rattle.clap.proofs.WalkLemmas.{one_text-rows}
use Rattle.clap.specs.Matches.{found_of}
use Rattle.command_words.proofs.Values.{flag_is}
use Rattle.command_words.proofs.taken.is_given.Goals as goal

pub returns : goal.returns
returns c = λ given e. flag_is given c.get_flag.result _ c.get_flag.ensures.value c.get_flag.ensures.other (one_text-rows (found_of c.args.matches.now) c.args.name.now ∙ e)
