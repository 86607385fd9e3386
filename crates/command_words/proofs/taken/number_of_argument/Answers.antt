use Rattle.std.proofs.Common.{◌∙◌, Some, None}
use Rattle.command_words.proofs.Values.{number_read}
use Rattle.clap.specs.Matches.{found_of}
use Rattle.command_words.proofs.taken.number_of_argument.Goals as goal

pub returns-in-Some-clause-number : goal.returns-in-Some-clause-number
returns-in-Some-clause-number c = c.number_in.ensures.number ∙ number_read (found_of c.args.matches.now) c.args.name.now c.args.low c.args.high (Some c.in-Some.word) c.in-Some.ensures

pub returns-in-None-clause-number : goal.returns-in-None-clause-number
returns-in-None-clause-number c = number_read (found_of c.args.matches.now) c.args.name.now c.args.low c.args.high None c.in-None.ensures
