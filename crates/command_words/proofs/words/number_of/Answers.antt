use Rattle.std.proofs.Common.{rules, sym}
use Rattle.command_words.proofs.Numbers.{number_written}
use Rattle.command_words.proofs.words.number_of.Goals as goal

pub returns-then-is_written : goal.returns-then-is_written
returns-then-is_written c = sym (number_written c.args.word.now c.in_ok-number.number (search rules) (search rules))
